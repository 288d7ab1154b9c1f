-- `bixorgun::write_view` meets its contract: the first i sets are written; the measure is how many are left. Assumes nothing.
use mathlib.Core.Path.{◌≡◌, ap, ◌∙◌}
use mathlib.Core.List.{List}
use Prim.Native.Nat.{ℕ}
use native.Mathlib.Omega.{arith}
use lib.ListN.{length}
use Rattle.bixorgun.specs.Codes.{put_two}
use Rattle.bixorgun.proofs.CodeLaws.{sets_none, sets_more, view_all}
use Rattle.bixorgun.proofs.write_view.Goals as goal

pub loop-i-init : goal.loop-i-init
loop-i-init c = sets_none _ _

pub loop-i-preserved : goal.loop-i-preserved
loop-i-preserved c =
    let eight : length c.args.sets ≡ 8 = omega arith in
    let written = c.loop-i.invariant in
    sets_more eight c.requires written c.loop-i-test.true c.put_two.ensures

pub returns : goal.returns
returns c =
    let eight : length c.args.sets ≡ 8 = omega arith in
    let written = c.loop-i.invariant in
    c.put_two-3.ensures
    ∙ ap (λ (v : List ℕ). put_two v 18 c.args.crews) c.put_two-2.ensures
    ∙ view_all eight c.requires written c.loop-i-test.false c.args.crews
