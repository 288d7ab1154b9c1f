-- `own::write_requests` meets its contract: the requests of the first `i` facts are written (`Writing`). Assumes nothing.
use mathlib.Core.Path.{◌∙◌}
use Prim.Native.Nat.{◌<◌}
use native.Mathlib.Omega.{arith}
use lib.Seq.{length-take-le}
use Rattle.std.proofs.lemmas.List.{get_or-take}
use Rattle.own.proofs.RequestLaws.{writing_none, writing_more}
use Rattle.own.proofs.write_requests.Goals as goal

pub loop-i-init : goal.loop-i-init
loop-i-init c = writing_none _ _ _ _ _ _

pub loop-i-preserved : goal.loop-i-preserved
loop-i-preserved c =
    let l : c.loop-i.i < c.args.n = omega (arith, length-take-le c.args.n c.args.order.now c.requires.few) in
    writing_more c.loop-i.invariant l c.requires.few (c.from.ensures ∙ get_or-take c.args.n c.args.order.now c.loop-i.i 0 l) c.from-k.ensures
    c.move_at.ensures c.note.ensures
