-- All terms of a move with its own fact put in: each is looked up with that fact. Assumes nothing.
use mathlib.Core.Path.{sym, ◌∙◌}
use mathlib.Core.Bool.{false, ◌||◌}
use Prim.Native.Nat.{◌<◌}
use lib.ListN.{get_or}
use Rattle.std.proofs.Common.{rules}
use Rattle.std.proofs.iter.Serving.{serving}
use Rattle.shown.specs.Inner.Shown.{touches}
use Rattle.level.proofs.MoveLaws.{fact_fits}
use Rattle.level.proofs.BackSweepLaws.{with_read}
use Rattle.level.proofs.meets_with.Goals as goal

pub do_all_show-requires-clause-callable : goal.do_all_show-requires-clause-callable
do_all_show-requires-clause-callable c =
    let f : c.from-f.result < 160 = fact_fits c.args.ms.now c.args.at c.requires.move_size_in_bounds.1 c.from-f.ensures in
    grind (serving, f)

pub returns : goal.returns
returns c =
    c.do_all_show.ensures (λ k. get_or c.args.x.now k false || touches c.args.table.now c.from-f.result k)
    (λ k b h. search rules)
    ∙ sym (with_read c.args.ms.now c.args.at c.args.table.now c.args.x.now c.from-f.ensures)
