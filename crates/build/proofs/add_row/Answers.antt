-- A crew's row is added to the effective flags: before place `k` those below it are done. Assumes nothing.
use mathlib.Core.Path.{refl}
use Rattle.shown.proofs.ShownLaws.{row-none, row_more}
use Rattle.build.proofs.add_row.Goals as goal

pub loop-k-init : goal.loop-k-init
loop-k-init c = row-none c.args.table.now c.args.c c.args.x.now

pub loop-k-preserved : goal.loop-k-preserved
loop-k-preserved c = row_more _ c.loop-k.invariant c.loop-k-test.true c.requires.1.0 refl
