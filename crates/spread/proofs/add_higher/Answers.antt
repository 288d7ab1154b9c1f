-- `spread::add_higher` meets its contract: the invariant says that the flags from 320 + k on are set for the persons, and that `on` is the last of them,
-- unless k is the lowest value of its attribute. Assumes nothing.
use mathlib.Core.Path.{refl}
use Rattle.spread.proofs.SpreadLaws.{higher_lit_more}
use Rattle.spread.proofs.add_higher.Goals as goal

pub loop-k-preserved : goal.loop-k-preserved
loop-k-preserved c =
    higher_lit_more c.loop-k.invariant c.loop-k-test.true c.requires.0 refl c.only.ensures
    c.add.ensures
