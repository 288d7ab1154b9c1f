-- `spread::add_higher` meets its contract: the invariant says that the flags from 320 + k on are set for the persons, and that `on` is the last of them,
-- unless k is the lowest value of its attribute. Assumes nothing.
use Rattle.spread.proofs.SpreadLaws.{HigherLit}
use Rattle.spread.proofs.add_higher.Given as goal

abbrev pub invariant-loop-k : goal.invariant-loop-k
invariant-loop-k l = HigherLit l.table l.c l.who l.initial.held l.held l.on l.k
