-- `spread::add_row` meets its contract: the invariant says that the first k flags of the row are set for the persons.
-- Assumes nothing.
use Rattle.spread.proofs.SpreadLaws.{RowLit}
use Rattle.spread.proofs.add_row.Given as goal

abbrev pub invariant-loop-k : goal.invariant-loop-k
invariant-loop-k l = RowLit l.table l.c l.who l.initial.held l.held l.k
