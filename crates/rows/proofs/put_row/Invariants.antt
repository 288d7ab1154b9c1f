-- `rows::put_row` meets its contract: the invariant says that the first f bits of the row are put. Assumes nothing.
use Rattle.words.specs.Inner.Words.{column}
use Rattle.rows.specs.Inner.Rows.{RowPut}
use Rattle.rows.proofs.put_row.Given as goal

abbrev pub invariant-loop-f : goal.invariant-loop-f
invariant-loop-f l = RowPut l.z l.p (column l.held l.p) l.f l.initial.out l.out
