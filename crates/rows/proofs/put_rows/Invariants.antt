-- `rows::put_rows` meets its contract: the invariant says that the rows of the first p persons are what their flags show, and all others clear. Assumes
-- nothing.
use Rattle.rows.specs.Inner.Rows.{RowsShown}
use Rattle.rows.proofs.put_rows.Given as goal

abbrev pub invariant-loop-p : goal.invariant-loop-p
invariant-loop-p l = RowsShown l.z l.held l.p l.out
