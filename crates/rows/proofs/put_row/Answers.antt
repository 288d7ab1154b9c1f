-- `rows::put_row` meets its contract: the invariant says that the first f bits of the row are put. Assumes nothing.
use mathlib.Core.Path.{sym, subst}
use mathlib.Core.List.{List}
use Prim.Native.Nat.{ℕ, ◌+◌}
use Rattle.words.specs.Inner.Words.{column}
use Rattle.rows.specs.Inner.Rows.{RowPut}
use Rattle.rows.proofs.RowLaws.{row_more}
use Rattle.rows.proofs.put_row.Goals as goal

pub loop-f-preserved : goal.loop-f-preserved
loop-f-preserved c =
    subst (λ (l : List ℕ). RowPut c.args.z c.args.p (column c.args.held.now c.args.p) (c.loop-f.f + 1)
    c.args.out.now l)
    (sym c.put_value.ensures)
    (row_more c.requires.p_bound.0 c.loop-f-test.true c.requires.row_clear c.loop-f.invariant)
