-- `rows::put_value` meets its contract: the bit is put where the flag and the test are on. Assumes nothing.
use Rattle.words.specs.Inner.Words.{column}
use Rattle.rows.proofs.RowLaws.{value_shown, value_hidden}
use Rattle.rows.proofs.put_value.Goals as goal

pub returns-then-shown-value : goal.returns-then-shown-value
returns-then-shown-value c =
    value_shown c.args.z c.args.p (column c.args.held.now c.args.p) c.args.f c.args.out.now _ _
    (rw c.from.ensures at c.has-shown.ensures) c.is_value-value.ensures c.if-shown-value.true (rw (c.from-then-shown-value.ensures, c.from-then-shown-value-2.ensures) at c.put_at.ensures)

pub returns-else-shown-value : goal.returns-else-shown-value
returns-else-shown-value c =
    value_hidden c.args.z c.args.p (column c.args.held.now c.args.p) c.args.f c.args.out.now _ _
    (rw c.from.ensures at c.has-shown.ensures) c.is_value-value.ensures c.if-shown-value.false
