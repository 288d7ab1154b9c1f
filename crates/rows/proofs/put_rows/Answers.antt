-- `rows::put_rows` meets its contract: the invariant says that the rows of the first p persons are what their flags show, and all others clear. Assumes
-- nothing.
use Rattle.rows.proofs.RowLaws.{rows_none}
use Rattle.rows.proofs.put_rows.Goals as goal

pub loop-p-init : goal.loop-p-init
loop-p-init c = rows_none c.requires.cleared c.args.z c.args.held.now
