-- The rows are copied, and the row behind them is cleared. Assumes nothing.
use Rattle.flags.proofs.FlagLaws.{person_table-all}
use Rattle.flags.proofs.person_table.Goals as goal

pub returns : goal.returns
returns c = person_table-all c.requires.1 c.copy_flags.ensures c.clear_flags.ensures
