-- A fact put into whole flags: among the first 320, and behind them what follows. Assumes nothing.
use Rattle.shown.proofs.HigherLaws.{put_falls, put_raised, put-extended}
use Rattle.build.proofs.put_whole.Goals as goal

pub raise-requires : goal.raise-requires
raise-requires c = (c.if-f-lt-VALUES_SIZE.true, put_falls c.requires.1 c.put.ensures)

pub returns-then-f-lt-VALUES_SIZE : goal.returns-then-f-lt-VALUES_SIZE
returns-then-f-lt-VALUES_SIZE c = put_raised c.requires.1 c.put.ensures c.if-f-lt-VALUES_SIZE.true c.raise.ensures

pub returns-else-f-lt-VALUES_SIZE : goal.returns-else-f-lt-VALUES_SIZE
returns-else-f-lt-VALUES_SIZE c = put-extended c.requires.1 c.put.ensures c.extend.ensures
