-- `spread::put_whole` meets its contract: the fact itself, that it is effective, and what follows from it are together what the fact adds. Assumes
-- nothing.
use native.Mathlib.Omega.{arith}
use Rattle.spread.proofs.SpreadLaws.{lit_value, lit_crew}
use Rattle.spread.proofs.put_whole.Goals as goal

pub returns-then-f-lt-VALUES_SIZE : goal.returns-then-f-lt-VALUES_SIZE
returns-then-f-lt-VALUES_SIZE c =
    lit_value _ c.add.ensures c.add-2.ensures c.if-f-lt-VALUES_SIZE.true c.raise.ensures

pub returns : goal.returns
returns c =
    lit_crew _ c.add.ensures c.add-2.ensures (omega arith) c.requires.0
    c.add_row.ensures c.add_higher.ensures
