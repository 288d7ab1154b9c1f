-- `grow::fails` meets its contract: a term that asks for a fact, one that asks that a fact is lacking, and any other. Assumes nothing.
use Rattle.grow.proofs.TableLaws.{fails_low, fails_middle, fails_high}
use Rattle.grow.proofs.fails.Goals as goal

pub returns-then-g-lt-LEVEL_SIZE : goal.returns-then-g-lt-LEVEL_SIZE
returns-then-g-lt-LEVEL_SIZE c = fails_low _ _ _ c.from-g.ensures c.if-g-lt-LEVEL_SIZE.true

pub returns-then-g-lt-IDLE_AT : goal.returns-then-g-lt-IDLE_AT
returns-then-g-lt-IDLE_AT c = fails_middle _ _ _ c.from-g.ensures c.if-g-lt-LEVEL_SIZE.false c.if-g-lt-IDLE_AT.true

pub returns-else-g-lt-IDLE_AT : goal.returns-else-g-lt-IDLE_AT
returns-else-g-lt-IDLE_AT c = fails_high _ _ _ c.from-g.ensures c.if-g-lt-IDLE_AT.false
