-- `grow::asks_new` meets its contract: the test in its two cases, a term that asks for a fact and any other. Assumes nothing.
use mathlib.Core.Path.{◌∙◌}
use borrow.Author.Tests.{le-ltb}
use Rattle.grow.proofs.TableLaws.{new_low, new_high}
use Rattle.grow.proofs.asks_new.Goals as goal

pub returns-then-g-lt-LEVEL_SIZE : goal.returns-then-g-lt-LEVEL_SIZE
returns-then-g-lt-LEVEL_SIZE c = new_low _ _ _ _ c.from-g.ensures c.if-g-lt-LEVEL_SIZE.true

pub returns-else-g-lt-LEVEL_SIZE : goal.returns-else-g-lt-LEVEL_SIZE
returns-else-g-lt-LEVEL_SIZE c =
    le-ltb _ 160 c.if-g-lt-LEVEL_SIZE.false ∙ new_high _ _ _ _ c.from-g.ensures c.if-g-lt-LEVEL_SIZE.false
