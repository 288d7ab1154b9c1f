-- `grow::bars` meets its contract: of another fact still to come the terms decide, of any other nothing is asked. Assumes nothing.
use mathlib.Core.Path.{◌∙◌}
use Rattle.grow.proofs.TableLaws.{bars_left, bars_idle}
use Rattle.grow.proofs.bars.Goals as goal

pub returns-then-h-f : goal.returns-then-h-f
returns-then-h-f c = bars_left _ _ _ _ _ c.if-h-f.true c.has_term.ensures

pub returns-else-h-f : goal.returns-else-h-f
returns-else-h-f c = c.if-h-f.false ∙ bars_idle _ _ _ _ _ c.if-h-f.false
