-- What a fact adds from place 320 on: a value by its place; a membership by its crew's row, where the value of that place or a higher one stands.
-- Assumes nothing.
use mathlib.Core.Path.{◌∙◌}
use native.Mathlib.Omega.{arith}
use Rattle.shown.specs.Inner.Shown.{not_higher}
use Rattle.shown.proofs.HigherLaws.{touch_not_higher, touch_handed_on}
use Rattle.shown.proofs.touch_higher.Goals as goal

pub returns-then-f-lt-VALUES_SIZE : goal.returns-then-f-lt-VALUES_SIZE
unfolding not_higher
returns-then-f-lt-VALUES_SIZE c = touch_not_higher c.args.table.now c.args.f c.args.k c.if-f-lt-VALUES_SIZE.true

pub returns : goal.returns
returns c = c.contains.ensures.value ∙ touch_handed_on c.args.table.now c.args.f c.args.k _ _ (omega arith) c.requires.0 c.requires.1.0 c.requires.1.1 (omega arith) (omega arith)
