-- `own::is_wanted` meets its contract: a value by the named sets, a membership by the listed crews. Assumes nothing.
use Rattle.own.proofs.WantedLaws.{wanted_value, wanted_crew}
use Rattle.own.proofs.is_wanted.Goals as goal

pub returns-then-f-values : goal.returns-then-f-values
returns-then-f-values c = wanted_value _ _ c.if-f-values.true c.wants_value.ensures

pub returns-else-f-values : goal.returns-else-f-values
returns-else-f-values c = wanted_crew _ _ c.if-f-values.false c.has.ensures
