-- `persons::settle` meets its contract: persons who have begun are whole, and so the sweep brings each to the end. Assumes nothing.
use Rattle.persons.proofs.EndLaws.{persons_end}
use Rattle.persons.proofs.settle.Goals as goal

pub returns : goal.returns
returns c =
    persons_end c.start-all.ensures c.close.ensures
