-- `persons::meets` meets its contract: the invariant says that the terms from the one at hand on decide, of those left. What a term
-- asks is a flag (`term_fits`). Assumes nothing.
use Rattle.persons.proofs.FiringLaws.{MeetingSoFar}
use Rattle.persons.proofs.meets.Given as goal

abbrev pub invariant-loop-k : goal.invariant-loop-k
invariant-loop-k l = MeetingSoFar l.ms l.at l.all l.held l.who l.k-index
