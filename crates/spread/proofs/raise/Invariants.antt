-- `spread::raise` meets its contract: the invariant says that the flags of the attribute's values below k are set for the persons. Assumes
-- nothing.
use Rattle.spread.proofs.SpreadLaws.{RaisedLit}
use Rattle.spread.proofs.raise.Given as goal

abbrev pub invariant-loop-k : goal.invariant-loop-k
invariant-loop-k l = RaisedLit l.f l.who l.initial.held l.held l.k
