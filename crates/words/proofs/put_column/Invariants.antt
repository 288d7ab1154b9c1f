-- `words::put_column` meets its contract: the invariant says that the first k flags of the person are written, and that all other persons' stand. Assumes
-- nothing.
use Rattle.words.proofs.WordLaws.{PutSoFar}
use Rattle.words.proofs.put_column.Given as goal

abbrev pub invariant-loop-k : goal.invariant-loop-k
invariant-loop-k l = PutSoFar l.p l.s l.initial.held l.held l.k
