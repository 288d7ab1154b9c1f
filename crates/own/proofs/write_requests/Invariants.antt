-- `own::write_requests` meets its contract: the requests of the first `i` facts are written (`Writing`). Assumes nothing.
use Rattle.level.specs.Inner.Moves.{moves_in}
use Rattle.own.proofs.RequestLaws.{Writing}
use Rattle.own.proofs.write_requests.Given as goal

abbrev pub invariant-loop-i : goal.invariant-loop-i
invariant-loop-i l = Writing (moves_in l.ms) l.by l.order l.person l.initial.up l.n l.i l.up
