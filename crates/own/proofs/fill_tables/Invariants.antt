-- `own::fill_tables` meets its contract: the first `k` moves are entered (`Entered`). Assumes nothing.
use Rattle.level.specs.Inner.Moves.{moves_in}
use Rattle.own.specs.Inner.Entered.{Entered}
use Rattle.own.proofs.fill_tables.Given as goal

abbrev pub invariant-loop-k : goal.invariant-loop-k
invariant-loop-k l = Entered (moves_in l.ms) l.k l.us l.ts l.by
