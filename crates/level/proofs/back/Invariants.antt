-- The sweep that puts deletions back. Its invariant is `KeptBack`, and `Backing`: the last `quiet` moves before `i` put nothing back. Its turns and its
-- measure are those of `close`; its notes go downwards from `end`. Assumes nothing.
use lib.ListN.{length}
use Rattle.level.specs.Inner.Moves.{moves_in}
use Rattle.level.proofs.TurnLaws.{steps_left}
use Rattle.level.proofs.BackSweepLaws.{KeptBack, Backing}
use Rattle.level.proofs.back.Given as goal

abbrev pub invariant-loop-turn : goal.invariant-loop-turn
invariant-loop-turn l = KeptBack (moves_in l.sweep.moves.now) l.sweep.subject l.sweep.table.now l.bad l.x l.y l.end l.initial.out l.out l.at × Backing (moves_in l.sweep.moves.now) l.sweep.table.now l.x l.y (length l.deleted) l.turn.tried l.turn.i l.turn.quiet

abbrev pub decreases-loop-turn : goal.decreases-loop-turn
decreases-loop-turn l = steps_left l.count l.at l.turn.tried l.turn.quiet
