-- The sweep of the additions. Its invariant is `Kept`, and `Adding`: the last `quiet` moves before `i` do not fire. A turn may take it to a move that `added`
-- names; nothing is claimed of the names but that there are 160. The measure counts the additions that may follow, the names that are left and the
-- moves that are not quiet. Assumes nothing.
use Prim.Native.Nat.{◌-◌}
use lib.ListN.{length}
use Rattle.level.specs.Inner.Moves.{moves_in}
use Rattle.level.proofs.TurnLaws.{steps_left}
use Rattle.level.proofs.SweepLaws.{Kept, Adding}
use Rattle.level.proofs.close.Given as goal

abbrev pub invariant-loop-turn : goal.invariant-loop-turn
invariant-loop-turn l = Kept (moves_in l.sweep.moves.now) l.sweep.subject l.sweep.table.now l.allowed l.initial.x l.x l.start l.initial.out l.out l.n × Adding (moves_in l.sweep.moves.now) l.allowed l.x (length l.added) l.turn.tried l.turn.i l.turn.quiet

abbrev pub decreases-loop-turn : goal.decreases-loop-turn
decreases-loop-turn l = steps_left l.count (160 - l.n) l.turn.tried l.turn.quiet
