-- `persons::close` meets its contract: the invariant says that additions lead each person from what the person began with (`Growing`), and that the last
-- `quiet` moves before i fire for nobody. The measure counts the facts that the 64 persons lack, and the moves that are not quiet. Assumes nothing.
use Prim.Native.Nat.{◌-◌}
use Rattle.level.specs.Inner.Moves.{moves_in}
use Rattle.level.proofs.TurnLaws.{Sweeping, steps_left}
use Rattle.persons.proofs.EndLaws.{Growing, somebody, all_facts_lem}
use Rattle.persons.proofs.close.Given as goal

abbrev pub invariant-loop-quiet : goal.invariant-loop-quiet
invariant-loop-quiet l = Growing (moves_in l.adds) l.table l.all l.initial.held l.held × Sweeping (moves_in l.adds).count (somebody (moves_in l.adds) l.all l.held) 160 160 l.i l.quiet

abbrev pub decreases-loop-quiet : goal.decreases-loop-quiet
decreases-loop-quiet l = steps_left l.count (10240 - all_facts_lem l.held) 160 l.quiet
