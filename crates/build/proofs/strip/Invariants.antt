-- The facts that are not forbidden, place by place. Assumes nothing.
use mathlib.Core.Bool.{false, not, ◌&&◌}
use lib.ListN.{get_or}
use Rattle.build.proofs.BuildLaws.{SoFar}
use Rattle.build.proofs.strip.Given as goal

abbrev pub invariant-loop-k : goal.invariant-loop-k
invariant-loop-k l = SoFar (λ j. get_or l.x j false && not (get_or l.bad j false)) l.d l.k
