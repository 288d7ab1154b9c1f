-- `frames::is_twice` meets its contract: of the rules from some one on it is left to say whether two have the same op, a and v, since none
-- before them has those of one behind it. Assumes nothing.
use Rattle.std.proofs.Common.{◌≡◌, length}
use Rattle.frames.specs.Limits.{twice}
use Rattle.frames.proofs.is_twice.Given as goal

abbrev pub invariant-loop-rest : goal.invariant-loop-rest
invariant-loop-rest l = twice l.fn.rs ≡ twice l.rest

abbrev pub decreases-loop-rest : goal.decreases-loop-rest
decreases-loop-rest l = length l.rest
