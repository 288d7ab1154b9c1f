-- `search::fill_reach` meets its contract: row by row, from the crews below. Assumes nothing.
use mathlib.Core.Path.{◌≡◌}
use lib.ListN.{length}
use Rattle.search.proofs.StepLaws.{ReachSoFar}
use Rattle.search.proofs.fill_reach.Given as goal

abbrev pub invariant-loop-k : goal.invariant-loop-k
invariant-loop-k l = ReachSoFar l.juniors l.k l.reach × (length l.table ≡ 5280)
