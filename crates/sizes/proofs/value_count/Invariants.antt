-- `sizes::value_count` meets its contract: n is the sum of the counts before the turn.
use mathlib.Core.Path.{◌≡◌}
use Rattle.quantifiers.specs.Quantifiers.{sum_below}
use Rattle.sizes.specs.Sizes.{values_of}
use Rattle.sizes.proofs.value_count.Given as goal

abbrev pub invariant-loop-a : goal.invariant-loop-a
invariant-loop-a l = l.n ≡ sum_below (values_of l.z) l.a
