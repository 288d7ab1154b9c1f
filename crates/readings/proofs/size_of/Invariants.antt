-- `readings::size_of` meets its contract. The invariant: n is how many numbers below v are members, at most v. Assumes nothing.
use mathlib.Core.Path.{◌≡◌}
use Prim.Native.Nat.{◌≤◌}
use Rattle.answers.specs.Answers.{size}
use Rattle.readings.proofs.size_of.Given as goal

abbrev pub invariant-loop-v : goal.invariant-loop-v
invariant-loop-v l = (l.n ≡ size l.x l.v) × (l.n ≤ l.v)
