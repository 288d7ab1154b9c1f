-- `sets::padded_number_at` meets its contract: `number` is what the bytes before the turn write, those past the end being 0.
use mathlib.Core.Path.{◌≡◌}
use Prim.Native.Nat.{◌-◌}
use Rattle.sets.specs.Sets.{number_at}
use Rattle.sets.proofs.padded_number_at.Given as goal

abbrev pub invariant-loop-i : goal.invariant-loop-i
invariant-loop-i l = l.number ≡ number_at l.s l.at (l.i - l.at)
