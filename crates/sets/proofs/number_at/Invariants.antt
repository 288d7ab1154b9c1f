-- `sets::number_at` meets its contract: `number` is what the bytes before the turn write.
use mathlib.Core.Path.{◌≡◌}
use Rattle.sets.specs.Sets.{number_at}
use Rattle.sets.proofs.number_at.Given as goal

abbrev pub invariant-loop-byte : goal.invariant-loop-byte
invariant-loop-byte l = l.number ≡ number_at l.s l.at l.byte-index
