-- The refusal of a frame of which only the front was kept. No promise needs these: law `long_bad` says that `verdict` gives the same.
use Rattle.std.specs.Prelude.{ℕ, not, cond, List, eqb}
use Rattle.lines.specs.Digits.{byte_at}
use Rattle.gate.specs.declared.Known.{Known}
use Rattle.gate.specs.declared.Fault.{Fault}
use Rattle.gate.specs.declared.Fault.TheVariants.{Misplaced, Mislengthed, Outside}
use Rattle.gate.specs.Gate.{misplaced, length_of}

-- The length that a frame's first bytes give: the kind is byte 0, the mode byte 1, the A byte 3, the n or q byte 5.
abbrev pub due_length : List ℕ → ℕ
due_length x = length_of (byte_at x 0) (byte_at x 1) (byte_at x 3) (byte_at x 5)

-- The lowest refusal of a frame of n bytes, over 64, whose first 64 are x: 3, or 4, or else 5, since only an A, n or q over 8
-- gives such a length.
unfoldable pub long_fault : Known → List ℕ → ℕ → Fault
long_fault k x n = cond (misplaced k (byte_at x 0)) Misplaced (cond (not (eqb n (due_length x))) Mislengthed Outside)
