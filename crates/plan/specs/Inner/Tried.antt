-- What planning with a buffer that may be too short comes to. No part of what the program promises.
use Rattle.std.specs.Prelude.{Option, Some, None, ◌≡◌, Bool, false, List, ℕ, ◌≤◌, eqb, length, take}
use Rattle.planner.specs.Answer.{Said, said80, said81, said8_f}
use Rattle.plan.specs.Printed.{Printed}

-- Refusal 10.
abbrev pub is_short : Said → Bool
is_short said80 = false
is_short (said81 n) = false
is_short (said8_f number line) = eqb number 10

-- The answer's characters are the first `end` of the text; or there are none, and the text is as it was.
abbrev pub PrintedIfRoom : List ℕ → List ℕ → Option ℕ → List ℕ → Type 0
PrintedIfRoom book before None after = after ≡ before
PrintedIfRoom book before (Some end) after = (end ≤ length after) × Printed book (take end after)
