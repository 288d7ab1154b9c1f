-- What the reader's steps answer of one line and of the whole book. No promise of the paper needs these: they name the steps of `walk`.
use Rattle.std.specs.Prelude.{Result, Ok, Err, Option, None, Some, ℕ, Bool, not, cond, ◌&&◌, ◌||◌, List, take, length, ◌≤◌}
use Rattle.gate.specs.Gate.{Verdict, Good, Bad, verdict}
use Rattle.gate.specs.Inner.Long.{long_fault}
use Rattle.gate.specs.declared.Known.{Known}
use Rattle.gate.specs.declared.Fault.{Fault}
use Rattle.gate.specs.declared.Fault.TheVariants.{Malformed, BeyondNot, WrongMode}
use Rattle.reader.specs.declared.Frame.{Frame}
use Rattle.reader.specs.declared.Frame.TheVariants.{Bytes, Long}
use Rattle.frames.specs.declared.Rule.{Rule}
use Rattle.frames.specs.Limits.{all_plain, beyond_not, wrong_mode}

-- A good frame's number of bytes, or its fault.
abbrev pub sized : ℕ → Verdict → Result ℕ Fault
sized n (Ok _) = Ok n
sized n (Err f) = Err f

-- What is read of a line, with the buffer that its frame stands in: the frame's number of bytes where it is good, or the line's fault.
abbrev pub judged : Known → Option Frame → List ℕ → Result ℕ Fault
judged k None x = Err Malformed
judged k (Some (Bytes n)) x = sized n (verdict k (take n x))
judged k (Some (Long n)) x = Err (long_fault k x n)

-- A book whose lines are all good, by its rules and its mode (`last_fault`).
abbrev pub whole : Bool → List Rule → ℕ → Verdict
whole paged rs mode =
    cond (beyond_not rs) (Bad BeyondNot)
    (cond (wrong_mode rs mode || (paged && not (all_plain rs))) (Bad WrongMode)
    Good)

-- The frame that was read is within the buffer.
abbrev pub Fits : Option Frame → List ℕ → Type 0
Fits None x = Unit
Fits (Some (Bytes n)) x = n ≤ length x
Fits (Some (Long n)) x = Unit
