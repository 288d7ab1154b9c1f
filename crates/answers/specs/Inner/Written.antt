-- What is written in a lent text, and the room for it. No part of what the programs promise.
use Rattle.std.specs.Prelude.{Ok, Some, ◌≡◌, List, [], ◌++◌, ℕ, zero, suc, ◌+◌, ◌*◌, ◌≤◌, length, take, drop}
use Rattle.planner.specs.Answer.{Planned}
use Rattle.answers.specs.Answers.{hex_line}

-- The first n lines of bytes, each of w.
unfoldable pub byte_lines : ℕ → ℕ → List ℕ → List ℕ
byte_lines w zero bs = []
byte_lines w (suc n) bs = hex_line (take w bs) ++ byte_lines w n (drop w bs)

-- The characters cs stand in a lent text from `at` up to `end`, and every other byte is as it was.
pub record Written (before : List ℕ) (at : ℕ) (cs after : List ℕ) (end : ℕ) : Type 0 where
  pub long : end ≡ at + length cs
  pub upto : take end after ≡ take at before ++ cs
  pub behind : drop end after ≡ drop end before
  pub size : length after ≡ length before

-- Room for an answer: the requests of a plan stand in the plan's buffer, and the lines fit the text.
pub record Room (answer : Planned) (plan text : List ℕ) : Type 0 where
  pub first : 9 ≤ length text
  pub requests : (n : ℕ) → answer ≡ Ok (Some n) → (5 * n ≤ length plan) × (7 + 11 * n ≤ length text)
