-- All that the program prints for a book. Paper 01: "The program [..] prints, in the book's hexadecimal and line ends, [..]".
use Rattle.std.specs.Prelude.{◌≡◌, ◌⊎◌, List, ◌++◌, ℕ, ◌*◌, ◌≤◌, length}
use Rattle.frames.specs.Book.{Contents, Answer, refused, accepted, book_of}
use Rattle.sizes.specs.Sizes.{fact_count}
use Rattle.planner.specs.Promise.{NoWay, Works}
use Rattle.answers.specs.Answers.{hex_line, no_way_bytes, count_bytes, refusal_bytes, request_lines}

-- "`81` and a two-byte count with the plan below it, one request a line": a plan that works, of at most 2 × F requests.
pub record PlanPrinted (b : Contents) (text : List ℕ) : Type 0 where
  pub requests : List (List ℕ)
  pub works : Works b requests
  pub few : length requests ≤ 2 * fact_count b.sizes
  pub same : text ≡ hex_line (count_bytes (length requests)) ++ request_lines requests

-- "`80` (no way)", a plan, "or on one line `8F`, refusal number (one byte) and line (two bytes)".
abbrev pub PrintedFor : Answer → List ℕ → Type 0
PrintedFor (refused r) text = text ≡ hex_line (refusal_bytes r)
PrintedFor (accepted b) text = (NoWay b × (text ≡ hex_line no_way_bytes)) ⊎ PlanPrinted b text

pub record Printed (book text : List ℕ) : Type 0 where
  pub answers : PrintedFor (book_of book) text
