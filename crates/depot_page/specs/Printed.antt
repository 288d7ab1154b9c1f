-- All that the program prints for a book: the page, sixteen bytes a line, so a line for each of 64 persons; or the refusal. "In the book's
-- hexadecimal and line ends".
use Rattle.std.specs.Prelude.{◌≡◌, List, [], ◌++◌, ℕ, zero, suc, ◌*◌, take, drop}
use Rattle.frames.specs.Book.{Contents, Answer, refused, accepted}
use Rattle.page.specs.Page.{PageGiven, page_book}
use Rattle.answers.specs.Answers.{hex_line, refusal_bytes}

-- The first n persons' sets, "for each person a two-byte set for each of eight attributes".
unfoldable pub person_lines : ℕ → List ℕ → List ℕ
person_lines zero table = []
person_lines (suc n) table = person_lines n table ++ hex_line (take 16 (drop (16 * n) table))

-- The 64 lines of a table that is the book's page.
pub record PagePrinted (b : Contents) (text : List ℕ) : Type 0 where
  pub table : List ℕ
  pub given : PageGiven b table
  pub same : text ≡ person_lines 64 table

-- On one line `8F`, refusal number and line; or the page.
abbrev pub PrintedFor : Answer → List ℕ → Type 0
PrintedFor (refused r) text = text ≡ hex_line (refusal_bytes r)
PrintedFor (accepted b) text = PagePrinted b text

pub record Printed (book text : List ℕ) : Type 0 where
  pub answers : PrintedFor (page_book book) text
