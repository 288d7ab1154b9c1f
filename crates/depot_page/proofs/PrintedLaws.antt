-- The lines of a table, one behind the other; and what the program prints, by what page promises.
use mathlib.Core.Path.{◌≡◌, refl, ap, sym, ◌∙◌}
use mathlib.Core.List.{List, ◌++◌, append_assoc, append-nil}
use Prim.Native.Nat.{ℕ, zero, suc, ◌*◌, ◌/◌}
use native.Mathlib.Omega.{arith}
use lib.ListN.{length, take, drop}
use lib.Seq.{drop-drop}
use Rattle.frames.specs.Book.{Answer, refused, accepted}
use Rattle.answers.specs.Answers.{hex_line, refused_bytes}
use Rattle.answers.specs.Inner.Written.{byte_lines, Written}
use Rattle.answers.proofs.WrittenLaws.{written_as}
use Rattle.page.specs.Page.{Paged}
use Rattle.std.specs.Prelude.{Ok, Err}
use Rattle.frames.specs.declared.LentRefusal.{LentRefusal}
use Rattle.frames.specs.Book.{lent_line}
use Rattle.page.specs.Page.{Said, done, refusal, refusal_number, said, PageAnsweredFor, page_book, PagePromise}
use Rattle.depot_page.specs.Printed.{person_lines, PrintedFor, Printed}

-- ---------------------------------------------------------------- the lines

-- Of lines of sixteen bytes each, the first n + 1 are the first n and the line behind them.
line_behind : (n : ℕ) (bs : List ℕ) → byte_lines 16 (suc n) bs ≡ byte_lines 16 n bs ++ hex_line (take 16 (drop (16 * n) bs))
unfolding byte_lines
line_behind zero bs = append-nil (hex_line (take 16 bs))
line_behind (suc n) bs =
    ap (λ (l : List ℕ). hex_line (take 16 bs) ++ l) (line_behind n (drop 16 bs))
    ∙ sym (append_assoc (hex_line (take 16 bs)) (byte_lines 16 n (drop 16 bs)) _)
    ∙ ap (λ (l : List ℕ). byte_lines 16 (suc n) bs ++ hex_line (take 16 l)) (drop-drop (16 * n) 16 bs ∙ ap (λ (k : ℕ). drop k bs) (omega arith))

-- Lines of sixteen bytes each are those of the persons.
pub lines_persons : (n : ℕ) (table : List ℕ) → byte_lines 16 n table ≡ person_lines n table
unfolding byte_lines person_lines
lines_persons zero table = refl
lines_persons (suc n) table =
    line_behind n table ∙ ap (λ (l : List ℕ). l ++ hex_line (take 16 (drop (16 * n) table))) (lines_persons n table)

-- ---------------------------------------------------------------- what is printed

-- The text of an answer, by what page says and the bytes of its table.
abbrev pub page_text : Said → List ℕ → List ℕ
page_text done table = person_lines 64 table
page_text (refusal number line) table = hex_line (refused_bytes number line)

-- What is printed by an answer that keeps the promise: no book finds 1,024 bytes too short or too long.
pub printed : {chars before table text : List ℕ} (answer : Paged) → length before ≡ 1024 → PagePromise chars before answer table
    → text ≡ page_text (said answer) table → Printed chars text
printed {chars} {before} {table} {text} answer size promise e = record { answers = by-book (page_book chars) promise.kept }
  where
    by-book : (t : Answer) → PageAnsweredFor t before (said answer) table → PrintedFor t text
    by-book (refused r) kept = e ∙ ap (λ (s : Said). page_text s table) kept.0
    by-book (accepted b) kept =
        record { table = table; given = (kept.filled size).1; same = e ∙ ap (λ (s : Said). page_text s table) (kept.filled size).0 }

-- The text of each answer, as it is written.
module _ {answer : Paged} (table : List ℕ) {before after : List ℕ} {end : ℕ} where
  pub filled_written : answer ≡ Ok tt → length table ≡ 1024 → Written before 0 (byte_lines 16 (length table / 16) table) after end
      → Written before 0 (page_text (said answer) table) after end
  filled_written e size w = rw e (written_as w (ap (λ (k : ℕ). byte_lines 16 (k / 16) table) size ∙ lines_persons 64 table))

  pub refused-written : (r : LentRefusal) {number line : ℕ} → answer ≡ Err r → number ≡ refusal_number r → line ≡ lent_line r
      → Written before 0 (hex_line (refused_bytes number line)) after end → Written before 0 (page_text (said answer) table) after end
  refused-written r e n k w = rw e (rw (n, k) at w)
