-- The laws of what the program prints: the text of an answer that keeps the promise of plan; 80 exactly where there is no way.
use mathlib.Core.Path.{◌≡◌, refl, ap, sym, subst, ◌∙◌}
use mathlib.Core.Logic.{inl, inr, ⊎_elim}
use mathlib.Core.List.{List, ◌++◌}
use Prim.Native.Nat.{ℕ, ◌*◌, ◌≤◌}
use native.Mathlib.Omega.{arith}
use lib.ListN.{length, get_or}
use Rattle.lines.specs.Digits.{digit, character}
use Rattle.lines.proofs.TableLaws.{digit_back}
use Rattle.frames.specs.Book.{Contents, Answer, refused, accepted, book_of}
use Rattle.frames.proofs.BookLaws.{book_accepted}
use Rattle.replay.specs.Chains.{fives}
use Rattle.planner.specs.Answer.{Planned}
use Rattle.sizes.specs.Sizes.{fact_count}
use Rattle.planner.specs.Promise.{NoWay}
use Rattle.planner.specs.Answer.{Said, said80, said81, said8_f, said, front, Decided, AnsweredFor, PlanPromise}
use Rattle.sizes.proofs.SizeLaws.{facts_few}
use Rattle.planner.proofs.PromiseLaws.{never_both}
use Rattle.answers.specs.Answers.{hex, hex_line, no_way_bytes, count_bytes, request_lines, answer_text}
use Rattle.plan.specs.Printed.{PlanPrinted, PrintedFor, Printed}

-- ---------------------------------------------------------------- the text of an answer

decided : (b : Contents) (text before out : List ℕ) (s : Said) → Decided b before s out → text ≡ answer_text s out → PrintedFor (accepted b) text
decided b text before out said80 d e = inl (d.0, e)
decided b text before out (said81 n) d e =
    inr
    (record {
      requests = fives (front n out);
      works = d.works;
      few = rw d.count d.few;
      same = e ∙ ap (λ (k : ℕ). hex_line (count_bytes k) ++ request_lines (fives (front n out))) (sym d.count);
    })
decided b text before out (said8_f number line) d e = absurd d

-- What is printed by an answer that keeps the promise, where the buffer is long enough for the book.
pub printed : {book text before out : List ℕ} (answer : Planned)
    → ((b : Contents) → book_of book ≡ accepted b → 10 * fact_count b.sizes ≤ length before)
    → PlanPromise book before answer out → text ≡ answer_text (said answer) out → Printed book text
printed {book} {text} {before} {out} answer enough promise e = record { answers = by-book (book_of book) refl promise.kept }
  where
    by-book : (a : Answer) → book_of book ≡ a → AnsweredFor a before (said answer) out → PrintedFor a text
    by-book (refused r) read kept = e ∙ ap (λ (s : Said). answer_text s out) kept.0
    by-book (accepted b) read kept = decided b text before out (said answer) (kept.long (enough b read)) e

-- ---------------------------------------------------------------- a buffer long enough

-- 42,560 bytes are 10 × F for the largest sizes: no book finds them too short.
pub printed_any : {book text before out : List ℕ} (answer : Planned) → length before ≡ 42560 → PlanPromise book before answer out
    → text ≡ answer_text (said answer) out → Printed book text
printed_any {book} answer room =
    printed answer (λ b read. omega (arith, room, facts_few b.sizes (book_accepted book b read).sized))

-- ---------------------------------------------------------------- exactly

-- The second character tells 80 from 81.
no_way_other : (n : ℕ) (below : List ℕ) → hex_line no_way_bytes ≡ hex_line (count_bytes n) ++ below → ⊥
unfolding hex_line hex no_way_bytes count_bytes
no_way_other n below e =
    let same : character 0 ≡ character 1 = ap (λ (l : List ℕ). get_or l 1 0) e in
    let z : ◌≡◌ {A = ℕ} 0 1 = sym (digit_back 0 (omega arith)) ∙ ap digit same ∙ digit_back 1 (omega arith) in
    omega arith

-- "a sorter's query gets no way exactly when no finite list of requests [..] leads [..] to a ledger that meets the query"
module _ {book text : List ℕ} (p : Printed book text) (b : Contents) (read : book_of book ≡ accepted b) where
  cases : PrintedFor (accepted b) text
  cases = subst (λ (a : Answer). PrintedFor a text) read p.answers

  pub prints_no_way : NoWay b → text ≡ hex_line no_way_bytes
  prints_no_way none =
      ⊎_elim (λ (n : NoWay b × (text ≡ hex_line no_way_bytes)). n.1) (λ (q : PlanPrinted b text). absurd (never_both none q.works)) cases

  pub printed_no_way : text ≡ hex_line no_way_bytes → NoWay b
  printed_no_way e =
      ⊎_elim (λ (n : NoWay b × (text ≡ hex_line no_way_bytes)). n.0)
      (λ (q : PlanPrinted b text). absurd (no_way_other (length q.requests) (request_lines q.requests) (sym e ∙ q.same))) cases
