-- The test of a row of the table of refusals, which the prover computes, and the law that a row that passes is as it claims. Of the
-- product the test computes the reading of the book, the numbers of refusals 1-9, 16 and 17, and what makes 10 to 15 fall. Assumes nothing.
use mathlib.Core.Path.{◌≡◌, refl, sym, subst, subst₂, ◌∙◌}
use mathlib.Core.Bool.{Bool, true, false, not, cond, ◌&&◌, true≢false}
use mathlib.Core.List.{List}
use Prim.Native.Nat.{ℕ, ◌*◌, ◌%◌, ◌<◌}
use native.Mathlib.Omega.{arith}
use lib.Dec.{eqb, ltb}
use lib.ListN.{length}
use borrow.Author.Tests.{eqb-true, eqb-false, ltb-true, ne_eqb, not-true}
use Rattle.facts.specs.Facts.{ledger_size, holds}
use Rattle.quantifiers.proofs.BoolLaws.{and_both}
use Rattle.sizes.specs.Sizes.{is_person, fact_count}
use Rattle.frames.specs.declared.Refusal.{Refusal}
use Rattle.frames.specs.Book.{Contents, Answer, refused, accepted, book_for, book_of, refusal_number, refusal_line}
use Rattle.cases.proofs.PageReading.{refused_page}
use Rattle.requests.specs.Requests.{request_of, well_formed}
use Rattle.requests.specs.Suitable.{suitable}
use Rattle.requests.proofs.RequestLaws.{suitable-length}
use Rattle.denials.specs.declared.Denial.{Denial}
use Rattle.denials.specs.declared.Denial.TheVariants.{NoRule, Unmet}
use Rattle.denials.specs.Denials.{why_not}
use Rattle.ledger.specs.Ledger.{no_place, at_term, allowed, open_in, open_reply, request_in, request_reply}
use Rattle.ledger.specs.Show.{show_in, show_view}
use Rattle.replay.specs.Replay as replay
use Rattle.replay.specs.Replay.{replay_in, replayed}
use Rattle.planner.specs.Answer.{said, AnsweredFor}
use Rattle.page.specs.Page as page
use Rattle.page.specs.Page.{page_size, PageAnsweredFor}
use Rattle.cases.specs.Text.{five}
use Rattle.cases.specs.Refusals.{Trial, on_book, on_page, buffer_of, table_of, ledger_of, asked, asked_for, shown_to, list_of, RefusalRow, Refuses, Turned}
use Rattle.cases.specs.Refusals.{refusing, PlanRefuses, PageRefuses, BookRefused, LedgerRefused, RequestRefused, ShowRefused}
use Rattle.cases.proofs.Tests.{opened_facts, facts_suitable}

-- ---------------------------------------------------------------- the test

-- Why a request is not permitted in the starting facts.
unfoldable pub why : Contents → List ℕ → Denial
why b q = why_not b.juniors b.rules (holds b.facts) (request_of q)

-- No rule has its op, role, a and v; or this rule is the first that has them, with this first unmet term.
abbrev is_none : Denial → Bool
is_none NoRule = true
is_none (Unmet rule term) = false

abbrev is_at : Denial → ℕ → ℕ → Bool
is_at NoRule rule term = false
is_at (Unmet i j) rule term = eqb i rule && eqb j term

-- Refusal 12, else 13, of a request in the starting facts.
unfoldable pub falls_on : Contents → List ℕ → ℕ → Bool
falls_on b q n = cond (well_formed b.sizes q) (not (allowed b b.facts (request_of q)) && (is_none (why b q) && eqb n 13)) (eqb n 12)

-- 15, with this rule and this term.
unfoldable pub falls_at : Contents → List ℕ → ℕ → ℕ → ℕ → Bool
falls_at b q rule term n = well_formed b.sizes q && (not (allowed b b.facts (request_of q)) && (is_at (why b q) rule term && eqb n 15))

-- Refusal n falls on the trial under an accepted book.
unfoldable pub falls : Contents → ℕ → Trial → Bool
falls b n on_book = false
falls b n on_page = false
falls b n (buffer_of size) = ltb size (10 * fact_count b.sizes) && eqb n 10
falls b n (table_of size) = not (eqb size page_size) && eqb n 10
falls b n (ledger_of size) = not (eqb size ledger_size) && eqb n 11
falls b n (asked q) = falls_on b (five q) n
falls b n (asked_for q rule term) = falls_at b (five q) rule term n
falls b n (shown_to p) = not (is_person b.sizes p) && eqb n 12
falls b n (list_of size) = not (eqb (size % 5) 0) && eqb n 14

unfoldable pub is_turned : Answer → ℕ → ℕ → Trial → Bool
is_turned (refused r) n k on_book = eqb (refusal_number r) n && eqb (refusal_line r) k
is_turned (refused r) n k on_page = eqb (refusal_number r) n && eqb (refusal_line r) k
is_turned (refused r) n k (buffer_of size) = false
is_turned (refused r) n k (table_of size) = false
is_turned (refused r) n k (ledger_of size) = false
is_turned (refused r) n k (asked q) = false
is_turned (refused r) n k (asked_for q rule term) = false
is_turned (refused r) n k (shown_to p) = false
is_turned (refused r) n k (list_of size) = false
is_turned (accepted b) n k t = falls b n t && eqb k 0

-- Whether the book is read as the page reads it.
abbrev paged : Trial → Bool
paged on_book = false
paged on_page = true
paged (buffer_of size) = false
paged (table_of size) = true
paged (ledger_of size) = false
paged (asked q) = false
paged (asked_for q rule term) = false
paged (shown_to p) = false
paged (list_of size) = false

unfoldable pub turned : RefusalRow → Bool
turned r = is_turned (book_for (paged r.trial) r.book) r.number r.line r.trial

-- ---------------------------------------------------------------- what it tells

none_is : (d : Denial) → is_none d ≡ true → d ≡ NoRule
none_is NoRule e = refl
none_is (Unmet rule term) e = absurd (true≢false (sym e))

at_is : (d : Denial) (rule term : ℕ) → is_at d rule term ≡ true → d ≡ Unmet rule term
at_is NoRule rule term e = absurd (true≢false (sym e))
at_is (Unmet i j) rule term e = let both = and_both (eqb i rule) (eqb j term) e in rw (eqb-true i rule both.0, eqb-true j term both.1) refl

-- A book that page refuses.
page_refused : (chars : List ℕ) (r : Refusal) → book_for true chars ≡ refused r → (before : List ℕ)
    → PageRefuses chars (refusal_number r) (refusal_line r) before
page_refused chars r read before answer out promise =
    subst (λ (a : Answer). PageAnsweredFor a before (page.said answer) out) read promise.kept

table-refused : (chars : List ℕ) (b : Contents) → book_for true chars ≡ accepted b → (size : ℕ) → (size ≡ page_size → ⊥) → (before : List ℕ)
    → length before ≡ size → PageRefuses chars 10 0 before
table-refused chars b read size other before is answer out promise =
    (subst (λ (a : Answer). PageAnsweredFor a before (page.said answer) out) read promise.kept).other (λ e. other (sym is ∙ e))

-- A refused book is refused by every operation.
book_refused : (chars : List ℕ) (r : Refusal) → book_of chars ≡ refused r → BookRefused chars (refusal_number r) (refusal_line r)
unfolding open_reply request_reply show_view replayed
book_refused chars r read =
    record {
      opens = λ l. rw read refl;
      requests = λ l q. rw read refl;
      shows = λ l p. rw read refl;
      replays = λ bytes. rw read refl;
      plans = λ before answer out promise. subst (λ (a : Answer). AnsweredFor a before (said answer) out) read promise.kept;
      pages = page_refused chars r (refused_page chars r read);
    }

module _ (chars : List ℕ) (b : Contents) (read : book_of chars ≡ accepted b) where
  buffer_refused : (size : ℕ) → size < 10 * fact_count b.sizes → (before : List ℕ) → length before ≡ size → PlanRefuses chars 10 0 before
  buffer_refused size short before is answer out promise =
      (subst (λ (a : Answer). AnsweredFor a before (said answer) out) read promise.kept).short (omega arith)

  -- A ledger of another size does not suit.
  unsuitable : (l : List ℕ) → (length l ≡ ledger_size → ⊥) → suitable b.sizes l ≡ false
  unsuitable l other = by_test (suitable b.sizes l) refl
    where
      by_test : (t : Bool) → suitable b.sizes l ≡ t → suitable b.sizes l ≡ false
      by_test true i = absurd (other (suitable-length b.sizes l i))
      by_test false i = i

  ledger_refused : (size : ℕ) → (size ≡ ledger_size → ⊥) → LedgerRefused chars size 11
  unfolding open_reply open_in request_reply request_in show_view show_in
  ledger_refused size other =
      record {
        opens = λ l is. rw (read, ne_eqb (length l) ledger_size (λ e. other (sym is ∙ e))) refl;
        requests = λ l q is. rw (read, unsuitable l (λ e. other (sym is ∙ e))) refl;
        shows = λ l p is. rw (read, unsuitable l (λ e. other (sym is ∙ e))) refl;
      }

  -- 12, or else 13, falls on a request in the starting facts.
  request_refused : (q : List ℕ) (n : ℕ) → falls_on b q n ≡ true → RequestRefused chars q n no_place
  unfolding falls_on why request_reply request_in
  request_refused q n e = record { ledger = b.facts; opened = opened_facts chars b read; refuses = by_form (well_formed b.sizes q) refl e }
    where
      permits : Bool
      permits = allowed b b.facts (request_of q)

      by_form : (t : Bool) → well_formed b.sizes q ≡ t → cond t (not permits && (is_none (why b q) && eqb n 13)) (eqb n 12) ≡ true
          → request_reply chars b.facts q ≡ refusing n no_place b.facts
      by_form true i f =
          let both = and_both (not permits) (is_none (why b q) && eqb n 13) f in
          let none = and_both (is_none (why b q)) (eqb n 13) both.1 in
          rw (read, facts_suitable chars b read, i, not-true permits both.0, none_is (why b q) none.0, eqb-true n 13 none.1) refl
      by_form false i f = rw (read, facts_suitable chars b read, i, eqb-true n 12 f) refl

  -- 15 falls on a request in the starting facts, with the rule and the term.
  request_unmet : (q : List ℕ) (rule term n : ℕ) → falls_at b q rule term n ≡ true → RequestRefused chars q n (at_term rule term)
  unfolding falls_at why request_reply request_in
  request_unmet q rule term n e =
      let permits = allowed b b.facts (request_of q) in
      let formed = and_both (well_formed b.sizes q) _ e in
      let denied = and_both (not permits) _ formed.1 in
      let at = and_both (is_at (why b q) rule term) (eqb n 15) denied.1 in
      record {
        ledger = b.facts;
        opened = opened_facts chars b read;
        refuses =
            rw (read, facts_suitable chars b read, formed.0, not-true permits denied.0, at_is (why b q) rule term at.0, eqb-true n 15 at.1) refl;
      }

  show_refused : (p : ℕ) → is_person b.sizes p ≡ false → ShowRefused chars (record { 0 = p }) 12
  unfolding show_view show_in
  show_refused p none =
      record { ledger = b.facts; opened = opened_facts chars b read; refuses = rw (read, facts_suitable chars b read, none) refl }

  list_refused : (size : ℕ) → eqb (size % 5) 0 ≡ false → (bytes : List ℕ) → length bytes ≡ size → replayed chars bytes ≡ replay.refusal 14 0
  unfolding replayed replay_in
  list_refused size e bytes is = rw (read, is, e) refl

-- Under an accepted book, as the operation on trial reads it.
falls_refuses : (chars : List ℕ) (b : Contents) (n : ℕ) (t : Trial) → book_for (paged t) chars ≡ accepted b → falls b n t ≡ true → Refuses chars n 0 t
unfolding book_of falls Refuses
falls_refuses chars b n on_book read e = absurd (true≢false (sym e))
falls_refuses chars b n on_page read e = absurd (true≢false (sym e))
falls_refuses chars b n (buffer_of size) read e =
    let both = and_both (ltb size (10 * fact_count b.sizes)) (eqb n 10) e in
    rw (eqb-true n 10 both.1) (buffer_refused chars b read size (ltb-true size (10 * fact_count b.sizes) both.0))
falls_refuses chars b n (table_of size) read e =
    let both = and_both (not (eqb size page_size)) (eqb n 10) e in
    rw (eqb-true n 10 both.1) (table-refused chars b read size (eqb-false size page_size (not-true _ both.0)))
falls_refuses chars b n (ledger_of size) read e =
    let both = and_both (not (eqb size ledger_size)) (eqb n 11) e in
    (refl, rw (eqb-true n 11 both.1) (ledger_refused chars b read size (eqb-false size ledger_size (not-true _ both.0))))
falls_refuses chars b n (asked q) read e = (refl, request_refused chars b read (five q) n e)
falls_refuses chars b n (asked_for q rule term) read e = (refl, request_unmet chars b read (five q) rule term n e)
falls_refuses chars b n (shown_to p) read e =
    let both = and_both (not (is_person b.sizes p)) (eqb n 12) e in
    (refl, rw (eqb-true n 12 both.1) (show_refused chars b read p (not-true _ both.0)))
falls_refuses chars b n (list_of size) read e =
    let both = and_both (not (eqb (size % 5) 0)) (eqb n 14) e in
    rw (eqb-true n 14 both.1) (list_refused chars b read size (not-true _ both.0))

-- A row that passes the test is as it claims.
pub turned_back : (r : RefusalRow) → turned r ≡ true → Turned r
unfolding book_of turned is_turned Refuses
turned_back r e = by_answer (book_for (paged r.trial) r.book) r.trial refl e
  where
    by_answer : (a : Answer) (t : Trial) → book_for (paged t) r.book ≡ a → is_turned a r.number r.line t ≡ true
        → Refuses r.book r.number r.line t
    by_answer (refused x) on_book i f =
        let both = and_both (eqb (refusal_number x) r.number) (eqb (refusal_line x) r.line) f in
        subst₂ (BookRefused r.book) (eqb-true _ _ both.0) (eqb-true _ _ both.1) (book_refused r.book x i)
    by_answer (refused x) on_page i f =
        let both = and_both (eqb (refusal_number x) r.number) (eqb (refusal_line x) r.line) f in
        subst₂ (λ (n k : ℕ). (before : List ℕ) → PageRefuses r.book n k before) (eqb-true _ _ both.0) (eqb-true _ _ both.1)
        (page_refused r.book x i)
    by_answer (refused x) (buffer_of size) i f = absurd (true≢false (sym f))
    by_answer (refused x) (table_of size) i f = absurd (true≢false (sym f))
    by_answer (refused x) (ledger_of size) i f = absurd (true≢false (sym f))
    by_answer (refused x) (asked q) i f = absurd (true≢false (sym f))
    by_answer (refused x) (asked_for q rule term) i f = absurd (true≢false (sym f))
    by_answer (refused x) (shown_to p) i f = absurd (true≢false (sym f))
    by_answer (refused x) (list_of size) i f = absurd (true≢false (sym f))
    by_answer (accepted b) t i f =
        let both = and_both (falls b r.number t) (eqb r.line 0) f in
        rw (eqb-true r.line 0 both.1) (falls_refuses r.book b r.number t i both.0)
