-- The test of a row, which the prover computes, and the law that a row that passes is as it claims. That the ledgers suit the sizes is
-- not computed: it is a law of every accepted book. Assumes nothing.
use mathlib.Core.Path.{◌≡◌, refl, ap, sym, ◌∙◌}
use mathlib.Core.Bool.{Bool, true, false, not, ◌&&◌, true≢false}
use mathlib.Core.List.{List, [], ◌∷◌}
use Prim.Native.Nat.{ℕ}
use native.Mathlib.Omega.{arith}
use lib.Dec.{eqb}
use borrow.Author.Tests.{eqb-true, lt-ltb, not-true}
use Rattle.facts.specs.Facts.{holds, no_facts}
use Rattle.facts.proofs.FactLaws.{none-length}
use Rattle.quantifiers.proofs.BoolLaws.{and_both}
use Rattle.sizes.specs.Sizes.{is_person}
use Rattle.frames.specs.Book.{Contents, Answer, refused, accepted, book_of}
use Rattle.frames.specs.Inner.Fits.{Admitted}
use Rattle.quantifiers.specs.Inner.Lists.{Each}
use Rattle.frames.proofs.BookLaws.{book_accepted}
use Rattle.requests.specs.Requests.{request_of, well_formed}
use Rattle.requests.specs.Suitable.{suitable}
use Rattle.requests.proofs.RequestLaws.{suitable_from, well_formed_fact}
use Rattle.quantifiers.specs.Quantifiers.{all}
use Rattle.ledger.specs.Ledger.{Done}
use Rattle.ledger.specs.Ledger.{reply, after, allowed, request_in, request_reply}
use Rattle.ledger.specs.Show.{value_sets, crew_set, show_in, show_view}
use Rattle.ledger.proofs.LedgerLaws.{open_starts, after-suitable}
use Rattle.replay.specs.declared.Judgement.TheVariants.{Reaches, Stops, EndsShort}
use Rattle.replay.specs.Replay.{Said, judged, refusal, replay_in, replayed}
use Rattle.cases.specs.Text.{written, five, fives_of}
use Rattle.cases.specs.Claims.{Claim, reaches, no_way, shows, unchanged, deletes, Row, sorter, eight_sets, Opened, Viewed, Means, Meant}
use Rattle.cases.proofs.Search.{same_bytes, same_bytes_lem, reached, shut, shut_no_way}

-- ---------------------------------------------------------------- the test

-- Replay's answer is "reaches".
unfoldable pub is_reaches : Said → Bool
is_reaches (judged Reaches) = true
is_reaches (judged (Stops k)) = false
is_reaches (judged EndsShort) = false
is_reaches (refusal n k) = false

-- How many requests far the search for "no way" goes. Where it finds too few ledgers the test fails.
abbrev pub depth : ℕ
depth = 2

-- The person's effective sets and crews are these.
unfoldable pub shows_in : Contents → List ℕ → ℕ → ℕ → Bool
shows_in b l values crews =
    same_bytes (value_sets b.sizes b.juniors (holds l) sorter) (eight_sets values) && eqb (crew_set b.sizes b.juniors (holds l) sorter) crews

-- The request is well formed and permitted.
unfoldable pub done_in : Contents → List ℕ → List ℕ → Bool
done_in b l q = well_formed b.sizes q && allowed b l (request_of q)

-- The test of a claim under an accepted book.
unfoldable pub passes : Contents → Claim → Bool
passes b (reaches list) = is_reaches (replay_in b (fives_of list))
passes b no_way = shut b (reached b depth)
passes b (shows values crews) = shows_in b b.facts values crews
passes b (unchanged q values crews) =
    not (holds b.facts (request_of (five q)).fact) && (shows_in b b.facts values crews
    && (done_in b b.facts (five q) && same_bytes (after b.facts (request_of (five q))) b.facts))
passes b (deletes q values crews) =
    holds b.facts (request_of (five q)).fact && (done_in b b.facts (five q)
    && (not (holds (after b.facts (request_of (five q))) (request_of (five q)).fact)
    && shows_in b (after b.facts (request_of (five q))) values crews))

unfoldable pub passes_on : Answer → Claim → Bool
passes_on (refused r) c = false
passes_on (accepted b) c = passes b c

unfoldable pub test : Row → Bool
test r = passes_on (book_of (written r.book)) r.claim

-- ---------------------------------------------------------------- what it tells

reaches_is : (r : Said) → is_reaches r ≡ true → r ≡ judged Reaches
unfolding is_reaches
reaches_is (judged Reaches) e = refl
reaches_is (judged (Stops k)) e = absurd (true≢false (sym e))
reaches_is (judged EndsShort) e = absurd (true≢false (sym e))
reaches_is (refusal n k) e = absurd (true≢false (sym e))

module _ (chars : List ℕ) (b : Contents) (read : book_of chars ≡ accepted b) where
  admitted : Admitted b
  admitted = book_accepted chars b read

  pub opened_facts : Opened chars b.facts
  opened_facts = record { opens = open_starts chars no_facts b read none-length }

  pub facts_suitable : suitable b.sizes b.facts ≡ true
  facts_suitable = suitable_from b.sizes b.facts admitted.facts_room admitted.facts_bytes admitted.facts_in

  shows_viewed : (l : List ℕ) (values crews : ℕ) → suitable b.sizes l ≡ true → shows_in b l values crews ≡ true → Viewed chars l values crews
  unfolding shows_in show_view show_in
  shows_viewed l values crews good e =
      let sets = value_sets b.sizes b.juniors (holds l) sorter in
      let crew = crew_set b.sizes b.juniors (holds l) sorter in
      let both = and_both (same_bytes sets (eight_sets values)) _ e in
      let person : is_person b.sizes 0 ≡ true = lt-ltb 0 b.sizes.persons (omega (arith, admitted.sized.persons_some)) in
      record { view = rw (read, good, person, same_bytes_lem sets (eight_sets values) both.0, eqb-true crew crews both.1) refl }

  done-reply : (l q : List ℕ) → suitable b.sizes l ≡ true → done_in b l q ≡ true → request_reply chars l q ≡ reply Done (after l (request_of q))
  unfolding done_in request_reply request_in
  done-reply l q good e = let both = and_both (well_formed b.sizes q) _ e in rw (read, good, both.0, both.1) refl

  after_good : (q : List ℕ) → done_in b b.facts q ≡ true → suitable b.sizes (after b.facts (request_of q)) ≡ true
  unfolding done_in
  after_good q e =
      after-suitable b.facts (request_of q) b.sizes admitted.facts_bytes
      (well_formed_fact b.sizes q (and_both (well_formed b.sizes q) _ e).0) facts_suitable

  accepted_means : (c : Claim) → passes b c ≡ true → Means chars c
  unfolding passes Means replayed
  accepted_means (reaches list) e = rw read (reaches_is (replay_in b (fives_of list)) e)
  accepted_means no_way e = record { book = b; read = read; never = shut_no_way b (reached b depth) e }
  accepted_means (shows values crews) e = record { ledger = b.facts; opened = opened_facts; viewed = shows_viewed b.facts values crews facts_suitable e }
  accepted_means (unchanged q values crews) e =
      let one = and_both (not (holds b.facts (request_of (five q)).fact)) _ e in
      let two = and_both (shows_in b b.facts values crews) _ one.1 in
      let three = and_both (done_in b b.facts (five q)) _ two.1 in
      record {
        ledger = b.facts;
        opened = opened_facts;
        missing = not-true _ one.0;
        viewed = shows_viewed b.facts values crews facts_suitable two.0;
        equal = done-reply b.facts (five q) facts_suitable three.0 ∙ ap (reply Done) (same_bytes_lem _ _ three.1);
      }
  accepted_means (deletes q values crews) e =
      let one = and_both (holds b.facts (request_of (five q)).fact) _ e in
      let two = and_both (done_in b b.facts (five q)) _ one.1 in
      let three = and_both (not (holds (after b.facts (request_of (five q))) (request_of (five q)).fact)) _ two.1 in
      record {
        ledger = b.facts;
        opened = opened_facts;
        there = one.0;
        left = after b.facts (request_of (five q));
        carried_out = done-reply b.facts (five q) facts_suitable two.0;
        gone = not-true _ three.0;
        viewed = shows_viewed (after b.facts (request_of (five q))) values crews (after_good (five q) two.0) three.1;
      }

-- A row that passes the test is as it claims.
pub sound : (r : Row) → test r ≡ true → Meant r
unfolding test passes_on
sound r e = by_answer (book_of (written r.book)) refl e
  where
    by_answer : (t : Answer) → book_of (written r.book) ≡ t → passes_on t r.claim ≡ true → Meant r
    by_answer (refused x) i f = absurd (true≢false (sym f))
    by_answer (accepted b) i f = accepted_means (written r.book) b i r.claim f

-- What the test of each element tells, holds of each.
pub each : {A : Type 0} {P : A → Type 0} (t : A → Bool) → ((x : A) → t x ≡ true → P x) → (xs : List A) → all t xs ≡ true → Each P xs
unfolding all Each
each t h [] e = tt
each t h (x ∷ xs) e = let both = and_both (t x) (all t xs) e in (h x both.0, each t h xs both.1)
