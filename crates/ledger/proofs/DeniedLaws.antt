-- What a request that no rule permits is answered.
use mathlib.Core.Path.{◌≡◌, refl, sym, ◌∙◌}
use mathlib.Core.Bool.{Bool, true, false, not, cond}
use mathlib.Core.List.{List}
use Rattle.std.specs.Prelude.{Err}
use Prim.Native.Nat.{ℕ, ◌≤◌}
use native.Mathlib.Omega.{arith}
use lib.ListN.{length}
use Rattle.facts.specs.Facts.{holds}
use Rattle.frames.specs.Book.{Contents, Answer, refused, accepted, book_of}
use Rattle.frames.specs.Inner.Fits.{Admitted}
use Rattle.frames.proofs.BookLaws.{book_accepted}
use Rattle.requests.specs.Requests.{request_of, well_formed}
use Rattle.requests.specs.Suitable.{suitable}
use Rattle.rules.specs.Rules.{permitted}
use Rattle.denials.specs.declared.Denial.{Denial}
use Rattle.denials.specs.declared.Denial.TheVariants.{NoRule, Unmet}
use Rattle.denials.specs.Denials.{why_not}
use Rattle.denials.proofs.DenialLaws.{unmet-within}
use Rattle.ledger.specs.declared.Refusal.TheVariants.{NotPermitted}
use Rattle.ledger.specs.Ledger.{Done, no_place, on_line, at_term, Said, done, refusal, reply, refuse, denied, on_book, after, allowed, request_in, request_reply}
use Rattle.ledger.proofs.LedgerLaws.{allowed-permitted}

-- The code's answer to a denied request says 13, or 15 with the rule and the term.
pub denied-said : (d : Denial) (l : List ℕ) → reply (Err (NotPermitted d)) l ≡ denied d l
denied-said NoRule l = refl
denied-said (Unmet rule term) l = refl

-- A suitable ledger and a well-formed request that no rule permits: the answer is 13 or 15 as `why_not` says, and the ledger stays.
pub request_denied : (b : Contents) (l q : List ℕ) → suitable b.sizes l ≡ true → well_formed b.sizes q ≡ true → allowed b l (request_of q) ≡ false
    → request_in b l q ≡ denied (why_not b.juniors b.rules (holds l) (request_of q)) l
unfolding request_in
request_denied b l q suits formed none = rw (suits, formed, none) refl

-- ---------------------------------------------------------------- the two numbers beside 15

-- A rule that is told is one of the at most 512, a term one of a rule's at most eight.
abbrev pub PlaceWithin : Said → Type 0
PlaceWithin done = Unit {0}
PlaceWithin (refusal n no_place) = Unit {0}
PlaceWithin (refusal n (on_line k)) = Unit {0}
PlaceWithin (refusal n (at_term rule term)) = ((1 ≤ rule) × (rule ≤ 512)) × ((1 ≤ term) × (term ≤ 8))

denied-within : (b : Contents) → Admitted b → (l q : List ℕ) → PlaceWithin (request_in b l q).answer
unfolding request_in
denied-within b book l q = by_tests (suitable b.sizes l) (well_formed b.sizes q) (allowed b l (request_of q)) refl
  where
    by-denial : permitted b.juniors b.rules (holds l) (request_of q) ≡ false
        → (d : Denial) → why_not b.juniors b.rules (holds l) (request_of q) ≡ d
        → PlaceWithin (denied d l).answer
    by-denial none NoRule e = tt
    by-denial none (Unmet rule term) e =
        let few : length b.rules ≤ 512 = omega (arith, book.rules_counted, book.rules_few) in
        let within = unmet-within b.juniors (holds l) (request_of q) b.rules book.rules_short none few rule term e in
        (within.0, (within.1.0, omega (arith, within.1.1.0, within.1.1.1)))

    by_tests : (suits formed permits : Bool) → allowed b l (request_of q) ≡ permits
        → PlaceWithin (cond (not suits) (refuse 11 l) (cond (not formed) (refuse 12 l) (cond permits (reply Done (after l (request_of q)))
        (denied (why_not b.juniors b.rules (holds l) (request_of q)) l)))).answer
    by_tests false formed permits e = tt
    by_tests true false permits e = tt
    by_tests true true true e = tt
    by_tests true true false e = by-denial (sym (allowed-permitted b l (request_of q)) ∙ e) (why_not b.juniors b.rules (holds l) (request_of q)) refl

-- Whatever the book, the ledger and the request.
pub told-within : (chars l q : List ℕ) → PlaceWithin (request_reply chars l q).answer
unfolding request_reply
told-within chars l q = by_answer (book_of chars) refl
  where
    by_answer : (a : Answer) → book_of chars ≡ a → PlaceWithin (on_book a l (λ b. request_in b l q)).answer
    by_answer (refused r) e = tt
    by_answer (accepted b) e = denied-within b (book_accepted chars b e) l q
