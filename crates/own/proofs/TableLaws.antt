-- The tables of crate `grow`, filled with the book's moves on the query's person, have the rules of the book: a fact's terms in the table
-- are the places of its rule's terms, and behind them 320, which asks nothing.
use mathlib.Core.Path.{◌≡◌, refl, sym, ap, subst, fun_ext, ◌∙◌}
use mathlib.Core.Logic.{dite}
use mathlib.Core.Bool.{Bool, true, false}
use mathlib.Core.List.{List}
use Prim.Native.Nat.{ℕ, ◌+◌, ◌≤◌, ◌<◌}
use native.Mathlib.Decide.{dec_lt}
use native.Mathlib.Omega.{arith}
use lib.ListN.{length, get_or}
use borrow.Author.Tests.{lt-ltb, le-ltb}
use Rattle.facts.specs.Facts.{holds}
use Rattle.frames.specs.declared.Rule.{Rule}
use Rattle.frames.specs.declared.Rules.{Rules}
use Rattle.frames.specs.Book.{Contents, listed}
use Rattle.shown.specs.Inner.Shown.{direct}
use Rattle.level.specs.declared.Move.{Move}
use Rattle.level.specs.Inner.Moves.{Moves, move_at}
use Rattle.level.specs.Inner.Terms.{MoveOf}
use Rattle.level.specs.Inner.Chosen.{rule_at, MovesOf, chosen_in}
use Rattle.level.proofs.ChosenLaws.{chosen_parts, chosen_from}
use Rattle.level.proofs.RuleLaws.{listed_at, listed-length}
use Rattle.reach.specs.Inner.Tracked.{person_level, track, bytes_of}
use Rattle.reach.specs.Inner.Growing.{Growing}
use Rattle.flags.specs.Inner.Flags.{FlagsWritten, StartFlags}
use Rattle.grow.specs.Inner.Tables.{rules_in}
use Rattle.grow.proofs.TableLaws.{says_from, says_cases}
use Rattle.own.specs.Inner.Wanted.{wanted_at}
use Rattle.own.specs.Inner.Entered.{term_of, Entered, EnteredAt}
use Rattle.own.specs.Inner.Requests.{request_of}
use Rattle.own.specs.Inner.Own.{own, wanted_by, code_at, HasTerm, book_rule, place_of_rule, IsRule, RulesOf}
use Rattle.own.proofs.EnteredLaws.{term-own, term-none}
use Rattle.own.proofs.MayLaws.{rule_ask}

-- ---------------------------------------------------------------- flags

module _ (b : Contents) where
  -- The flags of the starting facts are the person's.
  pub start_own : {s : List Bool} → StartFlags b (person_level b) s → direct s ≡ own b (track b (holds b.facts))
  unfolding direct own
  start_own {s} start = fun_ext each
    where
      each : (f : ℕ) → direct s f ≡ own b (track b (holds b.facts)) f
      each f =
          dite (dec_lt f 160) (λ (low : f < 160). rw (lt-ltb f 160 low) (start.at f low))
          (λ (high : f < 160 → ⊥). rw (le-ltb f 160 (omega arith)) refl)

  -- The flags of the wanted facts are those.
  pub wanted-own : {before w : List Bool} → FlagsWritten before 0 (wanted_at b.query) 160 w → direct w ≡ wanted_by b
  unfolding direct wanted_by
  wanted-own {before} {w} flags = fun_ext each
    where
      each : (f : ℕ) → direct w f ≡ wanted_by b f
      each f =
          dite (dec_lt f 160)
          (λ (low : f < 160).
          let e : 0 + f ≡ f = omega arith in
          rw (lt-ltb f 160 low) (ap (λ (i : ℕ). get_or w i false) (sym e) ∙ flags.at f low))
          (λ (high : f < 160 → ⊥). rw (le-ltb f 160 (omega arith)) refl)

-- ---------------------------------------------------------------- rules

-- A term of a move's fact below 320 is the place of a term of its rule.
module _ {r : Rule} {m : Move} (is : MoveOf r m) where
  term_place : (i k : ℕ) → term_of m i ≡ k → k < 320 → HasTerm r k
  term_place i k e low =
      dite (dec_lt i m.n)
      (λ (l : i < m.n).
      let h : i < r.n = omega (arith, is.n) in
      record { at = i; counts = h; is = sym (is.places i h) ∙ term-own m i l ∙ e })
      (λ (l : i < m.n → ⊥). absurd (omega (arith, term-none m i (omega arith))))

  place_term : (i : ℕ) → i < r.n → (i < 8) × (term_of m i ≡ code_at r i)
  place_term i h = let l : i < m.n = omega (arith, is.n) in (omega (arith, is.fine.few), sym (term-own m i l) ∙ is.places i h)

module _ (b : Contents) (rs : Rules) (same-rules : b.rules ≡ listed rs) (few : rs.count ≤ 512) (room : length rs.rules ≡ 512) where
  module _ {ms : Moves} (moves : MovesOf rs 1 5 b.query.roles ms rs.count) {us : List Bool} {ts by : List ℕ}
      (entered : Entered ms ms.count us ts by) where
    -- The rule of a fact with a move.
    move-rule : (f i j : ℕ) → EnteredAt ms ms.count f i ts → j < rs.count → chosen_in 1 5 b.query.roles (rule_at rs j) ≡ true
        → MoveOf (rule_at rs j) (move_at ms i) → IsRule b (rules_in us ts) f j
    move-rule f i j at l chosen is =
        let m = move_at ms i in
        let r = book_rule b j in
        let whole : MoveOf r m = rw (listed_at rs same-rules j l) is in
        let parts = chosen_parts 1 5 b.query.roles r (rw (listed_at rs same-rules j l) chosen) in
        record {
          listed = rw (listed-length rs same-rules few room) l;
          op = parts.0;
          place = sym (whole.fine.aim ∙ rw (whole.op, whole.a, whole.v) refl) ∙ at.fact;
          role = parts.1;
          asks = λ g a.
              let found = says_cases ts f g a.1 in
              (a.0, term_place whole found.0 g (sym (at.terms found.0 found.1.0) ∙ found.1.1) (omega (arith, a.0)));
          bars = λ g a.
              let found = says_cases ts f (160 + g) a.1 in
              (a.0, term_place whole found.0 (160 + g) (sym (at.terms found.0 found.1.0) ∙ found.1.1) (omega (arith, a.0)));
          asked = λ k g h e low.
              let term = place_term whole k h in
              (low, says_from ts f g k term.0 (at.terms k term.0 ∙ term.1 ∙ e));
          barred = λ k g h e low.
              let term = place_term whole k h in
              (low, says_from ts f (160 + g) k term.0 (at.terms k term.0 ∙ term.1 ∙ e));
        }

    -- The tables have the rules of the book.
    pub rules_in_lem : RulesOf b (rules_in us ts)
    rules_in_lem =
        record {
          rule = λ f u.
              let at = entered.each f u.0 u.1 in
              let from = moves.each (get_or by f 0) at.known in
              record { at = from.0; is = move-rule f (get_or by f 0) from.0 at from.1 from.2 from.3 };
          every = λ j l op role.
              let l' : j < rs.count = omega (arith, listed-length rs same-rules few room) in
              let chosen : chosen_in 1 5 b.query.roles (rule_at rs j) ≡ true =
              sym (ap (chosen_in 1 5 b.query.roles) (listed_at rs same-rules j l')) ∙ chosen_from 1 5 b.query.roles (book_rule b j) op role in
              let found = moves.every j l' chosen in
              let is : MoveOf (book_rule b j) (move_at ms found.0) =
              subst (λ (r : Rule). MoveOf r (move_at ms found.0)) (sym (listed_at rs same-rules j l')) found.2 in
              let place : (move_at ms found.0).fact ≡ place_of_rule (book_rule b j) = is.fine.aim ∙ rw (is.op, is.a, is.v) refl in
              (omega (arith, place, is.fine.fact), ap (λ (f : ℕ). get_or us f false) (sym place) ∙ entered.every found.0 found.1);
        }

    -- The request of a fact by its rule has the bytes of its move's.
    pub request-bytes : (ok : Growing b) (f : ℕ) (u : (rules_in us ts).usable f)
        → bytes_of (rule_ask b ok rules_in_lem f u) ≡ bytes_of (request_of ms by b.query.person.0 f)
    unfolding rules_in_lem
    request-bytes ok f u =
        let at = entered.each f u.0 u.1 in
        let from = moves.each (get_or by f 0) at.known in
        let is : MoveOf (book_rule b from.0) (move_at ms (get_or by f 0)) =
        subst (λ (r : Rule). MoveOf r (move_at ms (get_or by f 0))) (sym (listed_at rs same-rules from.0 from.1)) from.3 in
        rw (is.op, is.role, is.a, is.v) refl
