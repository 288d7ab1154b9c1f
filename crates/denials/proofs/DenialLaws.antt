-- What 13 and 15 tell, and what std's searches of the rules and of a rule's terms give.
use mathlib.Core.Path.{◌≡◌, refl, ap, sym, ◌∙◌, subst}
use mathlib.Core.Logic.{dite}
use mathlib.Core.Bool.{Bool, true, false, not}
use mathlib.Core.List.{List}
use Prim.Native.Nat.{ℕ, ◌+◌, ◌-◌, ◌≤◌, ◌<◌}
use native.Mathlib.Decide.{dec_lt}
use native.Mathlib.Omega.{arith}
use lib.Dec.{ltb}
use lib.ListN.{length, get_or, take}
use lib.Seq.{get_or-take, length-take-le}
use Rattle.std.specs.Prelude.{Option, None, Some, position}
use Rattle.std.specs.Option.{unwrap_or}
use borrow.Author.Tests.{lt-ltb, le-ltb, ltb-true}
use Rattle.facts.specs.declared.Fact.{Fact}
use Rattle.frames.specs.declared.Term.{Term}
use Rattle.frames.specs.declared.Rule.{Rule}
use Rattle.frames.specs.Book.{no_term, no_rule}
use Rattle.frames.specs.Inner.Fits.{Short}
use Rattle.requests.specs.declared.Request.{Request}
use Rattle.quantifiers.specs.Quantifiers.{first}
use Rattle.quantifiers.specs.Inner.Lists.{Each}
use Rattle.quantifiers.proofs.ListLaws.{within-any}
use Rattle.quantifiers.proofs.FirstLaws.{first-within, first_passes, first-none_before, first_is, first-none, all_first}
use Rattle.quantifiers.proofs.PositionLaws.{found-first, none-first, place_or-length}
use Rattle.rules.specs.Rules.{subject_of, term_holds, names, permits, permitted}
use Rattle.rules.proofs.RuleLaws.{at_place, decided, none-permits}
use Rattle.denials.specs.declared.Denial.{Denial}
use Rattle.denials.specs.declared.Denial.TheVariants.{NoRule, Unmet}
use Rattle.denials.specs.Denials.{first_named, first_unmet, why_not, denial_number}

-- The first rule that has the request's op, role, a and v is found by a search of the list.
pub named_first : (q : Request) (rs : List Rule) → first_named q rs ≡ first (names q) rs
unfolding first_named
named_first q rs = refl

-- A term holds of whom the request is about.
abbrev pub holds_of : List ℕ → (Fact → Bool) → Request → Term → Bool
holds_of js S q = term_holds js S (subject_of q.fact)

-- What is not so is the opposite.
opposite : (x : Bool) {b : Bool} → not x ≡ b → x ≡ not b
opposite true e = ap not e
opposite false e = ap not e

-- ---------------------------------------------------------------- the terms of a rule

module _ (js : List ℕ) (S : Fact → Bool) (q : Request) (r : Rule) where
  abbrev terms : List Term
  terms = take r.n r.terms

  -- A term that does not hold of whom the request is about.
  abbrev pub fails : Term → Bool
  fails t = not (holds_of js S q t)

  unmet_first : first_unmet js S q r ≡ first fails terms
  unfolding first_unmet
  unmet_first = refl

  module _ (short : Short r) where
    counted : length terms ≡ r.n
    counted = length-take-le r.n r.terms (omega (arith, short.few, short.room))

    -- The first unmet term is one of the rule's, or all hold.
    pub unmet-at-most : first_unmet js S q r ≤ r.n
    unmet-at-most = omega (arith, unmet_first, counted, first-within fails terms)

    fails-at : (j : ℕ) (b : Bool) → j < r.n → holds_of js S q (get_or r.terms j no_term) ≡ b → fails (get_or terms j no_term) ≡ not b
    fails-at j b h e = ap fails (get_or-take r.n r.terms j no_term h) ∙ ap not e

    holds_at : (j : ℕ) (b : Bool) → j < r.n → fails (get_or terms j no_term) ≡ b → holds_of js S q (get_or r.terms j no_term) ≡ not b
    holds_at j b h e = opposite (holds_of js S q (get_or r.terms j no_term)) (sym (ap fails (get_or-take r.n r.terms j no_term h)) ∙ e)

    -- The terms before the first unmet one hold, and that one does not.
    met-before-first : (m : ℕ) → m < first_unmet js S q r → holds_of js S q (get_or r.terms m no_term) ≡ true
    met-before-first m l =
        holds_at m false (omega (arith, unmet-at-most)) (first-none_before fails terms no_term m (omega (arith, unmet_first)))

    unmet-at-first : first_unmet js S q r < r.n → holds_of js S q (get_or r.terms (first_unmet js S q r) no_term) ≡ false
    unmet-at-first l =
        holds_at (first_unmet js S q r) true l
        (ap (λ (j : ℕ). fails (get_or terms j no_term)) unmet_first ∙ first_passes fails terms no_term (omega (arith, unmet_first, counted)))

    -- What std's search of the terms gives, and their count where it finds none.
    module _ (o : Option ℕ) (e : o ≡ position fails terms) (j : ℕ) (f : j ≡ unwrap_or o r.n) where
      pub unmet_place : j ≡ first_unmet js S q r
      unmet_place =
          f ∙ ap (λ (p : Option ℕ). unwrap_or p r.n) e ∙ ap (unwrap_or (position fails terms)) (sym counted)
          ∙ place_or-length fails terms ∙ sym unmet_first

      pub unmet_few : j ≤ 8
      unmet_few = omega (arith, unmet_place, unmet-at-most, short.few)

    -- A rule that has the request's op, role, a and v and does not permit it has an unmet term.
    pub unmet-below : names q r ≡ true → permits js S q r ≡ false → first_unmet js S q r < r.n
    unmet-below named e =
        let last = ltb (first fails terms) (length terms) in
        let found : last ≡ true = opposite last (sym (all_first (holds_of js S q) terms) ∙ sym (decided js S q r named) ∙ e) in
        omega (arith, unmet_first, counted, ltb-true (first fails terms) (length terms) found)

-- ---------------------------------------------------------------- what is told

-- The two numbers beside 15.
abbrev told_rule : Denial → ℕ
told_rule NoRule = 0
told_rule (Unmet rule term) = rule

abbrev told-term : Denial → ℕ
told-term NoRule = 0
told-term (Unmet rule term) = term

module _ (js : List ℕ) (S : Fact → Bool) (q : Request) (rs : List Rule) where
  abbrev rule_at_lem : ℕ → Rule
  rule_at_lem i = get_or rs i no_rule

  abbrev term_at_lem : ℕ → ℕ → Term
  term_at_lem i j = get_or (rule_at_lem i).terms j no_term

  -- Where a rule has the request's op, role, a and v, the first such is told, with its first unmet term; else that there is none.
  pub why_unmet : first_named q rs < length rs → why_not js rs S q ≡ Unmet (first_named q rs + 1) (first_unmet js S q (rule_at_lem (first_named q rs)) + 1)
  unfolding why_not
  why_unmet l = rw (lt-ltb (first_named q rs) (length rs) l) refl

  pub why_none : length rs ≤ first_named q rs → why_not js rs S q ≡ NoRule
  unfolding why_not
  why_none l = rw (le-ltb (first_named q rs) (length rs) l) refl

  -- std's search of the list finds none: that there is none is told.
  pub told_none : position (names q) rs ≡ None → NoRule ≡ why_not js rs S q
  told_none e = sym (why_none (omega (arith, named_first q rs, none-first (names q) rs e)))

  -- It finds rule i, which is one of the list, and it is told.
  module _ (i : ℕ) (e : Some i ≡ position (names q) rs) (d : Rule) where
    pub found_place : (first_named q rs ≡ i) × (i < length rs)
    found_place = let found = found-first (names q) rs i (sym e) in (named_first q rs ∙ found.0, found.1)

    pub found-short : Each Short rs → Short (get_or rs i d)
    found-short short = at_place Short rs i d found_place.1 short

    pub told_some : (j : ℕ) → j ≡ first_unmet js S q (get_or rs i d) → Unmet (i + 1) (j + 1) ≡ why_not js rs S q
    told_some j at =
        sym (why_unmet (omega (arith, found_place.0, found_place.1)) ∙ rw (found_place.0, within-any rs i no_rule d found_place.1, ← at) refl)

  -- "13 stays for a request whose op, role, a and v match no rule": exactly there.
  pub no_rule_exactly : (why_not js rs S q ≡ NoRule → (k : ℕ) → k < length rs → names q (rule_at_lem k) ≡ false)
      × (((k : ℕ) → k < length rs → names q (rule_at_lem k) ≡ false) → why_not js rs S q ≡ NoRule)
  no_rule_exactly = (
    λ e k l.
        dite (dec_lt (first_named q rs) (length rs))
        (λ (some : first_named q rs < length rs). absurd (omega (arith, ap denial_number (sym (why_unmet some) ∙ e))))
        (λ (none : first_named q rs < length rs → ⊥). first-none_before (names q) rs no_rule k (omega (arith, named_first q rs))),
    λ none. why_none (omega (arith, named_first q rs, first-none (names q) rs no_rule none)),
  )

  -- What 15 tells of rule i and its term j, counted from 0: the rule has the request's op, role, a and v, none before it has them, its
  -- terms before the told one hold, and that one does not.
  pub record UnmetAt (i j : ℕ) : Type 0 where
    pub in_book : i < length rs
    pub named : names q (rule_at_lem i) ≡ true
    pub none_before : (k : ℕ) → k < i → names q (rule_at_lem k) ≡ false
    pub of_rule : j < (rule_at_lem i).n
    pub met_before : (m : ℕ) → m < j → holds_of js S q (term_at_lem i m) ≡ true
    pub unmet : holds_of js S q (term_at_lem i j) ≡ false

  module _ (short : Each Short rs) where
    -- One told so is the answer, each place counted from 1.
    told-from : (i j : ℕ) → UnmetAt i j → why_not js rs S q ≡ Unmet (i + 1) (j + 1)
    told-from i j t =
        let r = rule_at_lem i in
        let brief : Short r = at_place Short rs i no_rule t.in_book short in
        let place : first_named q rs ≡ i = named_first q rs ∙ first_is (names q) rs no_rule i t.in_book t.named t.none_before in
        let found : first_unmet js S q r ≡ j =
        unmet_first js S q r
        ∙ first_is (fails js S q r) (terms js S q r) no_term j (omega (arith, t.of_rule, counted js S q r brief))
        (fails-at js S q r brief j false t.of_rule t.unmet)
        (λ m l. fails-at js S q r brief m true (omega (arith, t.of_rule)) (t.met_before m l)) in
        why_unmet (omega (arith, place, t.in_book)) ∙ rw (place, found) refl

    module _ (denied : permitted js rs S q ≡ false) where
      -- The rule that is told, and its term.
      told_at : first_named q rs < length rs → UnmetAt (first_named q rs) (first_unmet js S q (rule_at_lem (first_named q rs)))
      told_at l =
          let i = first_named q rs in
          let r = rule_at_lem i in
          let brief : Short r = at_place Short rs i no_rule l short in
          let same = named_first q rs in
          let named : names q r ≡ true = ap (λ (k : ℕ). names q (rule_at_lem k)) same ∙ first_passes (names q) rs no_rule (omega (arith, same)) in
          let below = unmet-below js S q r brief named (none-permits js S q rs no_rule denied i l) in
          record {
            in_book = l;
            named = named;
            none_before = λ k h. first-none_before (names q) rs no_rule k (omega (arith, same));
            of_rule = below;
            met_before = met-before-first js S q r brief;
            unmet = unmet-at-first js S q r brief below;
          }

      -- A told rule is the first that has the request's op, role, a and v, a told term its first unmet one.
      told-places : (Rule-told term_told : ℕ) → why_not js rs S q ≡ Unmet Rule-told term_told
          → (first_named q rs < length rs) × ((first_named q rs + 1 ≡ Rule-told) × (first_unmet js S q (rule_at_lem (first_named q rs)) + 1 ≡ term_told))
      told-places Rule-told term_told e =
          dite (dec_lt (first_named q rs) (length rs))
          (λ (some : first_named q rs < length rs).
          let same = sym (why_unmet some) ∙ e in
          (some, (ap told_rule same, ap told-term same)))
          (λ (none : first_named q rs < length rs → ⊥). absurd (omega (arith, ap denial_number (sym (why_none (omega arith)) ∙ e))))

      -- "the answer tells the first such rule by its place among all the book's rules, counted from 1, and its first unmet term, counted
      -- from 1": exactly these.
      pub unmet-exactly : (i j : ℕ) → (why_not js rs S q ≡ Unmet (i + 1) (j + 1) → UnmetAt i j) × (UnmetAt i j → why_not js rs S q ≡ Unmet (i + 1) (j + 1))
      unmet-exactly i j = (told_of, told-from i j)
        where
          told_of : why_not js rs S q ≡ Unmet (i + 1) (j + 1) → UnmetAt i j
          told_of e =
              let places = told-places (i + 1) (j + 1) e in
              let first-rule : first_named q rs ≡ i = omega (arith, places.1.0) in
              let first-term : first_unmet js S q (rule_at_lem (first_named q rs)) ≡ j = omega (arith, places.1.1) in
              subst (λ k. UnmetAt k j) first-rule (subst (UnmetAt (first_named q rs)) first-term (told_at places.0))

      -- A told rule is one of the at most 512, a told term one of that rule's n, at most eight.
      pub unmet-within : length rs ≤ 512 → (Rule-told term_told : ℕ) → why_not js rs S q ≡ Unmet Rule-told term_told
          → ((1 ≤ Rule-told) × (Rule-told ≤ 512)) × ((1 ≤ term_told) × ((term_told ≤ (rule_at_lem (Rule-told - 1)).n) × ((rule_at_lem (Rule-told - 1)).n ≤ 8)))
      unmet-within few Rule-told term_told e =
          let places = told-places Rule-told term_told e in
          let place : first_named q rs ≡ Rule-told - 1 = omega (arith, places.1.0) in
          let few_terms : (rule_at_lem (first_named q rs)).n ≤ 8 = (at_place Short rs (first_named q rs) no_rule places.0 short).few in
          let of_rule : term_told ≤ (rule_at_lem (first_named q rs)).n = omega (arith, places.1.1, (told_at places.0).of_rule) in (
            (omega (arith, places.1.0), omega (arith, places.0, places.1.0, few)),
            (
              omega (arith, places.1.1),
              (subst (λ (k : ℕ). term_told ≤ (rule_at_lem k).n) place of_rule, subst (λ (k : ℕ). (rule_at_lem k).n ≤ 8) place few_terms),
            ),
          )
