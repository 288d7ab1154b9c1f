-- What "effectively holds v or any higher value" means: by the values and at their ends, by the paper's cases, and by the facts.
use mathlib.Core.Path.{◌≡◌, ap, ◌∙◌}
use mathlib.Core.Logic.{⊎_elim}
use mathlib.Core.Bool.{Bool, true, false, ◌&&◌, ◌||◌, or-false}
use mathlib.Core.List.{List}
use Prim.Native.Nat.{ℕ, ◌≤◌, ◌<◌}
use native.Mathlib.Omega.{arith}
use lib.ListN.{length}
use Rattle.quantifiers.specs.Quantifiers.{any_below, any_from}
use Rattle.quantifiers.proofs.BelowLaws.{from_found, from_cases, from_lower, from_zero, from_step, from_end, from_none}
use Rattle.quantifiers.proofs.BoolLaws.{three_below}
use Rattle.facts.specs.Facts.{holds, fits}
use Rattle.facts.specs.declared.Attr.{Attr}
use Rattle.facts.specs.declared.Crew.{Crew}
use Rattle.facts.specs.declared.Person.{Person}
use Rattle.facts.specs.declared.Fact.{Fact}
use Rattle.facts.specs.declared.Fact.TheVariants.{Holds, CrewHolds}
use Rattle.facts.proofs.FactLaws.{holds_fits}
use Rattle.inherit.specs.Inheritance.{is_junior, crew_holds, some_crew}
use Rattle.inherit.proofs.InheritanceLaws.{crew_holds_found, person_holds_cases}
use Rattle.inherit.proofs.AtLeastLaws.{crew_at_least_step, person_at_least_step}
use Rattle.rules.specs.declared.Subject.{Subject}
use Rattle.rules.specs.declared.Subject.TheVariants.{User, Group}
use Rattle.rules.specs.Rules.{effectively, at_least}
use Rattle.rules.proofs.RuleLaws.{crew_beyond}

-- ---------------------------------------------------------------- by the values

module _ (js : List ℕ) (S : Fact → Bool) (s : Subject) (a : Attr) where
  -- Who effectively holds a value holds at least each value up to it.
  pub at_least_up_to : (v w : ℕ) → v ≤ w → w < 16 → effectively js S s a w ≡ true → at_least js S s a v ≡ true
  unfolding at_least
  at_least_up_to v w h l e = from_found (effectively js S s a) v 16 w h l e

  -- In particular the value itself.
  pub at_least-own : (v : ℕ) → v < 16 → effectively js S s a v ≡ true → at_least js S s a v ≡ true
  at_least-own v l e = at_least_up_to v v (omega arith) l e

  -- Who holds at least v effectively holds v or a higher value.
  pub at_least_cases : (v : ℕ) → at_least js S s a v ≡ true → (w : ℕ) × ((v ≤ w) × ((w < 16) × (effectively js S s a w ≡ true)))
  unfolding at_least
  at_least_cases v e = from_cases (effectively js S s a) v 16 e

  -- Who holds at least a value holds at least each lower one.
  pub at_least_lower : (u v : ℕ) → u ≤ v → at_least js S s a v ≡ true → at_least js S s a u ≡ true
  unfolding at_least
  at_least_lower u v h e = from_lower (effectively js S s a) u v 16 h e

  -- At least 0 is any value of the attribute.
  pub at_least-zero : at_least js S s a 0 ≡ any_below (effectively js S s a) 16
  unfolding at_least
  at_least-zero = from_zero (effectively js S s a) 16

  -- At least 15 is 15, which no value is above.
  pub at_least_last : at_least js S s a 15 ≡ effectively js S s a 15
  unfolding at_least
  at_least_last =
      let test = effectively js S s a in
      from_step test 15 16 (omega arith) ∙ ap (λ (b : Bool). test 15 || b) (from_end test 16 16 (omega arith)) ∙ or-false (test 15)

-- ---------------------------------------------------------------- by the paper's cases

module _ (js : List ℕ) (S : Fact → Bool) (a : Attr) (v : ℕ) where
  -- A person holds at least v when directly holding v or a higher value, or when some crew the person is directly in holds at least v.
  pub at_least_person : (p : Person) → at_least js S (User p) a v
      ≡ any_from (λ w. S (Holds p a w)) v 16 || some_crew S p (λ d. at_least js S (Group (record { 0 = d })) a v)
  unfolding at_least effectively
  at_least_person p = person_at_least_step js S a v 16 p

  -- A crew holds at least v when directly holding v or a higher value, or when some direct junior holds at least v.
  pub at_least_crew : (c : Crew) → at_least js S (Group c) a v
      ≡ any_from (λ w. S (CrewHolds c a w)) v 16 || any_below (λ j. is_junior js c.0 j && at_least js S (Group (record { 0 = j })) a v) c.0
  unfolding at_least effectively
  at_least_crew c = crew_at_least_step js S a v 16 c.0

-- ---------------------------------------------------------------- by the facts

-- Whoever effectively holds a value, some person or some crew directly holds it: what follows from each such fact follows.
pub effective_from : (js : List ℕ) (S : Fact → Bool) (s : Subject) (a : Attr) (v : ℕ) {A : Type 0}
    → ((p : Person) → S (Holds p a v) ≡ true → A) → ((c : Crew) → S (CrewHolds c a v) ≡ true → A) → effectively js S s a v ≡ true → A
unfolding effectively
effective_from js S (User p) a v one two e =
    ⊎_elim (λ d. one p d)
    (λ by. let found = crew_holds_found js S a v by.0 by.1.1.1 in two (record { 0 = found.0 }) found.1)
    (person_holds_cases js S p a v e)
effective_from js S (Group c) a v one two e = let found = crew_holds_found js S a v c.0 e in two (record { 0 = found.0 }) found.1

-- What is effective in a ledger is a value below 16.
pub effective_below : (js l : List ℕ) (s : Subject) (a : Attr) (v : ℕ) → effectively js (holds l) s a v ≡ true → v < 16
unfolding fits
effective_below js l s a v e =
    effective_from js (holds l) s a v
    (λ p d. (three_below p.0 a.0 v 64 8 16 (holds_fits l (Holds p a v) d)).1.1)
    (λ c d. (three_below c.0 a.0 v 32 8 16 (holds_fits l (CrewHolds c a v) d)).1.1)
    e

-- ---------------------------------------------------------------- numbers that are no crew's

-- A number that is no crew's holds nothing.
pub at_least_beyond : (js l : List ℕ) (a : Attr) (v : ℕ) (c : Crew) → length js ≡ 32 → 32 ≤ c.0 → at_least js (holds l) (Group c) a v ≡ false
unfolding at_least effectively
at_least_beyond js l a v c room far =
    from_none (λ w. crew_holds js (holds l) a w c.0) v 16 (λ w less. crew_beyond js l a w c.0 room far)
