-- The laws of "v or any higher value": one search down the hierarchy finds whichever of the values there is, and the paper's sentences
-- about a single value hold of it.
use mathlib.Core.Path.{◌≡◌, refl, ap, sym, ◌∙◌}
use mathlib.Core.Bool.{Bool, true, false, ◌&&◌, ◌||◌}
use mathlib.Core.List.{List}
use Prim.Native.Nat.{ℕ, zero, suc}
use Rattle.quantifiers.specs.Quantifiers.{any_below, any_from}
use Rattle.quantifiers.proofs.BelowLaws.{any_same, from_none, from_same, from_or, family_from}
use Rattle.facts.specs.declared.Attr.{Attr}
use Rattle.facts.specs.declared.Person.{Person}
use Rattle.facts.specs.declared.Fact.{Fact}
use Rattle.facts.specs.declared.Fact.TheVariants.{Holds, CrewHolds, Member}
use Rattle.inherit.specs.Inheritance.{is_junior, down_within, downward, crew_holds, some_crew, person_holds}
use Rattle.inherit.proofs.InheritanceLaws.{downward_step, person_holds_step}

-- ---------------------------------------------------------------- downwards

module _ (js : List ℕ) (P : ℕ → ℕ → Bool) (v n : ℕ) where
  -- On any number of levels.
  levels_from : (k c : ℕ) → down_within js (λ x. any_from (λ w. P w x) v n) k c ≡ any_from (λ w. down_within js (P w) k c) v n
  unfolding down_within
  levels_from zero c = sym (from_none (λ _. false) v n (λ w l. refl))
  levels_from (suc k) c =
      let below : ℕ → ℕ → Bool = λ w j. down_within js (P w) k j in
      ap (λ (b : Bool). any_from (λ w. P w c) v n || b)
      (any_same (λ j. is_junior js c j && down_within js (λ x. any_from (λ w. P w x) v n) k j) (λ j. is_junior js c j && any_from (λ w. below w j) v n) c
      (λ j l. ap (λ (b : Bool). is_junior js c j && b) (levels_from k j))
      ∙ family_from (is_junior js c) below v n c)
      ∙ sym (from_or (λ w. P w c) (λ w. any_below (λ j. is_junior js c j && below w j) c) v n)

  -- Crew c or a crew below it passes one of the tests from v on where for one of them crew c or a crew below it passes it.
  pub downward-any_from : (c : ℕ) → downward js (λ x. any_from (λ w. P w x) v n) c ≡ any_from (λ w. downward js (P w) c) v n
  unfolding downward
  downward-any_from c = levels_from (suc c) c

-- ---------------------------------------------------------------- what is effective

module _ (js : List ℕ) (S : Fact → Bool) (a : Attr) (v n : ℕ) where
  -- One search finds what a crew effectively holds of the values from v on.
  pub crew_at_least : (c : ℕ) → downward js (λ x. any_from (λ w. S (CrewHolds (record { 0 = x }) a w)) v n) c ≡ any_from (λ w. crew_holds js S a w c) v n
  unfolding crew_holds
  crew_at_least c = downward-any_from js (λ w x. S (CrewHolds (record { 0 = x }) a w)) v n c

  -- A crew effectively holds v or a higher value when it holds one directly or some direct junior effectively holds one.
  pub crew_at_least_step : (c : ℕ) → any_from (λ w. crew_holds js S a w c) v n
      ≡ any_from (λ w. S (CrewHolds (record { 0 = c }) a w)) v n || any_below (λ j. is_junior js c j && any_from (λ w. crew_holds js S a w j) v n) c
  crew_at_least_step c =
      let test : ℕ → Bool = λ x. any_from (λ w. S (CrewHolds (record { 0 = x }) a w)) v n in
      sym (crew_at_least c) ∙ downward_step js test c
      ∙ ap (λ (b : Bool). test c || b)
      (any_same (λ j. is_junior js c j && downward js test j) (λ j. is_junior js c j && any_from (λ w. crew_holds js S a w j) v n) c
      (λ j l. ap (λ (b : Bool). is_junior js c j && b) (crew_at_least j)))

  -- A person effectively holds v or a higher value when holding one directly or when some crew the person is directly in effectively
  -- holds one.
  pub person_at_least_step : (p : Person) → any_from (person_holds js S p a) v n
      ≡ any_from (λ w. S (Holds p a w)) v n || some_crew S p (λ d. any_from (λ w. crew_holds js S a w d) v n)
  person_at_least_step p =
      from_same (person_holds js S p a) (λ w. S (Holds p a w) || some_crew S p (λ d. crew_holds js S a w d)) v n (λ w l. person_holds_step js S p a w)
      ∙ from_or (λ w. S (Holds p a w)) (λ w. some_crew S p (λ d. crew_holds js S a w d)) v n
      ∙ ap (λ (b : Bool). any_from (λ w. S (Holds p a w)) v n || b)
      (sym (family_from (λ d. S (Member p (record { 0 = d }))) (λ w d. crew_holds js S a w d) v n 32))

  -- A person who directly holds v or a higher value effectively holds one.
  pub person_at_least-direct : (p : Person) → any_from (λ w. S (Holds p a w)) v n ≡ true → any_from (person_holds js S p a) v n ≡ true
  person_at_least-direct p e = person_at_least_step p ∙ rw e

  -- Where the person directly holds none, the search from the person's crews decides.
  pub at_least_by_crews : (p : Person) → any_from (λ w. S (Holds p a w)) v n ≡ false
      → some_crew S p (downward js (λ x. any_from (λ w. S (CrewHolds (record { 0 = x }) a w)) v n)) ≡ any_from (person_holds js S p a) v n
  at_least_by_crews p e =
      let passes : ℕ → Bool = downward js (λ x. any_from (λ w. S (CrewHolds (record { 0 = x }) a w)) v n) in
      let is-in : ℕ → Bool = λ d. S (Member p (record { 0 = d })) in
      any_same (λ d. is-in d && passes d) (λ d. is-in d && any_from (λ w. crew_holds js S a w d) v n) 32
      (λ d l. ap (λ (b : Bool). is-in d && b) (crew_at_least d))
      ∙ sym (person_at_least_step p ∙ rw e)
