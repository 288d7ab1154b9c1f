-- The search down the hierarchy: what is looked for, and which crews were tried. No promise of the paper needs these.
use Rattle.std.specs.Prelude.{ℕ, ◌≡◌, Bool, true, false, ◌&&◌, List, Option, None, Some, eqb}
use Rattle.sets.specs.Sets.{member}
use Rattle.facts.specs.declared.Fact.{Fact}
use Rattle.facts.specs.declared.Fact.TheVariants.{CrewHolds}
use Rattle.inherit.specs.declared.Sought.{Sought}
use Rattle.inherit.specs.declared.Sought.TheVariants.{Value, AtLeast, Named}
use Rattle.inherit.specs.Inheritance.{is_junior, downward}
use Rattle.quantifiers.specs.Quantifiers.{any_below, any_from}

-- What is looked for, as a test of a crew's number: that the crew directly holds the value, that it directly holds the value or a
-- higher one (an attribute has at most 16 values), or that it is the crew named.
unfoldable pub sought : (Fact → Bool) → Sought → ℕ → Bool
sought S (Value a v) = λ x. S (CrewHolds (record { 0 = x }) a v)
sought S (AtLeast a v) = λ x. any_from (λ w. S (CrewHolds (record { 0 = x }) a w)) v 16
sought S (Named c) = λ x. eqb x c.0

-- Some direct junior of crew c with a number below n passes the test, or a crew below it does.
unfoldable pub junior_passes : List ℕ → (ℕ → Bool) → ℕ → ℕ → Bool
junior_passes js P c n = any_below (λ j. is_junior js c j && downward js P j) n

-- Every crew of the set was tried: neither it nor a crew below it passes the test.
pub record Tried (js : List ℕ) (P : ℕ → Bool) (seen : ℕ) : Type 0 where
  pub fails : (x : ℕ) → member seen x ≡ true → downward js P x ≡ false

-- What a search leaves, by whether it passes: nothing where it found what it looked for, else the crews tried.
abbrev pub Leaves : List ℕ → (ℕ → Bool) → Bool → Option ℕ → Type 0
Leaves js P passes None = passes ≡ true
Leaves js P passes (Some seen) = (passes ≡ false) × Tried js P seen
