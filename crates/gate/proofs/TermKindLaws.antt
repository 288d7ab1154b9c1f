-- Which kinds of terms are about a value, and which about a crew.
use mathlib.Core.Path.{◌≡◌, refl, sym, ◌∙◌}
use mathlib.Core.Logic.{◌⊎◌, inl, inr, dite}
use mathlib.Core.Bool.{true, false, ◌||◌, true≢false}
use Prim.Native.Nat.{ℕ}
use native.Mathlib.Decide.{ℕ_discrete}
use native.Mathlib.Omega.{arith}
use lib.Dec.{eqb}
use borrow.Author.Tests.{eqb-true}
use Rattle.quantifiers.proofs.BoolLaws.{or_either, not_on}
use Rattle.gate.specs.Gate.{asks_value, asks_crew}
use Rattle.sizes.specs.Sizes.{between}
use Rattle.sizes.proofs.SizeLaws.{between-true}

-- 01, 02, 05 and 81 are about a value.
pub value_kinds : (k : ℕ) → asks_value k ≡ true → (k ≡ 1) ⊎ ((k ≡ 2) ⊎ ((k ≡ 5) ⊎ (k ≡ 129)))
value_kinds k e =
    or_either (between 1 2 k) (eqb k 5 || eqb k 129) e
    (λ b.
    let in-range = between-true 1 2 k b in
    dite (ℕ_discrete k 1) (λ (i : k ≡ 1). inl i) (λ (n : k ≡ 1 → ⊥). inr (inl (omega (arith, in-range)))))
    (λ b. inr (inr (or_either (eqb k 5) (eqb k 129) b (λ i. inl (eqb-true k 5 i)) (λ i. inr (eqb-true k 129 i)))))

-- 03, 04 and 83 are about a crew.
pub crew_kinds : (k : ℕ) → asks_crew k ≡ true → (k ≡ 3) ⊎ ((k ≡ 4) ⊎ (k ≡ 131))
crew_kinds k e =
    or_either (between 3 4 k) (eqb k 131) e
    (λ b.
    let in-range = between-true 3 4 k b in
    dite (ℕ_discrete k 3) (λ (i : k ≡ 3). inl i) (λ (n : k ≡ 3 → ⊥). inr (inl (omega (arith, in-range)))))
    (λ b. inr (inr (eqb-true k 131 b)))

-- A kind other than 01, 02, 05 and 81 is not about a value.
pub no_value_kind : (k : ℕ) → (k ≡ 1 → ⊥) → (k ≡ 2 → ⊥) → (k ≡ 5 → ⊥) → (k ≡ 129 → ⊥) → asks_value k ≡ false
no_value_kind k n₁ n₂ n₅ n₁₂₉ = not_on (asks_value k) (λ e. cases (value_kinds k e))
  where
    cases : (k ≡ 1) ⊎ ((k ≡ 2) ⊎ ((k ≡ 5) ⊎ (k ≡ 129))) → ⊥
    cases (inl e) = n₁ e
    cases (inr (inl e)) = n₂ e
    cases (inr (inr (inl e))) = n₅ e
    cases (inr (inr (inr e))) = n₁₂₉ e

-- No kind is about both.
pub crew_not_value : (k : ℕ) → asks_crew k ≡ true → asks_value k ≡ false
crew_not_value k e = cases (crew_kinds k e)
  where
    cases : (k ≡ 3) ⊎ ((k ≡ 4) ⊎ (k ≡ 131)) → asks_value k ≡ false
    cases (inl is) = rw is refl
    cases (inr (inl is)) = rw is refl
    cases (inr (inr is)) = rw is refl

pub value_not_crew : (k : ℕ) → asks_value k ≡ true → asks_crew k ≡ false
value_not_crew k e = not_on (asks_crew k) (λ is. true≢false (sym e ∙ crew_not_value k is))
