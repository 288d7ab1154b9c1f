-- States as sets of facts: setting a fact, leaving facts out.
use Rattle.std.specs.Prelude.{◌≡◌, Bool, true, false, not, ◌&&◌, ℕ}
use Rattle.std.proofs.Math.Logic.{ite}
use Rattle.std.proofs.Math.Decide.{ℕ_discrete}

-- Which facts hold; facts are numbers.
abbrev pub State : Type 0
State = ℕ → Bool

-- Every fact of `S` is one of `T`.
infix 20 ◌⊆◌
abbrev pub ◌⊆◌ : State → State → Type 0
S ⊆ T = (f : ℕ) → S f ≡ true → T f ≡ true

-- `S` with the fact `f` set to `b`.
unfoldable pub update : State → ℕ → Bool → State
update S f b g = ite (ℕ_discrete g f) b (S g)

-- The facts of `X` that are not forbidden (`bad`).
abbrev pub minus : State → State → State
minus X bad f = X f && not (bad f)

-- No forbidden fact holds.
abbrev pub Clear : State → State → Type 0
Clear bad S = (f : ℕ) → S f ≡ true → bad f ≡ false
