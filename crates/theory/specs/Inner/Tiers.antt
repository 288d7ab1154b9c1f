-- Facts in tiers, where what is permitted of a fact turns on its own tier and those below: a plan may then be made tier by tier, from the lowest.
use Rattle.std.specs.Prelude.{◌≡◌, Bool, false, cond, List, [], ◌∷◌, ℕ, ◌≤◌, ◌<◌, ltb, eqb}
use Rattle.theory.specs.Inner.Facts.{State}
use Rattle.theory.specs.Inner.Plan.{Ask, req, World, Brings}

-- With a tier for each fact, a request is permitted alike wherever its own tier and those below are alike.
pub record Local (W : World) (tier : ℕ → ℕ) : Type 0 where
  pub local : {S T : State} (b : Bool) (q : Ask) → ((g : ℕ) → tier g ≤ tier q.fact → S g ≡ T g) → W.May S (req b q) → W.May T (req b q)

module _ (tier : ℕ → ℕ) where
  -- Each request of the list is about a fact of the tier `k`.
  abbrev pub All : ℕ → List Ask → Type 0
  All k [] = Unit {0}
  All k (f ∷ fs) = (tier f.fact ≡ k) × All k fs

  -- The states are alike up to the tier `k`.
  abbrev pub Agree : ℕ → State → State → Type 0
  Agree k S T = (g : ℕ) → tier g ≤ k → S g ≡ T g

  -- The states are alike above the tier `k`.
  abbrev pub Above : ℕ → State → State → Type 0
  Above k S T = (g : ℕ) → k < tier g → S g ≡ T g

  -- `A` in the tiers below `k`, and `B` in the others.
  unfoldable pub below : ℕ → State → State → State
  below k A B g = cond (ltb (tier g) k) (A g) (B g)

  -- `A` in the tier `k`, and `B` in the others.
  unfoldable pub only : ℕ → State → State → State
  only k A B g = cond (eqb (tier g) k) (A g) (B g)

  -- The deletions `ds` bring `U` to `B` in the tiers below `k`, whatever stands above.
  abbrev pub Deletes : World → ℕ → State → State → List Ask → Type 0
  Deletes W k U B ds = (Z : State) → Brings W false (below k U Z) ds (below k B Z)
