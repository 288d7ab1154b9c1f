-- What is settled below a level.
use Rattle.std.specs.Prelude.{true, List, ℕ}
use Rattle.theory.specs.Inner.Facts.{State, ◌⊆◌, minus}
use Rattle.theory.specs.Inner.Plan.{Ask, World, Brings, Bounds}
use Rattle.theory.specs.Inner.Tiers.{Deletes, below}

module _ (W : World) (tier : ℕ → ℕ) (bad S₀ : State) where
  -- Below the level `k` the set `R` is settled: `us` lead up to it and `ds` down from it; every chain that ends clear stays within it.
  pub record Upto (k : ℕ) (R : State) (us ds : List Ask) : Type 0 where
    pub bounds : Bounds W bad S₀ R
    pub starts : S₀ ⊆ R
    pub additions : Brings W true S₀ us (below tier k R S₀)
    pub deletions : Deletes tier W k R (minus R bad) ds
