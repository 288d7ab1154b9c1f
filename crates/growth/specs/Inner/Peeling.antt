-- How a way is found: the facts with which every way ends are gathered backwards from the wanted ones, and then those that are lacking
-- are added one by one, each only when no other that is still to come asks that it is lacking.
use Rattle.std.specs.Prelude.{◌≡◌, ◌≢◌, true, false, List, ℕ}
use Rattle.theory.specs.Inner.Facts.{State, ◌⊆◌}
use Rattle.growth.specs.Inner.Growth.{Rules, May, Grows, Gains, grown}

module _ (R : Rules) (S₀ W : State) where
  -- Facts with which every way ends.
  pub record Needed (D : State) : Type 0 where
    pub sure : (fs : List ℕ) → Grows R S₀ fs → W ⊆ grown S₀ fs → D ⊆ grown S₀ fs

  -- Each wanted fact is one of them, and each that the rule of one of them asks for, unless this one is there at first.
  pub record Closed (D : State) : Type 0 where
    pub wanted : W ⊆ D
    pub asked : (f g : ℕ) → D f ≡ true → S₀ f ≡ false → R.asks f g → D g ≡ true

-- A fact of D that is still to come in X.
pub record Left (D X : State) (f : ℕ) : Type 0 where
  pub due : D f ≡ true
  pub not_yet : X f ≡ false

module _ (R : Rules) where
  -- It may be added in X, and no other that is still to come asks that it is lacking.
  pub record Free (D X : State) (f : ℕ) : Type 0 where
    pub left : Left D X f
    pub may : May R X f
    pub unbarred : (h : ℕ) → Left D X h → h ≢ f → R.bars h f → ⊥

  -- The additions fs, each new, lead from S₀ to X; nothing was added that a fact still to come bars.
  pub record Peeled (S₀ D X : State) (fs : List ℕ) : Type 0 where
    pub gains : Gains R S₀ fs
    pub ends : grown S₀ fs ≡ X
    pub from : S₀ ⊆ X
    pub safe : (f g : ℕ) → Left D X f → R.bars f g → X g ≡ true → S₀ g ≡ true
