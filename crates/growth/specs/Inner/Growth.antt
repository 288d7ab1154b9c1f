-- Books that only grow, with "not": facts are added and never deleted, at most one rule adds a fact, and a rule may ask that
-- other facts are lacking. Facts are numbers; all are about one person.
use Rattle.std.specs.Prelude.{◌≡◌, true, false, List, [], ◌∷◌, ℕ, ◌<◌}
use Rattle.theory.specs.Inner.Facts.{State, ◌⊆◌, update}

-- The rules: that a rule with one of the query's roles adds the fact f; that this rule asks for g; that it asks that g is lacking.
-- Facts lie below a bound.
pub record Rules : Type 1 where
  pub usable : ℕ → Type 0
  pub asks : ℕ → ℕ → Type 0
  pub bars : ℕ → ℕ → Type 0
  pub F : ℕ
  pub known : (f : ℕ) → usable f → f < F

module _ (R : Rules) where
  open R use {usable, asks, bars}

  -- The fact f may be added in the state S.
  pub record May (S : State) (f : ℕ) : Type 0 where
    pub rule : usable f
    pub held : (g : ℕ) → asks f g → S g ≡ true
    pub lacking : (g : ℕ) → bars f g → S g ≡ false

  -- Each fact of the list may be added when its turn comes; it may be there already.
  abbrev pub Grows : State → List ℕ → Type 0
  Grows S [] = Unit {0}
  Grows S (f ∷ fs) = May S f × Grows (update S f true) fs

  -- Each fact of the list may be added when its turn comes, and is new.
  abbrev pub Gains : State → List ℕ → Type 0
  Gains S [] = Unit {0}
  Gains S (f ∷ fs) = (May S f × (S f ≡ false)) × Gains (update S f true) fs

-- The state after the additions.
abbrev pub grown : State → List ℕ → State
grown S [] = S
grown S (f ∷ fs) = grown (update S f true) fs

module _ (R : Rules) (S₀ W : State) where
  -- No list of permitted additions ends with all that is wanted.
  pub record NoWay : Type 0 where
    pub none : (fs : List ℕ) → Grows R S₀ fs → W ⊆ grown S₀ fs → ⊥

  -- A list of permitted additions, each new, that ends with all that is wanted.
  pub record Way (fs : List ℕ) : Type 0 where
    pub gains : Gains R S₀ fs
    pub meets : W ⊆ grown S₀ fs
