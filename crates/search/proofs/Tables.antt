-- The tables of a level: what a subject inherits. A crew inherits from its direct juniors whatever its own facts are; the query's
-- person inherits from the crews that it is in.
use mathlib.Core.Path.{◌≡◌}
use mathlib.Core.Bool.{Bool, false, ◌&&◌}
use mathlib.Core.List.{List}
use Prim.Native.Nat.{ℕ, ◌+◌, ◌/◌, ◌%◌, ◌<◌}
use lib.Dec.{eqb}
use Rattle.inherit.specs.Inheritance.{is_junior, downward, crew_holds}
use Rattle.quantifiers.specs.Quantifiers.{any_below}
use Rattle.frames.specs.Book.{Contents}
use Rattle.theory.specs.Inner.Facts.{State}
use Rattle.shown.specs.Inner.Shown.{row}
use Rattle.reach.specs.Inner.Tracked.{lift}

-- The table of crew k, with the facts R settled below it: its own row alone, from its direct juniors.
pub record CrewTableRight (b : Contents) (R : State) (k : ℕ) (T : List Bool) : Type 0 where
  pub rows : (c f : ℕ) → c < 32 → f < 160 → row T c f ≡ false
  pub own : (f : ℕ) → f < 128
      → row T 32 f ≡ any_below (λ j. is_junior b.juniors k j && crew_holds b.juniors (lift b R) (record { 0 = f / 16 }) (f % 16) j) k

-- The table of the query's person, with the crews' facts R settled: of each crew what it hands on, and nothing besides.
pub record PersonTableRight (b : Contents) (R : State) (T : List Bool) : Type 0 where
  pub values : (c f : ℕ) → c < 32 → f < 128 → row T c f ≡ crew_holds b.juniors (lift b R) (record { 0 = f / 16 }) (f % 16) c
  pub crews : (c d : ℕ) → c < 32 → d < 32 → row T c (128 + d) ≡ downward b.juniors (λ x. eqb x d) c
  pub own : (f : ℕ) → f < 160 → row T 32 f ≡ false
