-- What is known between two levels: the settled facts, the crews' rows, and the requests written so far. No part of what plan promises.
use Rattle.std.specs.Prelude.{◌≡◌, Bool, true, false, List, ◌++◌, map, ℕ, ◌+◌, ◌-◌, ◌*◌, ◌/◌, ◌%◌, ◌≤◌, ◌<◌, eqb, length, get_or}
use Rattle.widths.specs.Inner.Widths.{level_size, rows_size, depot_size, draft_size}
use Rattle.facts.specs.Facts.{holds}
use Rattle.inherit.specs.Inheritance.{downward, crew_holds}
use Rattle.frames.specs.Book.{Contents}
use Rattle.theory.specs.Inner.Facts.{State}
use Rattle.theory.specs.Inner.Plan.{Ask}
use Rattle.level.specs.Inner.Notes.{asks}
use Rattle.level.specs.Inner.Upto.{Upto}
use Rattle.reach.specs.Inner.Tracked.{person_level, lift, track, bytes_of}
use Rattle.reach.specs.Inner.Goal.{bad}
use Rattle.reach.specs.Inner.Depot.{depot, level_of}

-- The tracked starting facts.
abbrev pub starts : Contents → State
starts b = track b (holds b.facts)

-- The rows of the crews below level k: of each what it effectively holds, and which crews it reaches. A number that is no crew's holds
-- nothing and reaches itself.
pub record Rows (b : Contents) (R : State) (k : ℕ) (rows : List Bool) : Type 0 where
  pub size : length rows ≡ rows_size
  pub values : (c f : ℕ) → c < 32 → (c < b.sizes.crews → c < k) → f < 128
      → get_or rows (level_size * c + f) false ≡ crew_holds b.juniors (lift b R) (record { 0 = f / 16 }) (f % 16) c
  pub crews : (c d : ℕ) → c < 32 → (c < b.sizes.crews → c < k) → d < 32
      → get_or rows (level_size * c + (128 + d)) false ≡ downward b.juniors (λ x. eqb x d) c

-- The levels below k are settled: R is what they come to, everything above still being allowed; `up` has the additions in its first
-- `ups` requests, `down` the deletions from request `at` on.
pub record Driving (b : Contents) (k : ℕ) (rows : List Bool) (ups : ℕ) (up : List ℕ) (at : ℕ) (down : List ℕ) : Type 0 where
  pub R : State
  pub us : List Ask
  pub ds : List Ask
  pub upto : Upto (depot b) level_of (bad b) (starts b) k R us ds
  pub full : (g : ℕ) → k ≤ g / level_size → g / level_size ≤ person_level b → R g ≡ true
  pub none : (g : ℕ) → person_level b < g / level_size → R g ≡ false
  pub rows_right : Rows b R k rows
  pub bytes_up : map bytes_of us ≡ map bytes_of (asks up 0 ups)
  pub bytes_down : map bytes_of ds ≡ map bytes_of (asks down at (depot_size - at))
  pub few_up : ups ≤ level_size * k
  pub size_up : length up ≡ draft_size
  pub few_down : depot_size ≤ at + level_size * k
  pub most_down : at ≤ depot_size
  pub size_down : length down ≡ draft_size

-- The additions and then the deletions that two buffers have.
abbrev pub drafted : List ℕ → ℕ → List ℕ → ℕ → List (List ℕ)
drafted up ups down at = map bytes_of (asks up 0 ups) ++ map bytes_of (asks down at (depot_size - at))
