-- What the sweep of the additions needs and leaves.
use Rattle.std.specs.Prelude.{◌≡◌, ◌⊎◌, Bool, false, not, ◌&&◌, List, ℕ, ◌+◌, ◌*◌, ◌≤◌, ◌<◌, length, get_or}
use Rattle.widths.specs.Inner.Widths.{level_size}
use Rattle.theory.specs.Inner.Facts.{◌⊆◌}
use Rattle.theory.specs.Inner.Plan.{AddClosed}
use Rattle.theory.specs.Inner.Sweep.{Added}
use Rattle.shown.specs.Inner.Shown.{direct, Whole}
use Rattle.level.specs.Inner.Moves.{Moves, flags_met}
use Rattle.level.specs.Inner.World.{world}
use Rattle.level.specs.Inner.Notes.{ask_at, asks}
use Rattle.level.specs.declared.Move.{Move}

-- Whether the move adds a fact that is allowed and not there yet, and its terms hold.
unfoldable pub fires_in : Move → List Bool → List Bool → Bool
fires_in m allowed x = not (get_or x m.fact false) && (get_or allowed m.fact false && flags_met m x)

-- `r` is the place after `i` in a round of `n`.
pub record Next (i n r : ℕ) : Type 0 where
  pub fits : r < n
  pub turn : i + 1 ≡ n → r ≡ 0
  pub step : (i + 1 ≡ n → ⊥) → r ≡ i + 1

-- How a sweep of `n` moves that stands at `i`, with `quiet` moves before it quiet and `tried` of the 160 names tried, goes on at `i'`:
-- from where it stands, or, by a name more, at any move, none quiet before it.
pub record TurnAt (n tried i quiet tried' i' quiet' : ℕ) : Type 0 where
  pub fits : i' < n
  pub onward : tried ≤ tried'
  pub names : tried' ≤ level_size
  pub goes : ((i' ≡ i) × (quiet' ≡ quiet)) ⊎ ((tried < tried') × (quiet' ≡ 0))

-- What a sweep needs: whole flags within what is allowed, and room for every fact.
pub record Ready (T allowed x : List Bool) (size start : ℕ) : Type 0 where
  pub whole : Whole T x
  pub length_allowed : length allowed ≡ level_size
  pub within : direct x ⊆ direct allowed
  pub room : 5 * (start + level_size) ≤ size

-- What the sweep leaves: the requests written lead from `x₀` to `x` within `allowed`, those before them stand, and no addition is left.
pub record Closed (ms : Moves) (p : ℕ) (T allowed x₀ x : List Bool) (start : ℕ) (out₀ out : List ℕ) (n : ℕ) : Type 0 where
  pub whole : Whole T x
  pub size : length out ≡ length out₀
  pub stands : (k : ℕ) → k < start → ask_at out k ≡ ask_at out₀ k
  pub few : n ≤ level_size
  pub added : Added (world T ms ms p) (direct x₀) (direct allowed) (direct x) (asks out start n)
  pub closed : AddClosed (world T ms ms p) (direct allowed) (direct x)
