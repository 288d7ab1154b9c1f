-- What the sweep that puts deletions back needs and leaves.
use Rattle.std.specs.Prelude.{◌≡◌, Bool, false, not, ◌&&◌, List, ℕ, ◌+◌, ◌-◌, ◌*◌, ◌≤◌, length, get_or}
use Rattle.widths.specs.Inner.Widths.{level_size, flags_size}
use Rattle.theory.specs.Inner.Facts.{minus}
use Rattle.theory.specs.Inner.Plan.{BackClosed}
use Rattle.theory.specs.Inner.Sweep.{PutBack}
use Rattle.shown.specs.Inner.Shown.{direct, Whole}
use Rattle.level.specs.Inner.Moves.{Moves, flags_with}
use Rattle.level.specs.Inner.World.{world}
use Rattle.level.specs.Inner.Notes.{ask_at, asks}
use Rattle.level.specs.declared.Move.{Move}

-- Whether the move deletes a fact of `x` that is not in `y`, and its terms hold of `y` with that fact.
unfoldable pub backs_in : Move → List Bool → List Bool → List Bool → Bool
backs_in m T x y = not (get_or y m.fact false) && (get_or x m.fact false && flags_with m T y)

-- What the sweep needs: `y` is `x` without the forbidden facts, and there is room for every fact.
pub record ReadyBack (T bad x y : List Bool) (size end : ℕ) : Type 0 where
  pub whole : Whole T y
  pub length_x : length x ≡ flags_size
  pub starts : direct y ≡ minus (direct x) (direct bad)
  pub below : level_size ≤ end
  pub room : 5 * end ≤ size

-- What the sweep leaves: the requests written lead from `y` down to what of `x` is not forbidden, those behind them stand, and no deletion is left to put back.
pub record ClosedBack (ms : Moves) (p : ℕ) (T bad x y : List Bool) (end : ℕ) (out₀ out : List ℕ) (at : ℕ) : Type 0 where
  pub whole : Whole T y
  pub size : length out ≡ length out₀
  pub down : at ≤ end
  pub few : end ≤ at + level_size
  pub stands : (k : ℕ) → end ≤ k → ask_at out k ≡ ask_at out₀ k
  pub back : PutBack (world T ms ms p) (direct bad) (direct x) (direct y) (asks out at (end - at))
  pub closed : BackClosed (world T ms ms p) (direct bad) (direct x) (direct y)
