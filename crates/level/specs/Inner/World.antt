-- The world of a level: which requests its moves permit.
use Rattle.std.specs.Prelude.{◌≡◌, Bool, true, false, List, ℕ, ◌<◌}
use Rattle.widths.specs.Inner.Widths.{level_size}
use Rattle.theory.specs.Inner.Facts.{State}
use Rattle.theory.specs.Inner.Plan.{Ask, Req, req, World}
use Rattle.level.specs.Inner.Moves.{Moves, move_at, ask_of, move_shown}

-- Some move of the list permits the request.
pub record Some (T : List Bool) (ms : Moves) (p : ℕ) (S : State) (q : Ask) : Type 0 where
  pub index : ℕ
  pub listed : index < ms.count
  pub same : q ≡ ask_of p (move_at ms index)
  pub holds : move_shown T S (move_at ms index) ≡ true
  pub known : q.fact < level_size

-- The subject's world: its additions and its deletions.
abbrev pub world : (T : List Bool) (adds dels : Moves) (p : ℕ) → World
world T adds dels p = record { May = may; F = level_size }
  where
    may : State → Req → Type 0
    may S (req true q) = Some T adds p S q
    may S (req false q) = Some T dels p S q
