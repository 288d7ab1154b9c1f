-- One level within the whole: fact `f` of level `k` is fact 160 * k + f of the whole.
use mathlib.Core.Path.{◌≡◌}
use mathlib.Core.Bool.{Bool, cond}
use Prim.Native.Nat.{ℕ, ◌+◌, ◌*◌, ◌/◌, ◌%◌, ◌<◌}
use lib.Dec.{eqb}
use Rattle.theory.specs.Inner.Facts.{State}
use Rattle.theory.specs.Inner.Plan.{Ask, req, World}

-- `S` at the level `k`, and `R` at the others.
unfoldable pub on_level : ℕ → State → State → State
on_level k R S g = cond (eqb (g / 160) k) (S (g % 160)) (R g)

-- A level's request as the whole's.
abbrev pub to_whole : ℕ → Ask → Ask
to_whole k q = record { fact = 160 * k + q.fact; op = q.op; role = q.role; subject = q.subject; a = q.a; v = q.v }

-- A request of the whole as its level's.
abbrev pub to_level : Ask → Ask
to_level q = record { fact = q.fact % 160; op = q.op; role = q.role; subject = q.subject; a = q.a; v = q.v }

-- The level's world is the whole's at that level, while `R` stands at the others.
pub record Within (W Z : World) (k : ℕ) (R : State) : Type 0 where
  pub known : (S : State) (b : Bool) (q : Ask) → Z.May S (req b q) → q.fact < 160
  pub into : (S : State) (b : Bool) (q : Ask) → Z.May S (req b q) → W.May (on_level k R S) (req b (to_whole k q))
  pub out : (S : State) (b : Bool) (q : Ask) → q.fact / 160 ≡ k → W.May (on_level k R S) (req b q) → Z.May S (req b (to_level q))
