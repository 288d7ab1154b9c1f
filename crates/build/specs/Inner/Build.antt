-- Flags and sets made anew: what each function writes.
use Rattle.std.specs.Prelude.{Option, Some, None, ◌≡◌, Bool, true, false, List, ℕ, ◌≤◌, ◌<◌, length}
use Rattle.widths.specs.Inner.Widths.{level_size}
use Rattle.theory.specs.Inner.Facts.{minus}
use Rattle.shown.specs.Inner.Shown.{direct, Whole, WholeFacts}

-- The flags of facts of a subject with no direct facts.
pub record Blank (T x : List Bool) : Type 0 where
  pub whole : WholeFacts T x
  pub none : (f : ℕ) → direct x f ≡ false

-- The flags of the subject whose direct facts are `d`.
pub record Built (T d x : List Bool) : Type 0 where
  pub whole : Whole T x
  pub same : direct x ≡ direct d

-- The facts of `x` that are not forbidden.
pub record Stripped (x bad d : List Bool) : Type 0 where
  pub size : length d ≡ level_size
  pub same : direct d ≡ minus (direct x) (direct bad)

-- The facts of `y`.
pub record Copied (y u : List Bool) : Type 0 where
  pub size : length u ≡ level_size
  pub same : direct u ≡ direct y

-- A fact's number; 160 where there is none.
abbrev pub lacked : Option ℕ → ℕ
lacked (Some f) = f
lacked None = level_size

-- `r` is the first fact that `a` has and `b` lacks, or 160.
pub record Lacks (a b : List Bool) (r : ℕ) : Type 0 where
  pub fits : r ≤ level_size
  pub before : (f : ℕ) → f < r → minus (direct a) (direct b) f ≡ false
  pub here : r < level_size → minus (direct a) (direct b) r ≡ true
