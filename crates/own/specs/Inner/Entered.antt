-- The moves of a book that only grows, entered in the tables of crate `grow`: which facts some move adds, the number of that move, and its terms.
use Rattle.std.specs.Prelude.{◌≡◌, ◌≢◌, Bool, true, false, cond, List, ℕ, ◌+◌, ◌*◌, ◌/◌, ◌<◌, ltb, length, get_or}
use Rattle.widths.specs.Inner.Widths.{level_size, idle_at, terms_size}
use Rattle.level.specs.Inner.Moves.{Moves, move_at}
use Rattle.level.specs.declared.Move.{Move}

-- Term j of a move; where it has no such term, one that asks nothing.
unfoldable pub term_of : Move → ℕ → ℕ
term_of m j = cond (ltb j m.n) (get_or m.terms j 0) idle_at

-- The eight terms of the move's fact are those of the move; all others are as before.
pub record TermsEntered (before : List ℕ) (m : Move) (ts : List ℕ) : Type 0 where
  pub size : length ts ≡ length before
  pub here : (j : ℕ) → j < 8 → get_or ts (8 * m.fact + j) 0 ≡ term_of m j
  pub there : (i : ℕ) → i / 8 ≢ m.fact → get_or ts i 0 ≡ get_or before i 0

-- No fact has a move, and no term asks anything.
pub record Fresh (us : List Bool) (ts by : List ℕ) : Type 0 where
  pub size_us : length us ≡ level_size
  pub size_ts : length ts ≡ terms_size
  pub size_by : length by ≡ level_size
  pub none : (f : ℕ) → f < level_size → get_or us f false ≡ false
  pub blank : (i : ℕ) → i < terms_size → get_or ts i 0 ≡ idle_at

-- Move i, one of the first k, adds the fact f, and the eight terms of f are its terms.
pub record EnteredAt (ms : Moves) (k f i : ℕ) (ts : List ℕ) : Type 0 where
  pub known : i < k
  pub fact : (move_at ms i).fact ≡ f
  pub terms : (j : ℕ) → j < 8 → get_or ts (8 * f + j) 0 ≡ term_of (move_at ms i) j

-- The first k moves are entered.
pub record Entered (ms : Moves) (k : ℕ) (us : List Bool) (ts by : List ℕ) : Type 0 where
  pub size_us : length us ≡ level_size
  pub size_ts : length ts ≡ terms_size
  pub size_by : length by ≡ level_size
  pub each : (f : ℕ) → f < level_size → get_or us f false ≡ true → EnteredAt ms k f (get_or by f 0) ts
  pub every : (i : ℕ) → i < k → get_or us (move_at ms i).fact false ≡ true
  pub idle : (f : ℕ) → f < level_size → get_or us f false ≡ false → (j : ℕ) → j < 8 → get_or ts (8 * f + j) 0 ≡ idle_at
