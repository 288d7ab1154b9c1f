-- The table of all persons' values, row by row: each row is what the person's flags show. No part of what is promised to a user.
use Rattle.std.specs.Prelude.{◌≡◌, Bool, true, false, cond, ◌&&◌, List, ℕ, ◌+◌, ◌*◌, ◌/◌, ◌%◌, ◌≤◌, ◌<◌, length, get_or}
use Rattle.widths.specs.Inner.Widths.{level_size}
use Rattle.sets.specs.Sets.{member_at, put_at}
use Rattle.sizes.specs.declared.Sizes.{Sizes}
use Rattle.sizes.specs.Sizes.{is_value}
use Rattle.words.specs.Inner.Words.{column}

-- The bytes of the table, and where person p's set of attribute a stands in it.
abbrev pub table_bytes : ℕ
table_bytes = 1024

abbrev pub set_at : ℕ → ℕ → ℕ
set_at p a = 16 * p + 2 * a

-- The first i bytes are 0.
pub record Cleared (i : ℕ) (out : List ℕ) : Type 0 where
  pub size : length out ≡ table_bytes
  pub zero : (j : ℕ) → j < i → get_or out j 0 ≡ 0

-- ---------------------------------------------------------------- one row

-- Bit v of attribute a of person p.
abbrev pub bit_of : List ℕ → ℕ → ℕ → ℕ → Bool
bit_of out p a v = member_at out (set_at p a) 2 v

-- Value v of attribute a is the book's, and effective by the flags of a level.
abbrev pub shown_value : Sizes → List Bool → ℕ → ℕ → Bool
shown_value z x a v = get_or x (level_size + (16 * a + v)) false && is_value z a v

-- The table with value f % 16 of attribute f / 16 put in for person p, where it is shown.
unfoldable pub value_put : Sizes → ℕ → List Bool → ℕ → List ℕ → List ℕ
value_put z p x f out = cond (shown_value z x (f / 16) (f % 16)) (put_at out (set_at p (f / 16)) 2 (f % 16) true) out

-- The first i bits of person p's row, clear before, are those shown; all other bits stay.
pub record RowPut (z : Sizes) (p : ℕ) (x : List Bool) (i : ℕ) (before out : List ℕ) : Type 0 where
  pub size : length out ≡ table_bytes
  pub bytes : (j : ℕ) → get_or out j 0 < 256
  pub own : (a v : ℕ) → a < 8 → v < 16 → 16 * a + v < i → bit_of out p a v ≡ shown_value z x a v
  pub rest : (q a v : ℕ) → a < 8 → v < 16 → (q ≡ p → i ≤ 16 * a + v) → bit_of out q a v ≡ bit_of before q a v

-- A table of bytes in which person p's row is clear.
pub record RowClear (p : ℕ) (out : List ℕ) : Type 0 where
  pub size : length out ≡ table_bytes
  pub bytes : (j : ℕ) → get_or out j 0 < 256
  pub none : (a v : ℕ) → a < 8 → v < 16 → bit_of out p a v ≡ false

-- ---------------------------------------------------------------- all rows

-- The rows of the first n persons are what their flags show; all other bits are clear.
pub record RowsShown (z : Sizes) (ws : List ℕ) (n : ℕ) (out : List ℕ) : Type 0 where
  pub size : length out ≡ table_bytes
  pub bytes : (j : ℕ) → get_or out j 0 < 256
  pub own : (p a v : ℕ) → p < n → a < 8 → v < 16 → bit_of out p a v ≡ shown_value z (column ws p) a v
  pub rest : (p a v : ℕ) → n ≤ p → a < 8 → v < 16 → bit_of out p a v ≡ false
