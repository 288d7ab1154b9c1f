-- The flags of up to 64 persons at once: a word for each flag, and in each word a bit for each person. No part of what is promised to a user.
use Rattle.std.specs.Prelude.{◌≡◌, Bool, false, ◌&&◌, ◌||◌, List, map, ℕ, ◌<◌, length, get_or}
use Rattle.widths.specs.Inner.Widths.{flags_size}
use Rattle.sets.specs.Sets.{member}

-- The flags of person p.
unfoldable pub column : List ℕ → ℕ → List Bool
column ws p = map (λ (w : ℕ). member w p) ws

-- The words `after` are `before` with the flags `g` set for the persons of `who`.
pub record Lit (who : ℕ) (g : ℕ → Bool) (before after : List ℕ) : Type 0 where
  pub size : length after ≡ length before
  pub flags : (k p : ℕ) → k < flags_size → member (get_or after k 0) p ≡ member (get_or before k 0) p || (member who p && g k)

-- No flag of person p is set.
pub record ColumnClear (p : ℕ) (ws : List ℕ) : Type 0 where
  pub none : (k : ℕ) → member (get_or ws k 0) p ≡ false

-- The words `after` are `before` with the flags of person p put to `s`.
pub record ColumnPut (p : ℕ) (s : List Bool) (before after : List ℕ) : Type 0 where
  pub size : length after ≡ length before
  pub here : column after p ≡ s
  pub there : (q : ℕ) → (q ≡ p → ⊥) → column after q ≡ column before q
