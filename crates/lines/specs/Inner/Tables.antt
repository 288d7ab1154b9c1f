-- What the two tables hold that are filled by `digit_of`, so that a digit is one look-up. No promise of the paper needs these.
use Rattle.std.specs.Prelude.{ℕ, ◌<◌, ◌≡◌, List, length, get_or}
use Rattle.lines.specs.Digits.{digit, character}

-- For reading, the values of all 256 characters: entry c is the value of character c.
pub record Tabled (table : List ℕ) : Type 0 where
  pub size : length table ≡ 256
  pub entry : (c : ℕ) → c < 256 → get_or table c 0 ≡ digit c

-- For writing, the characters of the sixteen values: entry v is the character of value v.
pub record Encodings (table : List ℕ) : Type 0 where
  pub size : length table ≡ 16
  pub entry : (v : ℕ) → v < 16 → get_or table v 0 ≡ character v
