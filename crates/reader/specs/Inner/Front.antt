-- What the contracts of reading a line in one pass say. No promise of the paper needs these: they say how far the code has come.
use Rattle.std.specs.Prelude.{ℕ, ◌*◌, ◌≤◌, ◌≡◌, List, ◌++◌, length, take, drop}
use Rattle.quantifiers.specs.Quantifiers.{all}
use Rattle.lines.specs.Digits.{is_digit, frame_of}
use Rattle.lines.specs.Lines.{to_end}

-- The characters before the first 0A.
abbrev pub first_line : List ℕ → List ℕ
first_line x = take (to_end x) x

-- The first k bytes of line x stand in the buffer's front. Its characters from 2 × k on write the rest of its frame, and decide
-- whether all are digits: those before them are. Of the buffer behind the k bytes only the length is known.
pub record Begun (x before : List ℕ) (k : ℕ) (now : List ℕ) : Type 0 where
  pub within : 2 * k ≤ length x
  pub fits : k ≤ length now
  pub size : length now ≡ length before
  pub left : take k now ++ frame_of (drop (2 * k) x) ≡ frame_of x
  pub judged : all is_digit x ≡ all is_digit (drop (2 * k) x)
