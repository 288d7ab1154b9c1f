-- What the code that reads one line leaves in its buffer. No promise of the paper needs these.
use Rattle.std.specs.Prelude.{Option, None, Some, ℕ, ◌≤◌, ◌<◌, ◌≡◌, true, false, List, length, take}
use Rattle.reader.specs.declared.Frame.{Frame}
use Rattle.reader.specs.declared.Frame.TheVariants.{Bytes, Long}
use Rattle.lines.specs.Digits.{malformed, frame_of}

-- The line's frame of n bytes stands in the buffer's front.
pub record InFront (x : List ℕ) (n : ℕ) (buffer : List ℕ) : Type 0 where
  pub front : take n buffer ≡ frame_of x
  pub fits : n ≤ length buffer

-- The line's frame has n bytes, over 64: only its first 64 stand in the buffer's front.
pub record FrontOnly (x : List ℕ) (n : ℕ) (buffer : List ℕ) : Type 0 where
  pub over : 64 < n
  pub count : n ≡ length (frame_of x)
  pub front : take 64 buffer ≡ take 64 (frame_of x)

-- What the code answers of a line: refusal 2, a frame of n bytes, or the front of a longer one. The buffer has 64 bytes, so that
-- the line's length tells whether its frame fits.
abbrev pub DecodedAs : List ℕ → Option Frame → List ℕ → Type 0
DecodedAs x None buffer = malformed x ≡ true
DecodedAs x (Some (Bytes n)) buffer = (malformed x ≡ false) × InFront x n buffer
DecodedAs x (Some (Long n)) buffer = (malformed x ≡ false) × FrontOnly x n buffer

-- What a line has written to a buffer.
pub record Decoded (x : List ℕ) (r : Option Frame) (before after : List ℕ) : Type 0 where
  pub written : DecodedAs x r after
  pub size : length after ≡ length before
