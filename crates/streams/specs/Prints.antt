-- What a program does that answers its input in one buffer: what it reads, and what it prints.
use Rattle.std.specs.Prelude.{Option, ◌≡◌, List, ℕ, ◌<◌, ◌≤◌, length, take}
use Rattle.std.specs.Borrow.{MutBor}
use Rattle.std.specs.Io.KnownBytes.{Consumes, IsAtEnd, Appends}

-- A buffer of that size with what was read in its front, all of the input where there is room left; and what the answer puts in its place,
-- of which the first `end` are printed. The inputs are what is left of it before and after, the outputs what was printed before and after.
pub record Prints (size : ℕ) (answer : MutBor (List ℕ) → ℕ → ℕ → MutBor (List ℕ) → Type 0) (input left output printed : Option (List ℕ)) : Type 0 where
  pub text : MutBor (List ℕ)
  pub count : ℕ
  pub end : ℕ
  pub after : MutBor (List ℕ)
  pub long : length text.now ≡ size
  pub within : count ≤ size
  pub read : Consumes input left (take count text.now)
  pub all : count < size → IsAtEnd left
  pub answered : answer text count end after
  pub prints : Appends output printed (take end after.now)
