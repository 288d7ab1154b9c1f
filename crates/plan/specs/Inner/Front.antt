-- What reading on behind a front comes to. No part of what the program promises.
use Rattle.std.specs.Prelude.{◌≡◌, List, ℕ, ◌≤◌, length, take}
use Rattle.streams.specs.Inner.Counts.{IsPrefixLen}

-- The first n characters of the text are what was read, and begin with the front.
pub record Begins (front : List ℕ) (n : ℕ) (text : List ℕ) : Type 0 where
  pub counted : IsPrefixLen n text
  pub long : length front ≤ n
  pub same : take (length front) text ≡ front
