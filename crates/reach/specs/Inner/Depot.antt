-- The depot as a world of the theory: the tracked facts, the requests that the book's rules permit on them, and the levels.
use Rattle.std.specs.Prelude.{ℕ, ◌/◌}
use Rattle.widths.specs.Inner.Widths.{level_size, depot_size}
use Rattle.frames.specs.Book.{Contents}
use Rattle.theory.specs.Inner.Facts.{State}
use Rattle.theory.specs.Inner.Plan.{Req, req, World}
use Rattle.reach.specs.Inner.Tracked.{May}

-- The world of a book's query: 33 levels of 160 facts.
abbrev pub depot : Contents → World
depot b = record { May = may; F = depot_size }
  where
    may : State → Req → Type 0
    may S (req on q) = May b S on q

-- The level of a tracked fact: its tier in the theory.
abbrev pub level_of : ℕ → ℕ
level_of g = g / level_size
