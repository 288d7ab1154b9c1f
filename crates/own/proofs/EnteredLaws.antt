-- Laws of the tables: a move's eight terms written one by one, and the moves entered one by one. A move entered over another of the same fact takes its place.
use mathlib.Core.Path.{◌≡◌, refl}
use mathlib.Core.Logic.{◌≢◌}
use mathlib.Core.List.{List}
use Prim.Native.Nat.{ℕ, ◌+◌, ◌*◌, ◌/◌, ◌≤◌, ◌<◌}
use lib.ListN.{length, get_or}
use borrow.Author.Tests.{lt-ltb, le-ltb}
use Rattle.level.specs.Inner.Moves.{Moves, Fine, Sound, move_at}
use Rattle.level.specs.declared.Move.{Move}
use Rattle.own.specs.Inner.Entered.{term_of}

-- ---------------------------------------------------------------- the terms of one move

-- A move's own term, and one that it does not have.
pub term-own : (m : Move) (j : ℕ) → j < m.n → get_or m.terms j 0 ≡ term_of m j
unfolding term_of
term-own m j l = rw (lt-ltb j m.n l) refl

pub term-none : (m : Move) (j : ℕ) → m.n ≤ j → 320 ≡ term_of m j
unfolding term_of
term-none m j l = rw (le-ltb j m.n l)

-- The first j terms are written.
pub record Entering (before : List ℕ) (m : Move) (j : ℕ) (ts : List ℕ) : Type 0 where
  pub fits : j ≤ 8
  pub size : length ts ≡ length before
  pub here : (l : ℕ) → l < j → get_or ts (8 * m.fact + l) 0 ≡ term_of m l
  pub there : (i : ℕ) → i / 8 ≢ m.fact → get_or ts i 0 ≡ get_or before i 0

-- ---------------------------------------------------------------- the moves one by one

-- A move of the list is fine.
pub listed_fine : {ms : Moves} {k : ℕ} {m : Move} → Sound ms → k < ms.count → m ≡ move_at ms k → Fine m
listed_fine {k = k} s l is = rw is (s.fine k l)
