-- What stands behind the table: a query that asks for nothing, the crews once, and rows that are right. No part of what page promises.
use Rattle.std.specs.Prelude.{◌≡◌, Bool, true, false, List, ℕ, ◌<◌, length, get_or, replicate}
use Rattle.sizes.specs.Sizes.{is_value}
use Rattle.frames.specs.declared.Query.{Query}
use Rattle.frames.specs.declared.Rules.{Rules}
use Rattle.frames.specs.Book.{Contents, with_query, no_want}
use Rattle.level.specs.Inner.Moves.{Moves}
use Rattle.flags.specs.Inner.Flags.{PersonTable}
use Rattle.search.specs.Inner.Scan.{SideMoves, Serves}
use Rattle.rows.specs.Inner.Rows.{bit_of}
use Rattle.planner.specs.Promise.{NoWay}
use Rattle.page.specs.Page.{asking, Reachable, page_size}

-- ---------------------------------------------------------------- nothing asked

-- A query for a person that asks for nothing.
abbrev pub asked_nothing : ℕ → ℕ → ℕ → Query
asked_nothing mode roles p = record { mode = mode; person = record { 0 = p }; roles = roles; q = 0; wants = replicate 8 no_want; crews = 0 }

-- The book with such a query, of mode 01: what the person can come to hold is found once, for all values.
unfoldable pub roaming : Contents → ℕ → Contents
roaming b p = with_query b (asked_nothing 1 b.query.roles p)

-- The book's own query is such a one.
pub record Roams (b : Contents) : Type 0 where
  pub same : roaming b 0 ≡ b

-- The crews are settled for every person, and the table has their rows.
pub record CrewsSettled (b : Contents) (table : List Bool) : Type 0 where
  pub rows : List Bool
  pub ups : ℕ
  pub up : List ℕ
  pub at : ℕ
  pub down : List ℕ
  pub serves : Serves b b.sizes.crews rows ups up at down
  pub made : PersonTable rows table

-- The moves that add to a person, beside some that delete.
pub record PersonMoves (rs : Rules) (roles : ℕ) (adds : Moves) : Type 0 where
  pub dels : Moves
  pub sides : SideMoves rs roles 1 5 2 6 adds dels

-- ---------------------------------------------------------------- the rows

-- The rows of the first n persons are right; all other bits are clear.
pub record RowsRight (b : Contents) (n : ℕ) (out : List ℕ) : Type 0 where
  pub size : length out ≡ page_size
  pub bytes : (j : ℕ) → get_or out j 0 < 256
  pub set : (p a v : ℕ) → p < n → is_value b.sizes a v ≡ true → bit_of out p a v ≡ true → Reachable (asking b p a v)
  pub clear : (p a v : ℕ) → p < n → is_value b.sizes a v ≡ true → bit_of out p a v ≡ false → NoWay (asking b p a v)
  pub absent : (p a v : ℕ) → a < 8 → v < 16 → (p < n → is_value b.sizes a v ≡ false) → bit_of out p a v ≡ false
