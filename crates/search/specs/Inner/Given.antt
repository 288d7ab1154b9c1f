-- What the functions of the levels are given, and what a level comes to. No part of what plan promises.
use Rattle.std.specs.Prelude.{◌≡◌, Bool, List, ℕ, ◌+◌, ◌*◌, ◌≤◌, length}
use Rattle.widths.specs.Inner.Widths.{level_size, flags_size, rows_size, table_size}
use Rattle.frames.specs.declared.Book.{Book}
use Rattle.frames.specs.declared.Query.{Query}
use Rattle.frames.specs.Book.{contents_of}
use Rattle.level.specs.Inner.Moves.{Moves, Sound, moves_in}
use Rattle.build.specs.Inner.Build.{Built}
use Rattle.level.specs.Inner.Settle.{Result}
use Rattle.reach.specs.Inner.Leveled.{Leveled}
use Rattle.flags.specs.Inner.Flags.{FlagsWritten, Reaching, SmallWants, start_flag, bad_flag}
use Rattle.search.specs.Inner.Scan.{SideMoves, AllAllowed, Serves, Scanned}

-- Room for the names of the moves that a level tries first.
pub record Names (added deleted : List ℕ) : Type 0 where
  pub room_added : length added ≡ level_size
  pub room_deleted : length deleted ≡ level_size

-- What the levels of the crews need of an accepted book: its query, how many crews it has, its facts and juniors, and the moves on crews.
pub record CrewParts (q : Query) (crews : ℕ) (facts juniors adds dels : List ℕ) : Type 0 where
  pub book : Book
  pub accepted : Leveled (contents_of book)
  pub same_query : q ≡ book.query
  pub same_crews : crews ≡ book.sizes.crews
  pub same_facts : facts ≡ book.facts
  pub same_juniors : juniors ≡ book.juniors
  pub moves : SideMoves book.rules book.query.roles 3 3 4 4 (moves_in adds) (moves_in dels)

-- These parts, and which crews each crew reaches.
pub record CrewsGiven (q : Query) (crews : ℕ) (facts juniors adds dels : List ℕ) (reach : List Bool) : Type 0 where
  pub parts : CrewParts q crews facts juniors adds dels
  pub reach_size : length reach ≡ rows_size
  pub reaching : Reaching juniors reach

-- What is settled below level k, for whichever book has these parts; and what the levels below k come to.
pub record ServesOf (q : Query) (crews : ℕ) (facts juniors adds dels : List ℕ) (k : ℕ) (rows : List Bool) (ups : ℕ) (up : List ℕ) (at : ℕ)
    (down : List ℕ) : Type 0 where
  pub each : (g : CrewParts q crews facts juniors adds dels) → Serves (contents_of g.book) k rows ups up at down

pub record ScannedOf (q : Query) (crews : ℕ) (facts juniors adds dels : List ℕ) (k : ℕ) (rows : List Bool) (up down : List ℕ) (found : Bool)
    (ups at : ℕ) : Type 0 where
  pub each : (g : CrewParts q crews facts juniors adds dels) → Scanned (contents_of g.book) k rows up down found ups at

-- The level of the query's person: an accepted book with its facts, the moves on the person, and room for a table.
pub record PersonGiven (b : Book) (facts adds dels : List ℕ) (table : List Bool) : Type 0 where
  pub accepted : Leveled (contents_of b)
  pub moves : SideMoves b.rules b.query.roles 1 5 2 6 (moves_in adds) (moves_in dels)
  pub rows : length table ≡ table_size
  pub same_facts : facts ≡ b.facts

-- Any level, once its table stands: a query of at most eight sets, sound moves, and room for the names, the flags and the requests.
pub record LevelGiven (q : Query) (adds dels added deleted : List ℕ) (table x : List Bool) (ups : ℕ) (up : List ℕ) (at : ℕ) (down : List ℕ) : Type 0 where
  pub wants : SmallWants q
  pub sound_adds : Sound (moves_in adds)
  pub sound_dels : Sound (moves_in dels)
  pub names : Names added deleted
  pub rows : length table ≡ table_size
  pub size_x : length x ≡ flags_size
  pub room_up : 5 * (ups + level_size) ≤ length up
  pub room_below : level_size ≤ at
  pub room_down : 5 * at ≤ length down

-- What the level comes to, by its forbidden and its starting facts, leave being given to add every fact.
pub record LevelSettled (q : Query) (crews : ℕ) (facts : List ℕ) (k : ℕ) (below : Bool) (adds dels : Moves) (p : ℕ) (T x : List Bool)
    (ups : ℕ) (up₀ up : List ℕ) (at : ℕ) (down₀ down : List ℕ) (found : Bool) (n at' : ℕ) : Type 0 where
  pub blank : List Bool
  pub bads : List Bool
  pub first : List Bool
  pub s : List Bool
  pub u : List Bool
  pub size : length blank ≡ level_size
  pub forbidden : FlagsWritten blank 0 (bad_flag q crews k below) level_size bads
  pub started : FlagsWritten blank 0 (start_flag facts crews q.person k) level_size first
  pub built : Built T first s
  pub allowed : AllAllowed u
  pub result : Result adds dels p T bads s u x ups up₀ up at down₀ down found n at'
