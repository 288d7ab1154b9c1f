-- What the planner's steps over the levels promise. No part of what plan promises.
use Rattle.std.specs.Prelude.{◌≡◌, Bool, true, false, List, map, ℕ, ◌-◌, ◌<◌, ◌≤◌, length, get_or}
use Rattle.widths.specs.Inner.Widths.{level_size, rows_size, table_size, depot_size, draft_size}
use Rattle.sizes.specs.Sizes.{is_person}
use Rattle.frames.specs.declared.Rules.{Rules}
use Rattle.frames.specs.Book.{Contents, with_query}
use Rattle.theory.specs.Inner.Facts.{Clear}
use Rattle.theory.specs.Inner.Plan.{Ask, Req, Runs, end, Best}
use Rattle.level.specs.Inner.Moves.{Moves, Sound}
use Rattle.level.specs.Inner.Chosen.{MovesOf}
use Rattle.level.specs.Inner.Notes.{asks}
use Rattle.reach.specs.Inner.Tracked.{bytes_of}
use Rattle.reach.specs.Inner.Goal.{bad}
use Rattle.reach.specs.Inner.Depot.{depot}
use Rattle.search.specs.Inner.Drive.{starts, Driving}

-- The moves of a level's two sides, out of the rules with the query's roles.
pub record SideMoves (rs : Rules) (roles : ℕ) (add₁ add₂ del₁ del₂ : ℕ) (adds dels : Moves) : Type 0 where
  pub room : length rs.rules ≡ 512
  pub more : MovesOf rs add₁ add₂ roles adds rs.count
  pub less : MovesOf rs del₁ del₂ roles dels rs.count
  pub sound_adds : Sound adds
  pub sound_dels : Sound dels

-- No run of the depot from the starting facts ends clear of the forbidden.
pub record NoRun (b : Contents) : Type 0 where
  pub never : (rs : List Req) → Runs (depot b).May (starts b) rs → Clear (bad b) (end (starts b) rs) → ⊥

-- Every fact of a level may be added.
pub record AllAllowed (u : List Bool) : Type 0 where
  pub size : length u ≡ level_size
  pub at : (f : ℕ) → f < level_size → get_or u f false ≡ true

-- Every flag of a table is false, but those of its last row.
pub record BlankTable (table : List Bool) : Type 0 where
  pub size : length table ≡ table_size
  pub blank : (j : ℕ) → j < rows_size → get_or table j false ≡ false

-- The book with its query put for another person.
unfoldable pub to_person : Contents → ℕ → Contents
to_person b p =
    with_query b
    (record {
      mode = b.query.mode;
      person = record { 0 = p };
      roles = b.query.roles;
      q = b.query.q;
      wants = b.query.wants;
      crews = b.query.crews;
    })

-- "What crews can come to hold doesn't depend on the person": the levels below k are settled whoever of the book's persons the query
-- is for, with the same rows and by the same requests.
pub record Serves (b : Contents) (k : ℕ) (rows : List Bool) (ups : ℕ) (up : List ℕ) (at : ℕ) (down : List ℕ) : Type 0 where
  pub each : (p : ℕ) → is_person b.sizes p ≡ true → Driving (to_person b p) k rows ups up at down

-- The levels below k are settled for every person, or no run ends clear, for none of them.
pub record Scanned (b : Contents) (k : ℕ) (rows : List Bool) (up down : List ℕ) (found : Bool) (ups at : ℕ) : Type 0 where
  pub settled : found ≡ true → Serves b k rows ups up at down
  pub stuck : found ≡ false → (p : ℕ) → is_person b.sizes p ≡ true → NoRun (to_person b p)

-- All levels are settled: the requests written are the best plan's.
pub record BestWritten (b : Contents) (up down : List ℕ) (ups at : ℕ) : Type 0 where
  pub us : List Ask
  pub ds : List Ask
  pub best : Best (depot b) (bad b) (starts b) us ds
  pub bytes_up : map bytes_of us ≡ map bytes_of (asks up 0 ups)
  pub bytes_down : map bytes_of ds ≡ map bytes_of (asks down at (depot_size - at))
  pub few_up : ups ≤ depot_size
  pub most_down : at ≤ depot_size
  pub size_up : length up ≡ draft_size
  pub size_down : length down ≡ draft_size

pub record Searched (b : Contents) (up down : List ℕ) (found : Bool) (ups at : ℕ) : Type 0 where
  pub written : found ≡ true → BestWritten b up down ups at
  pub stuck : found ≡ false → NoRun b
