-- The sizes of the planner's levels, tables and buffers, each named once.
use Rattle.std.specs.Prelude.{ℕ}

-- The facts of a level, those of one crew or of the query's person: 8 attributes of 16 values, and 32 crews.
abbrev pub level_size : ℕ
level_size = 160

-- Behind a subject's direct facts and its effective ones: where the flags of "v or any higher value" begin. 2 × level_size.
abbrev pub higher_at : ℕ
higher_at = 320

-- What a subject shows to a rule's terms: its direct facts, its effective ones, and for each value whether it or a higher one is effective.
abbrev pub flags_size : ℕ
flags_size = 448

-- A row of flags for each of 32 crews: 32 × level_size.
abbrev pub rows_size : ℕ
rows_size = 5120

-- The crews' rows, and a last one for what the subject inherits anyhow: 33 × level_size.
abbrev pub table_size : ℕ
table_size = 5280

-- The facts of 33 levels, of 32 crews and of the person: 33 × level_size. A draft has room for a request on each.
abbrev pub depot_size : ℕ
depot_size = 5280

-- The bytes of a draft: 5 × depot_size.
abbrev pub draft_size : ℕ
draft_size = 26400

-- The numbers that write a move.
abbrev pub move_size : ℕ
move_size = 14

-- The numbers of 512 moves: 512 × move_size.
abbrev pub moves_size : ℕ
moves_size = 7168

-- The terms of a rule for each fact of a level: 8 × level_size.
abbrev pub terms_size : ℕ
terms_size = 1280

-- In a table of such terms: from this number on a term asks nothing. Below level_size it asks for a fact, and below this for one to be
-- lacking: 2 × level_size.
abbrev pub idle_at : ℕ
idle_at = 320
