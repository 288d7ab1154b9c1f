-- What the search in a book that only grows is given, and what it comes to. No part of what plan promises.
use Rattle.std.specs.Prelude.{◌≡◌, Bool, true, false, List, map, ℕ, ◌/◌, ◌≤◌, length}
use Rattle.widths.specs.Inner.Widths.{level_size}
use Rattle.quantifiers.specs.Inner.Lists.{Each}
use Rattle.facts.specs.Facts.{holds}
use Rattle.frames.specs.declared.Rules.{Rules}
use Rattle.frames.specs.Book.{Contents}
use Rattle.replay.specs.Chains.{Leads}
use Rattle.replay.specs.Met.{met}
use Rattle.theory.specs.Inner.Plan.{Ask, req, end, Runs, Step, Distinct}
use Rattle.level.specs.Inner.Moves.{Moves, Sound}
use Rattle.level.specs.Inner.Chosen.{MovesOf}
use Rattle.level.specs.Inner.Notes.{asks}
use Rattle.reach.specs.Inner.Tracked.{person_level, track, bytes_of}
use Rattle.reach.specs.Inner.Depot.{depot}

-- The moves of the rules that add to a person by one of the roles.
pub record OwnMoves (rs : Rules) (roles : ℕ) (adds : Moves) : Type 0 where
  pub room : length rs.rules ≡ 512
  pub moves : MovesOf rs 1 5 roles adds rs.count
  pub sound : Sound adds

-- The first n requests of a buffer, carried out from the starting facts, are each permitted and each a change; all are on the query's person, no
-- fact is added twice, and a ledger with the tracked facts at their end meets the query.
pub record Grown (b : Contents) (up : List ℕ) (n : ℕ) : Type 0 where
  pub us : List Ask
  pub runs : Runs (Step (depot b)) (track b (holds b.facts)) (map (req true) us)
  pub once : Distinct us
  pub on_level : Each (λ u. u.fact / level_size ≡ person_level b) us
  pub meets : (l : List ℕ) → track b (holds l) ≡ end (track b (holds b.facts)) (map (req true) us) → met b (holds l) ≡ true
  pub bytes : map bytes_of us ≡ map bytes_of (asks up 0 n)

-- Found: such requests. Not found: no chain leads to a ledger that meets the query.
pub record OwnFound (b : Contents) (up : List ℕ) (found : Bool) (n : ℕ) : Type 0 where
  pub grown : found ≡ true → Grown b up n
  pub none : found ≡ false → (chain : List (List ℕ)) (l : List ℕ) → Leads b chain l → met b (holds l) ≡ true → ⊥
  pub few : n ≤ level_size
