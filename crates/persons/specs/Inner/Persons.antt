-- The levels of all persons at once: what each begins with, and what each comes to. No part of what is promised to a user.
use Rattle.std.specs.Prelude.{◌≡◌, Bool, true, ◌&&◌, List, ℕ, ◌<◌, ltb, length, get_or, replicate}
use Rattle.widths.specs.Inner.Widths.{level_size, flags_size, table_size}
use Rattle.theory.specs.Inner.Plan.{Ask, AddClosed}
use Rattle.theory.specs.Inner.Sweep.{Added}
use Rattle.shown.specs.Inner.Shown.{direct, Whole}
use Rattle.build.specs.Inner.Build.{Built}
use Rattle.sets.specs.Sets.{member}
use Rattle.level.specs.declared.Move.{Move}
use Rattle.level.specs.Inner.Moves.{Moves, flags_met}
use Rattle.level.specs.Inner.Sweep.{fires_in}
use Rattle.level.specs.Inner.World.{world}
use Rattle.flags.specs.Inner.Flags.{FlagsWritten, start_flag}
use Rattle.words.specs.Inner.Words.{column}

-- Every fact of a level.
abbrev pub every_fact : List Bool
every_fact = replicate level_size true

-- What person p begins with: `s` has the flags of the person's starting facts, the crews' rows being in the table.
pub record Begins (facts : List ℕ) (crews p : ℕ) (T s : List Bool) : Type 0 where
  pub blank : List Bool
  pub first : List Bool
  pub started : FlagsWritten blank 0 (start_flag facts crews (record { 0 = p }) crews) level_size first
  pub built : Built T first s

-- How far person p has come: additions lead from the flags `s` to the flags `x`.
pub record Grown (ms : Moves) (T : List Bool) (p : ℕ) (s x : List Bool) : Type 0 where
  pub whole : Whole T x
  pub us : List Ask
  pub added : Added (world T ms ms p) (direct s) (direct every_fact) (direct x) us

-- What person p comes to: additions lead from `s` to `x`, and none is left.
pub record Ends (ms : Moves) (T : List Bool) (p : ℕ) (s x : List Bool) : Type 0 where
  pub grown : Grown ms T p s x
  pub closed : AddClosed (world T ms ms p) (direct every_fact) (direct x)

-- ---------------------------------------------------------------- all persons, in words

-- No flag of any person is set.
pub record NoFlags (ws : List ℕ) : Type 0 where
  pub size : length ws ≡ flags_size
  pub none : (k : ℕ) → get_or ws k 0 ≡ 0

-- The first n persons, whom the word `all` has, begin with their starting facts.
pub record Begun (facts : List ℕ) (crews : ℕ) (T : List Bool) (n all : ℕ) (ws : List ℕ) : Type 0 where
  pub size : length ws ≡ flags_size
  pub persons : (p : ℕ) → member all p ≡ ltb p n
  pub each : (p : ℕ) → p < n → Begins facts crews p T (column ws p)

-- The word `who` has those of `all` for whom all terms of the move hold.
pub record Meeting (m : Move) (all : ℕ) (ws : List ℕ) (who : ℕ) : Type 0 where
  pub each : (p : ℕ) → member who p ≡ member all p && flags_met m (column ws p)

-- The word `who` has those of `all` for whom the move adds a fact.
pub record Firing (m : Move) (all : ℕ) (ws : List ℕ) (who : ℕ) : Type 0 where
  pub each : (p : ℕ) → member who p ≡ member all p && fires_in m every_fact (column ws p)

-- The flags of the persons in `all` are whole.
pub record AllWhole (T : List Bool) (all : ℕ) (ws : List ℕ) : Type 0 where
  pub size : length ws ≡ flags_size
  pub rows : length T ≡ table_size
  pub each : (p : ℕ) → member all p ≡ true → Whole T (column ws p)

-- What the persons in `all` come to.
pub record AllEnd (ms : Moves) (T : List Bool) (all : ℕ) (before ws : List ℕ) : Type 0 where
  pub size : length ws ≡ flags_size
  pub each : (p : ℕ) → member all p ≡ true → Ends ms T p (column before p) (column ws p)

-- All that the first n persons come to, from what each begins with, in words.
pub record PersonsEnd (ms : Moves) (facts : List ℕ) (crews : ℕ) (T : List Bool) (n : ℕ) (ws : List ℕ) : Type 0 where
  pub size : length ws ≡ flags_size
  pub begin : (p : ℕ) → p < n → List Bool
  pub begins : (p : ℕ) (l : p < n) → Begins facts crews p T (begin p l)
  pub ends : (p : ℕ) (l : p < n) → Ends ms T p (begin p l) (column ws p)
