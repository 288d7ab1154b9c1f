-- The rules of a lent slice as a list by value, what one rule adds to the moves, and the moves of all four sides.
use Rattle.std.specs.Prelude.{◌≡◌, Bool, true, false, List, ℕ, ◌+◌, ◌-◌, ◌*◌, ◌≤◌, ◌<◌, length, take, drop}
use Rattle.widths.specs.Inner.Widths.{moves_size, move_size}
use Rattle.quantifiers.specs.Quantifiers.{count_below}
use Rattle.level.specs.Inner.Moves.{Moves, move_from, moves_in}
use Rattle.level.specs.Inner.Terms.{MoveOf}
use Rattle.level.specs.Inner.Chosen.{chosen_in, rule_at, MovesOf, MovePut}
use Rattle.level.specs.declared.Move.{Move}
use Rattle.frames.specs.declared.Rule.{Rule}
use Rattle.frames.specs.declared.Rules.{Rules}
use Rattle.moves.specs.declared.Counts.{Counts}

-- The rules, all of them counted.
abbrev pub of_list : List Rule → Rules
of_list xs = record { count = length xs; rules = xs }

-- Rule i is chosen.
abbrev pub is_chosen : Rules → ℕ → ℕ → ℕ → ℕ → Bool
is_chosen rs one two roles i = chosen_in one two roles (rule_at rs i)

-- How many of the first i rules are chosen.
abbrev pub chosen_count : Rules → ℕ → ℕ → ℕ → ℕ → ℕ
chosen_count rs one two roles i = count_below (is_chosen rs one two roles) i

-- A buffer of 512 moves has room for those of the chosen rules, from move `from` on.
abbrev pub RoomFrom : Rules → ℕ → ℕ → ℕ → ℕ → Type 0
RoomFrom rs one two roles from = from + chosen_count rs one two roles rs.count ≤ 512

-- A chosen rule's move is written as move `k`, and there is one move more; any other rule leaves the moves as they were.
pub record Taken (one two roles : ℕ) (r : Rule) (k : ℕ) (before : List ℕ) (n : ℕ) (after : List ℕ) : Type 0 where
  pub more : chosen_in one two roles r ≡ true → (n ≡ k + 1) × ((m : Move) × MoveOf r m × MovePut before k m after)
  pub none : chosen_in one two roles r ≡ false → (n ≡ k) × (after ≡ before)

-- The moves of a buffer from move `from` on to before move `n`.
abbrev pub moves_from : ℕ → ℕ → List ℕ → Moves
moves_from from n xs = record { count = n - from; numbers = drop (move_size * from) xs }

-- The moves of the chosen ones of the first i rules stand in the buffer from move `from` on to before move `n`; the moves before them
-- are as they were.
pub record Gathered (rs : Rules) (one two roles from : ℕ) (before : List ℕ) (i n : ℕ) (after : List ℕ) : Type 0 where
  pub ends : n ≡ from + chosen_count rs one two roles i
  pub size : length after ≡ length before
  pub kept : (k : ℕ) → k < from → move_from after (move_size * k) ≡ move_from before (move_size * k)
  pub moves : MovesOf rs one two roles (moves_from from n after) i

-- The numbers of a buffer from move `from` on to before move `n`.
abbrev pub part_of : ℕ → ℕ → List ℕ → List ℕ
part_of from n xs = take (move_size * n - move_size * from) (drop (move_size * from) xs)

-- The four sides stand in a buffer of 512 moves, one behind the other.
pub record Sided (n : Counts) (buffer : List ℕ) : Type 0 where
  pub size : length buffer ≡ moves_size
  pub rises : (n.gains ≤ n.losses) × ((n.losses ≤ n.adds) × ((n.adds ≤ n.dels) × (n.dels ≤ 512)))

-- The moves of the four sides stand in one buffer, one side behind the other: of the crews, ops 3 and 4; of the query's person, ops 1
-- and 5, 2 and 6.
pub record Prepared (rs : Rules) (roles : ℕ) (n : Counts) (buffer : List ℕ) : Type 0 where
  pub size : length buffer ≡ moves_size
  pub rises : (n.gains ≤ n.losses) × ((n.losses ≤ n.adds) × ((n.adds ≤ n.dels) × (n.dels ≤ 512)))
  pub crew_more : MovesOf rs 3 3 roles (moves_in (take (move_size * n.gains) buffer)) rs.count
  pub crew_less : MovesOf rs 4 4 roles (moves_in (part_of n.gains n.losses buffer)) rs.count
  pub more : MovesOf rs 1 5 roles (moves_in (part_of n.losses n.adds buffer)) rs.count
  pub less : MovesOf rs 2 6 roles (moves_in (part_of n.adds n.dels buffer)) rs.count
