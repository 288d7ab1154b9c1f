-- The moves of one side, additions or deletions: those of the rules with one of two ops and one of the query's roles.
use Rattle.std.specs.Prelude.{◌≡◌, Bool, true, ◌&&◌, ◌||◌, List, ℕ, ◌*◌, ◌≤◌, ◌<◌, eqb, length, get_or}
use Rattle.widths.specs.Inner.Widths.{move_size}
use Rattle.level.specs.Inner.Moves.{Moves, move_from, move_at}
use Rattle.level.specs.Inner.Terms.{GoodRule, MoveOf}
use Rattle.level.specs.declared.Move.{Move}
use Rattle.frames.specs.declared.Rule.{Rule}
use Rattle.frames.specs.declared.Rules.{Rules}
use Rattle.frames.specs.Book.{no_rule}
use Rattle.sets.specs.Sets.{member}

-- The rule has one of two ops, and its role is one of the roles.
unfoldable pub chosen_in : ℕ → ℕ → ℕ → Rule → Bool
chosen_in one two roles r = (eqb r.op one || eqb r.op two) && member roles r.role.0

-- A move as 14 numbers.
pub record Numbers (m : Move) (row : List ℕ) : Type 0 where
  pub size : length row ≡ move_size
  pub same : move_from row 0 ≡ m

-- `ms` is `before` with the move `k` written.
pub record MovePut (before : List ℕ) (k : ℕ) (m : Move) (ms : List ℕ) : Type 0 where
  pub size : length ms ≡ length before
  pub here : move_from ms (move_size * k) ≡ m
  pub there : (i : ℕ) → i < k → move_from ms (move_size * i) ≡ move_from before (move_size * i)

-- Rule `i` of a list by value.
unfoldable pub rule_at : Rules → ℕ → Rule
rule_at rs i = get_or rs.rules i no_rule

-- At most 512 rules, and each is good.
pub record GoodRules (rs : Rules) : Type 0 where
  pub few : rs.count ≤ 512
  pub good : (i : ℕ) → i < rs.count → GoodRule (rule_at rs i)

-- Each move is of a chosen rule of the first `i`, and each chosen rule of the first `i` has a move.
pub record MovesOf (rs : Rules) (one two : ℕ) (roles : ℕ) (ms : Moves) (i : ℕ) : Type 0 where
  pub fits : i ≤ rs.count
  pub few : ms.count ≤ i
  pub each : (k : ℕ) → k < ms.count → (j : ℕ) × (j < i) × (chosen_in one two roles (rule_at rs j) ≡ true) × MoveOf (rule_at rs j) (move_at ms k)
  pub every : (j : ℕ) → j < i → chosen_in one two roles (rule_at rs j) ≡ true → (k : ℕ) × (k < ms.count) × MoveOf (rule_at rs j) (move_at ms k)
