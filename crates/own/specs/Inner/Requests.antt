-- The requests that add facts, each by its move.
use Rattle.std.specs.Prelude.{◌≡◌, List, map, ℕ, ◌*◌, ◌≤◌, ◌<◌, length, get_or}
use Rattle.widths.specs.Inner.Widths.{level_size}
use Rattle.theory.specs.Inner.Plan.{Ask}
use Rattle.level.specs.Inner.Moves.{Moves, Sound, move_at, ask_of}

-- What the move of the fact f asks for the person.
abbrev pub request_of : Moves → List ℕ → ℕ → ℕ → Ask
request_of ms by person f = ask_of person (move_at ms (get_or by f 0))

-- The requests of facts, in their order.
abbrev pub requests_of : Moves → List ℕ → ℕ → List ℕ → List Ask
requests_of ms by person fs = map (request_of ms by person) fs

-- The first n of `order` are facts with a move, and there is room for their requests.
pub record Ready (ms : Moves) (by order : List ℕ) (n bytes : ℕ) : Type 0 where
  pub sound : Sound ms
  pub size_by : length by ≡ level_size
  pub few : n ≤ length order
  pub room : 5 * n ≤ bytes
  pub facts : (i : ℕ) → i < n → get_or order i 0 < level_size
  pub moves : (i : ℕ) → i < n → get_or by (get_or order i 0) 0 < ms.count
