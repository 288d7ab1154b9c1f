-- The moves of a level: rules whose terms are places. A move is met when all its places are shown.
use Rattle.std.specs.Prelude.{◌≡◌, Bool, false, cond, ◌||◌, List, [], ◌∷◌, ℕ, ◌+◌, ◌*◌, ◌/◌, ◌≤◌, ◌<◌, ltb, length, get_or, take}
use Rattle.widths.specs.Inner.Widths.{level_size, flags_size, move_size}
use Rattle.quantifiers.specs.Quantifiers.{all}
use Rattle.theory.specs.Inner.Facts.{State}
use Rattle.theory.specs.Inner.Plan.{Ask}
use Rattle.shown.specs.Inner.Shown.{visible, touches}
use Rattle.level.specs.declared.Move.{Move}

-- The fact that a request's op, a and v name.
unfoldable pub place_of : ℕ → ℕ → ℕ → ℕ
place_of op a v = cond (ltb op 5) (16 * a + v) (128 + a)

-- The move names a fact, and its terms places.
pub record Fine (m : Move) : Type 0 where
  pub aim : m.fact ≡ place_of m.op m.a m.v
  pub fact : m.fact < level_size
  pub few : m.n ≤ 8
  pub size : length m.terms ≡ 8
  pub places : (j : ℕ) → get_or m.terms j 0 < flags_size
  pub bytes : (m.op < 256) × ((m.role < 256) × ((m.a < 256) × (m.v < 256)))

-- The places of a move's terms.
unfoldable pub places_of : Move → List ℕ
places_of m = take m.n m.terms

-- Whether all terms of a move hold of a subject's direct facts.
unfoldable pub move_shown : List Bool → State → Move → Bool
move_shown T S m = all (visible T S) (places_of m)

-- Whether all its terms hold of a subject's flags.
unfoldable pub flags_met : Move → List Bool → Bool
flags_met m x = all (λ k. get_or x k false) (places_of m)

-- Whether all its terms hold of a subject's flags with the move's own fact put in.
unfoldable pub flags_with : Move → List Bool → List Bool → Bool
flags_with m T x = all (λ k. get_or x k false || touches T m.fact k) (places_of m)

-- The moves of one side, additions or deletions: numbers, 14 a move, one move behind the other.
pub record Moves : Type 0 where
  pub count : ℕ
  pub numbers : List ℕ

-- The moves that numbers write.
abbrev pub moves_in : List ℕ → Moves
moves_in xs = record { count = length xs / move_size; numbers = xs }

-- The move that 14 numbers write, from a place on: the fact, how many terms, op, role, a and v, and the places of eight terms.
unfoldable pub move_from : List ℕ → ℕ → Move
move_from xs at =
    record {
      fact = get_or xs at 0;
      n = get_or xs (at + 1) 0;
      op = get_or xs (at + 2) 0;
      role = get_or xs (at + 3) 0;
      a = get_or xs (at + 4) 0;
      v = get_or xs (at + 5) 0;
      terms =
          get_or xs (at + 6) 0 ∷ get_or xs (at + 7) 0 ∷ get_or xs (at + 8) 0 ∷ get_or xs (at + 9) 0 ∷ get_or xs (at + 10) 0 ∷ get_or xs (at + 11) 0 ∷ get_or xs (at + 12) 0
          ∷ get_or xs (at + 13) 0 ∷ [];
    }

-- Move `i`.
unfoldable pub move_at : Moves → ℕ → Move
move_at ms i = move_from ms.numbers (move_size * i)

-- At most 512 moves, whole, and each is fine.
pub record Sound (ms : Moves) : Type 0 where
  pub few : ms.count ≤ 512
  pub room : move_size * ms.count ≤ length ms.numbers
  pub fine : (i : ℕ) → i < ms.count → Fine (move_at ms i)

-- What a move asks for the subject `p`.
abbrev pub ask_of : ℕ → Move → Ask
ask_of p m = record { fact = m.fact; op = m.op; role = m.role; subject = p; a = m.a; v = m.v }
