-- Laws of the requests: the facts of the order have moves, and one more of them is one more request in the buffer.
use mathlib.Core.Path.{◌≡◌, refl, ◌∙◌}
use mathlib.Core.List.{List}
use Prim.Native.Nat.{ℕ, ◌+◌, ◌*◌, ◌≤◌, ◌<◌}
use native.Mathlib.Numerals.{add-one}
use native.Mathlib.Omega.{arith}
use lib.ListN.{length, get_or, take}
use lib.Seq.{take-suc}
use Rattle.quantifiers.proofs.ListLaws.{map-append}
use Rattle.level.specs.Inner.Moves.{Moves, Fine, move_at, moves_in, ask_of}
use Rattle.level.specs.declared.Move.{Move}
use Rattle.level.specs.Inner.Notes.{asks, Noted}
use Rattle.level.proofs.MoveLaws.{listed_room}
use Rattle.level.proofs.NoteLaws.{asks_more}
use Rattle.own.proofs.EnteredLaws.{listed_fine}
use Rattle.own.specs.Inner.Requests.{request_of, requests_of, Ready}

-- The move of fact i of the order is one of the moves.
module _ {xs by order : List ℕ} {n bytes i f : ℕ} (r : Ready (moves_in xs) by order n bytes) (l : i < n) (fact : f ≡ get_or order i 0) where
  module _ {k : ℕ} (number : k ≡ get_or by f 0) where
    move-known : k < (moves_in xs).count
    move-known = rw (number, fact) (r.moves i l)

    pub move-stands : (k < 512) × (14 * k + 14 ≤ length xs)
    move-stands = (omega (arith, move-known, r.sound.few), listed_room r.sound move-known)

    pub move-fine : {m : Move} → m ≡ move_at (moves_in xs) k → Fine m
    move-fine = listed_fine r.sound move-known

-- The requests of the first i facts are written.
pub record Writing (ms : Moves) (by order : List ℕ) (person : ℕ) (up₀ : List ℕ) (n i : ℕ) (up : List ℕ) : Type 0 where
  pub fits : i ≤ n
  pub size : length up ≡ length up₀
  pub same : asks up 0 i ≡ requests_of ms by person (take i order)

pub writing_none : (ms : Moves) (by order : List ℕ) (person : ℕ) (up : List ℕ) (n : ℕ) → Writing ms by order person up n 0 up
unfolding asks
writing_none ms by order person up n = record { fits = omega arith; size = refl; same = refl }

module _ {ms : Moves} {by order : List ℕ} {person : ℕ} {up₀ : List ℕ} {n i : ℕ} {up : List ℕ} (s : Writing ms by order person up₀ n i up) where
  pub writing_more : {f k : ℕ} {m : Move} {up' : List ℕ} → i < n → n ≤ length order → f ≡ get_or order i 0 → k ≡ get_or by f 0 → m ≡ move_at ms k
      → Noted up i (ask_of person m) up' → Writing ms by order person up₀ n (i + 1) up'
  writing_more {f} {k} {m} {up'} l few fact number move w =
      let first : 0 + i ≡ i = omega arith in
      let is : ask_of person m ≡ request_of ms by person (get_or order i 0) = rw (move, number, fact) refl in
      let note : Noted up (0 + i) (ask_of person m) up' = rw first w in
      record {
        fits = omega arith;
        size = w.size ∙ s.size;
        same = asks_more 0 i note ∙ rw (s.same, is, add-one, take-suc order i 0 (omega arith), map-append) refl;
      }
