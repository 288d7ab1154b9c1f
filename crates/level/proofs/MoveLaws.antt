-- Laws of moves: their terms one after another, and that flags meet a move where the direct facts do.
use mathlib.Core.Path.{◌≡◌, refl, sym, ap, ◌∙◌}
use mathlib.Core.Bool.{Bool, true, false}
use mathlib.Core.List.{List, [], ◌∷◌}
use Prim.Native.Nat.{ℕ, zero, suc, ◌+◌, ◌-◌, ◌*◌, ◌≤◌, ◌<◌}
use native.Mathlib.Nat.{add-zero, zero-add}
use native.Mathlib.Numerals.{add-one}
use native.Mathlib.Omega.{arith}
use lib.ListN.{length, length-drop, get_or, drop, take, drop_of_length-le}
use lib.Seq.{drop-cons, get_or-take, length-take-le}
use borrow.Rule.Slice.PartMut.{put_mid}
use Rattle.std.proofs.Common.{rules}
use Rattle.std.proofs.lemmas.List.{places, take-take}
use Rattle.quantifiers.proofs.ListLaws.{all_same_at}
use Rattle.theory.specs.Inner.Facts.{State}
use Rattle.shown.specs.Inner.Shown.{visible}
use Rattle.level.specs.declared.Move.{Move}
use Rattle.level.specs.Inner.Moves.{Fine, Sound, move_shown, places_of, moves_in, move_from, move_at}
use Rattle.quantifiers.specs.Quantifiers.{all}
use Rattle.level.specs.Inner.Chosen.{Numbers, MovePut}

-- The places of a move's terms.
module _ {m : Move} (fine : Fine m) where
  places_length : length (places_of m) ≡ m.n
  unfolding places_of
  places_length = length-take-le m.n m.terms (omega (arith, fine.few, fine.size))

  place_at : (j : ℕ) → j < m.n → get_or (places_of m) j 0 ≡ get_or m.terms j 0
  unfolding places_of
  place_at j h = get_or-take m.n m.terms j 0 h

  place_drop : (j : ℕ) → j < m.n → drop j (places_of m) ≡ get_or m.terms j 0 ∷ drop (j + 1) (places_of m)
  place_drop j h = drop-cons (places_of m) j 0 (omega (arith, places_length)) ∙ rw (place_at j h, add-one)

-- A test of flags is one of the direct facts.
pub move_shown_flags : (T : List Bool) (S : State) {m : Move} (p : ℕ → Bool) → Fine m → ((k : ℕ) → k < 448 → p k ≡ visible T S k)
    → all p (places_of m) ≡ move_shown T S m
unfolding move_shown
move_shown_flags T S {m} p fine h = all_same_at p (visible T S) 0 (places_of m)
    (λ j l. h (get_or (places_of m) j 0) (rw (place_at fine j (omega (arith, places_length fine))) (fine.places j)))

-- ---------------------------------------------------------------- moves as numbers

-- The same 14 numbers write the same move.
pub move_same : (xs ys : List ℕ) (a b : ℕ) → ((j : ℕ) → j < 14 → get_or xs (a + j) 0 ≡ get_or ys (b + j) 0) → move_from xs a ≡ move_from ys b
unfolding move_from
move_same xs ys a b h =
    let first : get_or xs a 0 ≡ get_or ys b 0 = rw (add-zero a, add-zero b) at (h 0 (omega arith)) in
    rw (
      first,
      h 1 (omega arith),
      h 2 (omega arith),
      h 3 (omega arith),
      h 4 (omega arith),
      h 5 (omega arith),
      h 6 (omega arith),
      h 7 (omega arith),
      h 8 (omega arith),
      h 9 (omega arith),
      h 10 (omega arith),
      h 11 (omega arith),
      h 12 (omega arith),
      h 13 (omega arith),
    ) refl

-- The terms of the move that stands at a place of numbers are the numbers from the sixth behind it on.
pub term_stands : (xs : List ℕ) (at j : ℕ) → j < 8 → get_or (move_from xs at).terms j 0 ≡ get_or xs (at + 6 + j) 0
unfolding move_from
term_stands xs at zero h = ap (λ i. get_or xs i 0) (omega arith)
term_stands xs at (suc zero) h = ap (λ i. get_or xs i 0) (omega arith)
term_stands xs at (suc (suc zero)) h = ap (λ i. get_or xs i 0) (omega arith)
term_stands xs at (suc (suc (suc zero))) h = ap (λ i. get_or xs i 0) (omega arith)
term_stands xs at (suc (suc (suc (suc zero)))) h = ap (λ i. get_or xs i 0) (omega arith)
term_stands xs at (suc (suc (suc (suc (suc zero))))) h = ap (λ i. get_or xs i 0) (omega arith)
term_stands xs at (suc (suc (suc (suc (suc (suc zero)))))) h = ap (λ i. get_or xs i 0) (omega arith)
term_stands xs at (suc (suc (suc (suc (suc (suc (suc zero))))))) h = ap (λ i. get_or xs i 0) (omega arith)
term_stands xs at (suc (suc (suc (suc (suc (suc (suc (suc j)))))))) h = absurd (omega arith)

-- The first two numbers are its fact and how many terms it has.
pub fact_stands : (xs : List ℕ) (at : ℕ) → (move_from xs at).fact ≡ get_or xs at 0
unfolding move_from
fact_stands xs at = refl

pub count_stands : (xs : List ℕ) (at : ℕ) → (move_from xs at).n ≡ get_or xs (at + 1) 0
unfolding move_from
count_stands xs at = refl

-- A move of a list stands whole among its numbers, and is fine.
pub listed_room : {xs : List ℕ} {i : ℕ} → Sound (moves_in xs) → i < (moves_in xs).count → 14 * i + 14 ≤ length xs
listed_room sound l = omega (arith, l, sound.room)

pub listed_stands : {xs : List ℕ} {i : ℕ} → Sound (moves_in xs) → i < (moves_in xs).count → Fine (move_from xs (14 * i))
unfolding move_at
listed_stands {xs} {i} sound l = sound.fine i l

-- The fact of the move at `at`, as it was read, is a fact.
pub fact_fits : (xs : List ℕ) (at : ℕ) {f : ℕ} → Fine (move_from xs at) → f ≡ get_or xs at 0 → f < 160
fact_fits xs at fine e = omega (arith, e, fact_stands xs at, fine.fact)

-- Its flag is that of the move's fact.
pub fact_flag : (xs : List ℕ) (at : ℕ) (x : List Bool) {f : ℕ} {b : Bool} → f ≡ get_or xs at 0 → get_or x f false ≡ b → get_or x (move_from xs at).fact false ≡ b
fact_flag xs at x e h = ap (λ i. get_or x i false) (fact_stands xs at ∙ sym e) ∙ h

-- The move at `at` is fine, and has `n` terms, as was read.
pub record Reading (xs : List ℕ) (at n : ℕ) : Type 0 where
  pub fine : Fine (move_from xs at)
  pub count : n ≡ get_or xs (at + 1) 0

pub reading : {xs : List ℕ} {at n : ℕ} → Fine (move_from xs at) → n ≡ get_or xs (at + 1) 0 → Reading xs at n
reading fine e = record { fine = fine; count = e }

-- Term `j` in the part of the numbers that has them.
pub term_read : (xs : List ℕ) (at n j : ℕ) → j < n → get_or (take n (drop (at + 6) xs)) j 0 ≡ get_or xs (at + 6 + j) 0
term_read xs at n j l = search (rules, places)

-- Its terms, one after another; `k` is the place of term `j`, as it was read.
module _ {xs : List ℕ} {at n : ℕ} (r : Reading xs at n) where
  pub few_terms : n ≤ 8
  few_terms = omega (arith, r.count, count_stands xs at, r.fine.few)

  -- There are so many in that part.
  pub part_count : at + 14 ≤ length xs → length (take (at + 6 + n - (at + 6)) (drop (at + 6) xs)) ≡ n
  part_count room =
      let e : at + 6 + n - (at + 6) ≡ n = omega arith in
      length-take-le (at + 6 + n - (at + 6)) (drop (at + 6) xs) (omega (arith, e, few_terms, length-drop (at + 6) xs)) ∙ e

  -- What stands there is a term of the move.
  pub part_read : at + 14 ≤ length xs → (j : ℕ) → j < length (take (at + 6 + n - (at + 6)) (drop (at + 6) xs))
      → (j < n) × (get_or (take (at + 6 + n - (at + 6)) (drop (at + 6) xs)) j 0 ≡ get_or xs (at + 6 + j) 0)
  part_read room j h =
      let l : j < n = omega (arith, h, part_count room) in (l, term_read xs at (at + 6 + n - (at + 6)) j (omega (arith, l)))

  pub term_fits : (j : ℕ) {k : ℕ} → j < n → k ≡ get_or xs (at + 6 + j) 0 → k < 448
  term_fits j h s = omega (arith, s, term_stands xs at j (omega (arith, few_terms)), r.fine.places j)

  place_read : (j : ℕ) {k : ℕ} → j < n → k ≡ get_or xs (at + 6 + j) 0 → drop j (places_of (move_from xs at)) ≡ k ∷ drop (j + 1) (places_of (move_from xs at))
  place_read j h s =
      place_drop r.fine j (omega (arith, r.count, count_stands xs at))
      ∙ ap (λ i. i ∷ drop (j + 1) (places_of (move_from xs at))) (term_stands xs at j (omega (arith, few_terms)) ∙ sym s)

  -- A term that holds leaves the rest to decide.
  pub places_pass : (p : ℕ → Bool) (j : ℕ) {k : ℕ} → j < n → k ≡ get_or xs (at + 6 + j) 0 → p k ≡ true
      → all p (drop j (places_of (move_from xs at))) ≡ all p (drop (j + 1) (places_of (move_from xs at)))
  unfolding all
  places_pass p j h s t = ap (all p) (place_read j h s) ∙ rw t

  -- A term that does not hold decides.
  pub places_fail : (p : ℕ → Bool) (j : ℕ) {k : ℕ} → j < n → k ≡ get_or xs (at + 6 + j) 0 → p k ≡ false → all p (drop j (places_of (move_from xs at))) ≡ false
  unfolding all
  places_fail p j h s t = ap (all p) (place_read j h s) ∙ rw t

  -- Past the last term there is nothing to decide.
  pub places_out : (p : ℕ → Bool) (j : ℕ) → n ≤ j → all p (drop j (places_of (move_from xs at))) ≡ true
  unfolding all
  places_out p j h = rw (drop_of_length-le (places_of (move_from xs at)) {i = j} (omega (arith, r.count, count_stands xs at, places_length r.fine)))

-- A list of eight is its eight elements.
pub eight : (xs : List ℕ) → length xs ≡ 8
    → (get_or xs 0 0 ∷ get_or xs 1 0 ∷ get_or xs 2 0 ∷ get_or xs 3 0 ∷ get_or xs 4 0 ∷ get_or xs 5 0 ∷ get_or xs 6 0 ∷ get_or xs 7 0 ∷ []) ≡ xs
eight [] e = absurd (omega arith)
eight (a ∷ []) e = absurd (omega arith)
eight (a ∷ b ∷ []) e = absurd (omega arith)
eight (a ∷ b ∷ c ∷ []) e = absurd (omega arith)
eight (a ∷ b ∷ c ∷ d ∷ []) e = absurd (omega arith)
eight (a ∷ b ∷ c ∷ d ∷ f ∷ []) e = absurd (omega arith)
eight (a ∷ b ∷ c ∷ d ∷ f ∷ g ∷ []) e = absurd (omega arith)
eight (a ∷ b ∷ c ∷ d ∷ f ∷ g ∷ h ∷ []) e = absurd (omega arith)
eight (a ∷ b ∷ c ∷ d ∷ f ∷ g ∷ h ∷ i ∷ []) e = refl
eight (a ∷ b ∷ c ∷ d ∷ f ∷ g ∷ h ∷ i ∷ j ∷ xs) e = absurd (omega arith)

-- Two lists of eight with the same elements are one.
eights : (xs ys : List ℕ) → length xs ≡ 8 → length ys ≡ 8 → ((j : ℕ) → j < 8 → get_or xs j 0 ≡ get_or ys j 0) → xs ≡ ys
eights xs ys p q h =
    sym (eight xs p)
    ∙ rw (
      h 0 (omega arith),
      h 1 (omega arith),
      h 2 (omega arith),
      h 3 (omega arith),
      h 4 (omega arith),
      h 5 (omega arith),
      h 6 (omega arith),
      h 7 (omega arith),
    ) (eight ys q)

eight_terms : (xs : List ℕ) (at : ℕ) → length (move_from xs at).terms ≡ 8
unfolding move_from
eight_terms xs at = refl

-- The terms of the move that stands at a place are a part of the numbers.
pub terms_read : (xs : List ℕ) (at n : ℕ) → n ≡ 8 → at + 14 ≤ length xs → take n (drop (at + 6) xs) ≡ (move_from xs at).terms
terms_read xs at n e room = eights (take n (drop (at + 6) xs)) (move_from xs at).terms (search (rules, places)) (eight_terms xs at)
    (λ j l. term_read xs at n j (omega arith) ∙ sym (term_stands xs at j l))

-- The part of the numbers that has its terms is the places of its terms.
pub part_places : {xs : List ℕ} {at n : ℕ} → Reading xs at n → at + 14 ≤ length xs
    → take (at + 6 + n - (at + 6)) (drop (at + 6) xs) ≡ places_of (move_from xs at)
unfolding places_of
part_places {xs} {at} {n} r room =
    let e : at + 6 + n - (at + 6) ≡ n = omega arith in
    rw e (sym (take-take n 8 (drop (at + 6) xs) (few_terms r)) ∙ ap (take n) (terms_read xs at 8 refl room)
    ∙ ap (λ k. take k (move_from xs at).terms) (r.count ∙ sym (count_stands xs at)))

-- The numbers of a move.
pub numbers_made : {m : Move} → Fine m → Numbers m (m.fact ∷ m.n ∷ m.op ∷ m.role ∷ m.a ∷ m.v ∷ m.terms)
unfolding move_from
numbers_made {m} fine = record { size = omega (arith, fine.size); same = rw (eight m.terms fine.size) refl }

-- Those of move k written, and none below it changed.
pub put_made : {m : Move} {row : List ℕ} (before : List ℕ) (k n : ℕ) → n ≡ 14 → 14 * k + 14 ≤ length before → Numbers m row
    → MovePut before k m (put_mid (14 * k) n before row)
put_made {m} {row} before k n e room w =
    record {
      size = size (14 * k) (omega arith) (omega (arith, w.size));
      here = move_same (put_mid (14 * k) n before row) row (14 * k) 0 (λ l i. inside (14 * k) l (omega arith) (omega (arith, w.size)) ∙ rw (zero-add l)) ∙ w.same;
      there = λ i l. move_same (put_mid (14 * k) n before row) before (14 * i) (14 * i)
          (λ p q. below (14 * k) (14 * i + p) (omega arith) (omega arith));
    }
  where
    size : (a : ℕ) → a + n ≤ length before → length row ≡ n → length (put_mid a n before row) ≡ length before
    size a h q = search (rules, places)

    inside : (a l : ℕ) → a + n ≤ length before → l < length row → get_or (put_mid a n before row) (a + l) 0 ≡ get_or row l 0
    inside a l h q = search (rules, places)

    below : (a p : ℕ) → a + n ≤ length before → p < a → get_or (put_mid a n before row) p 0 ≡ get_or before p 0
    below a p h q = search (rules, places)
