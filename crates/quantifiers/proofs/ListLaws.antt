-- Tests over a list: by its elements, by its places, and from a place on, where what is left decides.
use mathlib.Core.Path.{◌≡◌, refl, ap, sym, ◌∙◌}
use mathlib.Core.Bool.{Bool, true, false, ◌&&◌, ◌||◌, and-true, and_assoc, or-false, or_assoc, true≢false}
use mathlib.Core.List.{List, [], ◌∷◌, ◌++◌, map}
use Prim.Native.Nat.{ℕ, zero, suc, ◌+◌, ◌≤◌, ◌<◌}
use native.Mathlib.Numerals.{add-one}
use native.Mathlib.Omega.{arith}
use lib.Dec.{ltb}
use lib.ListN.{length, get_or, set, take, drop, drop_of_length-le, length-take}
use borrow.Author.Tests.{ltb-false}
use lib.Seq.{drop-cons, get_or-take, length-take-le, take-suc, take-suc-set, take_all}
use Rattle.quantifiers.specs.Quantifiers.{all, any, any_below}
use Rattle.quantifiers.specs.Inner.Lists.{Each}
use Rattle.quantifiers.proofs.BoolLaws.{and_both, and_from, or_right, or_neither, or-none, by_test}
use Rattle.quantifiers.proofs.BelowLaws.{any-zero, any_step}

-- ---------------------------------------------------------------- by the elements

module _ {A : Type 0} where
  -- All pass a test that each of them passes; of each is known that it passes two others, and that what it passes some one passes.
  pub all_in : (p q r : A → Bool) (xs : List A) → all p xs ≡ true → all q xs ≡ true
      → ((x : A) → p x ≡ true → q x ≡ true → ((t : A → Bool) → t x ≡ true → any t xs ≡ true) → r x ≡ true) → all r xs ≡ true
  unfolding all any
  all_in p q r [] e f h = refl
  all_in p q r (x ∷ xs) e f h =
      let one = and_both (p x) (all p xs) e in
      let two = and_both (q x) (all q xs) f in
      let rest : all r xs ≡ true = all_in p q r xs one.1 two.1 (λ y i j found. h y i j (λ t k. or_right (t x) (any t xs) (found t k))) in
      rw (h x one.0 two.0 (λ t i. rw i refl), rest) refl

  -- Where all pass one test and some passes another, some one passes both.
  pub all_any : (p q : A → Bool) (xs : List A) → all p xs ≡ true → any q xs ≡ true → (x : A) × ((p x ≡ true) × (q x ≡ true))
  unfolding all any
  all_any p q [] e f = absurd (true≢false (sym f))
  all_any p q (x ∷ xs) e f = by-head (q x) refl f (λ g. all_any p q xs (and_both (p x) (all p xs) e).1 g)
    where
      by-head : (h : Bool) → q x ≡ h → (h || any q xs) ≡ true → (any q xs ≡ true → (y : A) × ((p y ≡ true) × (q y ≡ true)))
          → (y : A) × ((p y ≡ true) × (q y ≡ true))
      by-head true i g next = (x, ((and_both (p x) (all p xs) e).0, i))
      by-head false i g next = next g

  -- By a test that more pass, all pass where all did.
  pub all_mono : (p q : A → Bool) (xs : List A) → ((x : A) → p x ≡ true → q x ≡ true) → all p xs ≡ true → all q xs ≡ true
  all_mono p q xs h e = all_in p p q xs e e (λ x i j found. h x i)

  -- Where all pass a test, some one passes any test that each which passed two others passes.
  pub any_in : (p q r : A → Bool) (xs : List A) → all p xs ≡ true → any q xs ≡ true → ((x : A) → p x ≡ true → q x ≡ true → r x ≡ true) → any r xs ≡ true
  unfolding all any
  any_in p q r [] e f h = f
  any_in p q r (x ∷ xs) e f h =
      let one = and_both (p x) (all p xs) e in
      by-head (q x) refl f (h x one.0) (λ g. any_in p q r xs one.1 g h)
    where
      by-head : (b : Bool) → q x ≡ b → (b || any q xs) ≡ true → (q x ≡ true → r x ≡ true) → (any q xs ≡ true → any r xs ≡ true) → (r x || any r xs) ≡ true
      by-head true i f here rest = rw (here i) refl
      by-head false i f here rest = or_right (r x) (any r xs) (rest f)

  -- By tests that agree, all pass alike, and some one alike.
  pub all_agree : (p q : A → Bool) → ((x : A) → p x ≡ q x) → (xs : List A) → all p xs ≡ all q xs
  unfolding all
  all_agree p q h [] = refl
  all_agree p q h (x ∷ xs) = rw (h x, all_agree p q h xs) refl

  pub any_agree : (p q : A → Bool) → ((x : A) → p x ≡ q x) → (xs : List A) → any p xs ≡ any q xs
  unfolding any
  any_agree p q h [] = refl
  any_agree p q h (x ∷ xs) = rw (h x, any_agree p q h xs) refl

  -- The same of tests that agree at each place of the list.
  pub all_same_at : (p q : A → Bool) (d : A) (xs : List A) → ((j : ℕ) → j < length xs → p (get_or xs j d) ≡ q (get_or xs j d)) → all p xs ≡ all q xs
  unfolding all
  all_same_at p q d [] h = refl
  all_same_at p q d (x ∷ xs) h = rw (h 0 (omega arith), all_same_at p q d xs (λ j i. h (suc j) (omega arith)))

  -- ---------------------------------------------------------------- by the places

  -- The first n of a list pass a test where each place below n has one that does.
  pub all-front : (p : A → Bool) (d : A) (xs : List A) (n : ℕ) → ((j : ℕ) → j < n → p (get_or xs j d) ≡ true) → all p (take n xs) ≡ true
  unfolding all
  all-front p d [] zero h = refl
  all-front p d [] (suc n) h = refl
  all-front p d (x ∷ xs) zero h = refl
  all-front p d (x ∷ xs) (suc n) h = rw (h 0 (omega arith), all-front p d xs n (λ j l. h (suc j) (omega arith))) refl

  any_last : (p : A → Bool) (xs : List A) (y : A) → any p (xs ++ (y ∷ [])) ≡ any p xs || p y
  unfolding any
  any_last p [] y = or-false (p y)
  any_last p (x ∷ xs) y = ap (λ u. p x || u) (any_last p xs y) ∙ sym (or_assoc (p x) (any p xs) (p y))

  -- Some one of the first n of a list passes where some place below n has one that does.
  pub any-front : (p : A → Bool) (d : A) (xs : List A) (n : ℕ) → n ≤ length xs → any p (take n xs) ≡ any_below (λ j. p (get_or xs j d)) n
  unfolding any
  any-front p d xs zero h = sym (any-zero (λ j. p (get_or xs j d)))
  any-front p d xs (suc n) h =
      ap (any p) (take-suc xs n d (omega arith)) ∙ any_last p (take n xs) (get_or xs n d)
      ∙ ap (λ u. u || p (get_or xs n d)) (any-front p d xs n (omega arith)) ∙ sym (any_step (λ j. p (get_or xs j d)) n)

module _ {A : Type 0} (p : A → Bool) where
  -- Where all of a list pass a test, the one at each place does.
  pub all_get : (xs : List A) (d : A) (i : ℕ) → all p xs ≡ true → i < length xs → p (get_or xs i d) ≡ true
  unfolding all
  all_get [] d i e h = absurd (omega arith)
  all_get (x ∷ xs) d zero e h = (and_both (p x) (all p xs) e).0
  all_get (x ∷ xs) d (suc i) e h = all_get xs d i (and_both (p x) (all p xs) e).1 (omega arith)

  -- All of a list with one more behind it pass where all of the list do, and that one.
  pub all_behind : (xs : List A) (y : A) → all p (xs ++ (y ∷ [])) ≡ all p xs && p y
  unfolding all
  all_behind [] y = and-true (p y)
  all_behind (x ∷ xs) y = ap (λ (u : Bool). p x && u) (all_behind xs y) ∙ sym (and_assoc (p x) (all p xs) (p y))

  -- Where no one of a list passes a test, the one at each place does not.
  pub any_get : (xs : List A) (d : A) (i : ℕ) → any p xs ≡ false → i < length xs → p (get_or xs i d) ≡ false
  unfolding any
  any_get [] d i e h = absurd (omega arith)
  any_get (x ∷ xs) d zero e h = or_neither (p x) (any p xs) e
  any_get (x ∷ xs) d (suc i) e h = any_get xs d i (or-none (p x) (any p xs) e) (omega arith)

-- ---------------------------------------------------------------- from a place on

module _ {A : Type 0} (p : A → Bool) (xs : List A) where
  -- The next one, in front of what is left behind it.
  rest : (i : ℕ) (d : A) → i < length xs → drop i xs ≡ get_or xs i d ∷ drop (i + 1) xs
  rest i d h = rw (add-one, drop-cons xs i d h)

  -- Nothing is left, the next one passes, the next one fails.
  pub rest_out : (i : ℕ) → length xs ≤ i → all p (drop i xs) ≡ true
  unfolding all
  rest_out i h = rw (drop_of_length-le xs {i = i} h)

  pub rest_pass : (i : ℕ) (d : A) → i < length xs → p (get_or xs i d) ≡ true → all p (drop i xs) ≡ all p (drop (i + 1) xs)
  unfolding all
  rest_pass i d h e = ap (all p) (rest i d h) ∙ rw e

  pub rest_fail : (i : ℕ) (d : A) → i < length xs → p (get_or xs i d) ≡ false → all p (drop i xs) ≡ false
  unfolding all
  rest_fail i d h e = rw (rest i d h, e)

-- The same of the first n.
module _ {A : Type 0} (p : A → Bool) (xs : List A) (n : ℕ) (fits : n ≤ length xs) where
  pub all_out : (i : ℕ) → n ≤ i → all p (drop i (take n xs)) ≡ true
  all_out i h = rest_out p (take n xs) i (omega (arith, length-take-le n xs fits))

  pub all_pass : (i : ℕ) (d : A) → i < n → p (get_or xs i d) ≡ true → all p (drop i (take n xs)) ≡ all p (drop (i + 1) (take n xs))
  all_pass i d h e = rest_pass p (take n xs) i d (omega (arith, length-take-le n xs fits)) (ap p (get_or-take n xs i d h) ∙ e)

  pub all_fail : (i : ℕ) (d : A) → i < n → p (get_or xs i d) ≡ false → all p (drop i (take n xs)) ≡ false
  all_fail i d h e = rest_fail p (take n xs) i d (omega (arith, length-take-le n xs fits)) (ap p (get_or-take n xs i d h) ∙ e)

-- A test of the first n of a list, however long it is, of which b says how those before place j did: with the one at j, and at the end.
module _ {A : Type 0} (p : A → Bool) (xs : List A) (n : ℕ) (b : Bool) where
  pub front_more : (j : ℕ) (d : A) → j < n → j < length xs
      → (b && all p (drop j (take n xs))) ≡ ((b && p (get_or xs j d)) && all p (drop (j + 1) (take n xs)))
  unfolding all
  front_more j d h k =
      let in-front : j < length (take n xs) = omega (arith, length-take n xs, h, k) in
      rw (drop-cons (take n xs) j d in-front, get_or-take n xs j d h, add-one j) (sym (and_assoc b (p (get_or xs j d)) _))

  pub front_out : (j : ℕ) → ltb j n && ltb j (length xs) ≡ false → (b && all p (drop j (take n xs))) ≡ b
  front_out j e = ap (λ (u : Bool). b && u) (rest_out p (take n xs) j past) ∙ and-true b
    where
      past : length (take n xs) ≤ j
      past =
          by_test (ltb j n) (λ i. omega (arith, length-take n xs, ltb-false j (length xs) (rw i at e)))
          (λ i. omega (arith, length-take n xs, ltb-false j n i))

-- Where all of a list pass, the first n do.
pub all_take : {A : Type 0} (p : A → Bool) (xs : List A) (n : ℕ) → all p xs ≡ true → all p (take n xs) ≡ true
unfolding all
all_take p xs zero e = refl
all_take p [] (suc n) e = refl
all_take p (x ∷ xs) (suc n) e = let both = and_both (p x) (all p xs) e in and_from (p x) (all p (take n xs)) both.0 (all_take p xs n both.1)

-- Within the list it does not matter what stands for a place past its end.
pub within-any : {A : Type 0} (xs : List A) (i : ℕ) (d e : A) → i < length xs → get_or xs i d ≡ get_or xs i e
within-any [] i d e h = absurd (omega arith)
within-any (x ∷ xs) zero d e h = refl
within-any (x ∷ xs) (suc i) d e h = within-any xs i d e (omega arith)

-- What each of the first n has, the one at i has.
pub each_at : {A : Type 0} (P : A → Type 0) (xs : List A) (n i : ℕ) (d : A) → i < n → n ≤ length xs → Each P (take n xs) → P (get_or xs i d)
unfolding Each
each_at P [] n i d h f e = absurd (omega arith)
each_at P (x ∷ xs) zero i d h f e = absurd (omega arith)
each_at P (x ∷ xs) (suc n) zero d h f e = e.0
each_at P (x ∷ xs) (suc n) (suc i) d h f e = each_at P xs n i d (omega arith) (omega arith) e.1

-- ---------------------------------------------------------------- two lists, one behind the other

pub map-append : {A B : Type 0} (f : A → B) (xs ys : List A) → map f (xs ++ ys) ≡ map f xs ++ map f ys
map-append f [] ys = refl
map-append {A} {B} f (x ∷ xs) ys = ap (λ (r : List B). f x ∷ r) (map-append f xs ys)

-- ---------------------------------------------------------------- one list copied to another, from the front

module _ {A : Type 0} where
  -- One element more is copied; z is what stands behind a list's end.
  pub copied_more : (z : A) (l m : List A) (i : ℕ) → i < length l → i < length m → take i l ≡ take i m
      → take (i + 1) (set l i (get_or m i z)) ≡ take (i + 1) m
  copied_more z l m i h k e = rw (add-one, take-suc-set l i (get_or m i z) h, take-suc m i z k, e) refl

  -- All are copied.
  pub copied_all : (l m : List A) (n : ℕ) → length l ≤ n → length m ≤ n → take n l ≡ take n m → l ≡ m
  copied_all l m n h k e = sym (take_all n l h) ∙ e ∙ take_all n m k
