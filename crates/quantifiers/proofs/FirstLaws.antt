-- The first of a list that passes a test: which one it is, and whether there is one.
use mathlib.Core.Path.{◌≡◌, refl, ap, sym, ◌∙◌}
use mathlib.Core.Bool.{Bool, true, false, cond, not, ◌&&◌, ◌||◌}
use mathlib.Core.List.{List, [], ◌∷◌}
use Prim.Native.Nat.{ℕ, zero, suc, ◌≤◌, ◌<◌}
use native.Mathlib.Omega.{arith}
use lib.Dec.{ltb}
use lib.ListN.{length, get_or}
use borrow.Author.Tests.{lt-ltb, le-ltb, ltb-true, ltb-false}
use Rattle.quantifiers.specs.Quantifiers.{all, any, first}

-- ---------------------------------------------------------------- which one it is

module _ {A : Type 0} (p : A → Bool) where
  -- It is one of the list, or the list's length.
  pub first-within : (xs : List A) → first p xs ≤ length xs
  unfolding first
  first-within [] = omega arith
  first-within (x ∷ xs) = by-head (p x) (first-within xs)
    where
      by-head : (b : Bool) → first p xs ≤ length xs → cond b 0 (suc (first p xs)) ≤ suc (length xs)
      by-head true h = omega arith
      by-head false h = omega arith

  -- What is found passes.
  pub first_passes : (xs : List A) (d : A) → first p xs < length xs → p (get_or xs (first p xs) d) ≡ true
  unfolding first
  first_passes [] d h = absurd (omega arith)
  first_passes (x ∷ xs) d h = by-head (p x) refl (first_passes xs d) h
    where
      by-head : (b : Bool) → p x ≡ b → (first p xs < length xs → p (get_or xs (first p xs) d) ≡ true) → cond b 0 (suc (first p xs)) < suc (length xs)
          → p (get_or (x ∷ xs) (cond b 0 (suc (first p xs))) d) ≡ true
      by-head true i rest h = i
      by-head false i rest h = rest (omega arith)

  -- Nothing before it does.
  pub first-none_before : (xs : List A) (d : A) (i : ℕ) → i < first p xs → p (get_or xs i d) ≡ false
  unfolding first
  first-none_before [] d i h = absurd (omega arith)
  first-none_before (x ∷ xs) d i h = by-head (p x) refl i h (first-none_before xs d)
    where
      by-head : (b : Bool) → p x ≡ b → (i : ℕ) → i < cond b 0 (suc (first p xs)) → ((i : ℕ) → i < first p xs → p (get_or xs i d) ≡ false)
          → p (get_or (x ∷ xs) i d) ≡ false
      by-head true e i h rest = absurd (omega arith)
      by-head false e zero h rest = e
      by-head false e (suc i) h rest = rest i (omega arith)

  -- One that passes, with nothing before it that does, is the first.
  pub first_is : (xs : List A) (d : A) (i : ℕ) → i < length xs → p (get_or xs i d) ≡ true → ((k : ℕ) → k < i → p (get_or xs k d) ≡ false) → first p xs ≡ i
  unfolding first
  first_is [] d i h e none = absurd (omega arith)
  first_is (x ∷ xs) d zero h e none = rw e refl
  first_is (x ∷ xs) d (suc i) h e none =
      rw (none 0 (omega arith)) (ap suc (first_is xs d i (omega arith) e (λ k l. none (suc k) (omega arith))))

  -- Where none passes, the list's length is given.
  pub first-none : (xs : List A) (d : A) → ((k : ℕ) → k < length xs → p (get_or xs k d) ≡ false) → first p xs ≡ length xs
  unfolding first
  first-none [] d none = refl
  first-none (x ∷ xs) d none = rw (none 0 (omega arith)) (ap suc (first-none xs d (λ k l. none (suc k) (omega arith))))

  -- ---------------------------------------------------------------- all and some one

  -- A place one further on in a list of one more.
  further : (i n : ℕ) → ltb i n ≡ ltb (suc i) (suc n)
  further i n = by_order (ltb i n) refl
    where
      by_order : (b : Bool) → ltb i n ≡ b → b ≡ ltb (suc i) (suc n)
      by_order true e = sym (lt-ltb (suc i) (suc n) (omega (arith, ltb-true i n e)))
      by_order false e = sym (le-ltb (suc i) (suc n) (omega (arith, ltb-false i n e)))

  -- Some one passes exactly where the first that does is found before the end.
  pub any-first : (xs : List A) → any p xs ≡ ltb (first p xs) (length xs)
  unfolding any first
  any-first [] = refl
  any-first (x ∷ xs) = by-head (p x) (any-first xs)
    where
      by-head : (b : Bool) → any p xs ≡ ltb (first p xs) (length xs) → (b || any p xs) ≡ ltb (cond b 0 (suc (first p xs))) (suc (length xs))
      by-head true e = sym (lt-ltb 0 (suc (length xs)) (omega arith))
      by-head false e = e ∙ further (first p xs) (length xs)

  -- All pass exactly where the first that fails is not found before the end.
  pub all_first : (xs : List A) → all p xs ≡ not (ltb (first (λ x. not (p x)) xs) (length xs))
  unfolding all first
  all_first [] = refl
  all_first (x ∷ xs) = by-head (p x) (all_first xs)
    where
      fails : A → Bool
      fails y = not (p y)

      by-head : (b : Bool) → all p xs ≡ not (ltb (first fails xs) (length xs))
          → (b && all p xs) ≡ not (ltb (cond (not b) 0 (suc (first fails xs))) (suc (length xs)))
      by-head true e = e ∙ ap not (further (first fails xs) (length xs))
      by-head false e = sym (ap not (lt-ltb 0 (suc (length xs)) (omega arith)))
