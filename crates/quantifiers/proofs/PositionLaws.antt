-- std's words for tests of a list. The place of the first that passes, or that there is none, as `position` says it: it is `first`'s place
-- where that is one of the list, and there is one exactly where some one of the list passes. And all of a list, or some one, as `list_all`
-- and `list_any` say it.
use mathlib.Core.Path.{◌≡◌, refl, ap, sym, ◌∙◌}
use mathlib.Core.Bool.{Bool, true, false, cond, not, ◌&&◌, ◌||◌}
use mathlib.Core.List.{List, [], ◌∷◌}
use Prim.Native.Nat.{ℕ, suc, ◌+◌, ◌≤◌, ◌<◌}
use native.Mathlib.Omega.{arith}
use lib.Dec.{ltb}
use lib.ListN.{length}
use Rattle.std.specs.Prelude.{None, Some}
use borrow.Author.Tests.{ltb-true, ltb-false}
use Rattle.std.specs.List.{list_all, list_any, position, position_or_len}
use Rattle.std.specs.Option.{is_some, unwrap_or}
use Rattle.quantifiers.specs.Quantifiers.{all, any, first}
use Rattle.quantifiers.proofs.BoolLaws.{by_test}
use Rattle.quantifiers.proofs.FirstLaws.{any-first, first-within}

module _ {A : Type 0} (p : A → Bool) where
  -- `first` counts as `position_or_len` does.
  pub first_counts : (xs : List A) → position_or_len p xs ≡ first p xs
  unfolding first
  first_counts [] = refl
  first_counts (x ∷ xs) = by-head (p x) (first_counts xs)
    where
      by-head : (b : Bool) → position_or_len p xs ≡ first p xs → cond (not b) (1 + position_or_len p xs) 0 ≡ cond b 0 (suc (first p xs))
      by-head true e = refl
      by-head false e = omega arith

  module _ (xs : List A) where
    -- The place, by where `first` stops.
    pub position_first : position p xs ≡ cond (ltb (first p xs) (length xs)) (Some (first p xs)) None
    position_first = rw (first_counts xs) refl

    -- One that is found is `first`'s, and within the list.
    pub found-first : (i : ℕ) → position p xs ≡ Some i → (first p xs ≡ i) × (i < length xs)
    found-first i e = by_test (ltb (first p xs) (length xs)) yes no
      where
        yes : ltb (first p xs) (length xs) ≡ true → (first p xs ≡ i) × (i < length xs)
        yes t =
            let is : Some (first p xs) ≡ Some i = sym (position_first ∙ rw t refl) ∙ e in
            let at : first p xs ≡ i = cc in
            (at, omega (arith, ltb-true (first p xs) (length xs) t, at))

        no : ltb (first p xs) (length xs) ≡ false → (first p xs ≡ i) × (i < length xs)
        no f = let is : None ≡ Some i = sym (position_first ∙ rw f refl) ∙ e in absurd (cc)

    -- None is found: `first` stops at the end.
    pub none-first : position p xs ≡ None → length xs ≤ first p xs
    none-first e = by_test (ltb (first p xs) (length xs)) yes (λ f. ltb-false (first p xs) (length xs) f)
      where
        yes : ltb (first p xs) (length xs) ≡ true → length xs ≤ first p xs
        yes t = let is : Some (first p xs) ≡ None = sym (position_first ∙ rw t refl) ∙ e in absurd (cc)

    -- The place, or the length where there is none.
    pub place_or-length : unwrap_or (position p xs) (length xs) ≡ first p xs
    place_or-length = by_test (ltb (first p xs) (length xs)) (λ t. here t) (λ f. none f)
      where
        here : ltb (first p xs) (length xs) ≡ true → unwrap_or (position p xs) (length xs) ≡ first p xs
        here t = rw (position_first, t) refl

        none : ltb (first p xs) (length xs) ≡ false → unwrap_or (position p xs) (length xs) ≡ first p xs
        none f = rw (position_first, f) (omega (arith, ltb-false (first p xs) (length xs) f, first-within p xs))

    -- There is one exactly where some one passes.
    pub position-any : is_some (position p xs) ≡ any p xs
    position-any = by_test (ltb (first p xs) (length xs)) (λ t. by t) (λ f. by f)
      where
        by : {b : Bool} → ltb (first p xs) (length xs) ≡ b → is_some (position p xs) ≡ any p xs
        by {b} e = ap is_some position_first ∙ (rw e (tested b) ∙ sym (any-first p xs ∙ e))
          where
            tested : (c : Bool) → is_some (cond c (Some (first p xs)) None) ≡ c
            tested true = refl
            tested false = refl

-- All of a list, as std's `list_all` says it; and some one, as its `list_any` does.
pub all_list : {A : Type 0} (p : A → Bool) (xs : List A) → list_all p xs ≡ all p xs
unfolding all
all_list p [] = refl
all_list p (x ∷ xs) = ap (λ (b : Bool). p x && b) (all_list p xs)

pub any_list : {A : Type 0} (p : A → Bool) (xs : List A) → list_any p xs ≡ any p xs
unfolding any
any_list p [] = refl
any_list p (x ∷ xs) = ap (λ (b : Bool). p x || b) (any_list p xs)
