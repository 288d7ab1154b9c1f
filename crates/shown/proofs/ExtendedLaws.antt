-- Laws of the places from 320 on, where it stands whether a value or a higher one is effective: they follow from the first 320.
use mathlib.Core.Path.{◌≡◌, refl}
use mathlib.Core.Logic.{dite}
use mathlib.Core.Bool.{Bool, true, false, cond, ◌||◌}
use Prim.Native.Nat.{ℕ, ◌+◌, ◌-◌, ◌*◌, ◌/◌, ◌%◌, ◌<◌}
use native.Mathlib.Decide.{dec_lt}
use native.Mathlib.Omega.{arith}
use lib.Dec.{ltb}
use borrow.Author.Tests.{lt-ltb, le-ltb}
use Rattle.quantifiers.specs.Quantifiers.{any_from}
use Rattle.quantifiers.proofs.BelowLaws.{from_mono, from_or, from_same}
use Rattle.shown.specs.Inner.Shown.{extended}

module _ (g : ℕ → Bool) where
  -- Below place 320 nothing is added.
  pub extended_low : (k : ℕ) → k < 320 → extended g k ≡ g k
  unfolding extended
  extended_low k h = rw (lt-ltb k 320 h) refl

  -- From there on: v or a higher value of a.
  pub extended_at : (a v : ℕ) → v < 16 → extended g (320 + (16 * a + v)) ≡ any_from (λ w. g (160 + (16 * a + w))) v 16
  unfolding extended
  extended_at a v h =
      let m : (320 + (16 * a + v) - 320) % 16 ≡ v = omega arith in
      let d : (320 + (16 * a + v) - 320) / 16 ≡ a = omega arith in
      rw (le-ltb (320 + (16 * a + v)) 320 (omega arith), m, d) refl

-- The place of a value's effective flag, by a place from 320 on: a value of the same attribute.
effective_at : ℕ → ℕ → ℕ
effective_at k w = 160 + (16 * ((k - 320) / 16) + w)

-- What follows from two sets of flags together follows from the one or from the other.
pub extended-or : (g h : ℕ → Bool) (k : ℕ) → extended (λ j. g j || h j) k ≡ extended g k || extended h k
unfolding extended effective_at
extended-or g h k = by_place (ltb k 320)
  where
    by_place : (b : Bool)
        → cond b (g k || h k) (any_from (λ w. g (effective_at k w) || h (effective_at k w)) ((k - 320) % 16) 16)
        ≡ cond b (g k) (any_from (λ w. g (effective_at k w)) ((k - 320) % 16) 16)
        || cond b (h k) (any_from (λ w. h (effective_at k w)) ((k - 320) % 16) 16)
    by_place true = refl
    by_place false = from_or (λ w. g (effective_at k w)) (λ w. h (effective_at k w)) ((k - 320) % 16) 16

-- Flags that agree below place 320 are extended alike.
pub extended_same : (g h : ℕ → Bool) → ((j : ℕ) → j < 320 → g j ≡ h j) → (k : ℕ) → k < 448 → extended g k ≡ extended h k
unfolding extended
extended_same g h same k l =
    dite (dec_lt k 320)
    (λ (m : k < 320). rw (lt-ltb k 320 m) (same k m))
    (λ (m : k < 320 → ⊥).
    rw (le-ltb k 320 (omega arith))
    (from_same (λ w. g (160 + (16 * ((k - 320) / 16) + w))) (λ w. h (160 + (16 * ((k - 320) / 16) + w))) ((k - 320) % 16) 16
    (λ w i. same (160 + (16 * ((k - 320) / 16) + w)) (omega arith))))

-- Where more is shown, no less follows.
pub extended_mono : (g h : ℕ → Bool) → ((j : ℕ) → g j ≡ true → h j ≡ true) → (k : ℕ) → extended g k ≡ true → extended h k ≡ true
unfolding extended effective_at
extended_mono g h more k = by_place (ltb k 320)
  where
    by_place : (b : Bool)
        → cond b (g k) (any_from (λ w. g (effective_at k w)) ((k - 320) % 16) 16) ≡ true
        → cond b (h k) (any_from (λ w. h (effective_at k w)) ((k - 320) % 16) 16) ≡ true
    by_place true e = more k e
    by_place false e =
        from_mono (λ w. g (effective_at k w)) (λ w. h (effective_at k w)) ((k - 320) % 16) 16 (λ w l m. more (effective_at k w)) e

-- A place from 320 on is one of a value.
pub higher_place : (k : ℕ) → 320 + (16 * (k / 16) + k % 16) ≡ 320 + k
higher_place k = omega arith
