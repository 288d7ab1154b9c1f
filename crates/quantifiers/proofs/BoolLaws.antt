-- Two tests passed, or one of two; three numbers below three bounds.
use mathlib.Core.Path.{◌≡◌, refl, sym}
use mathlib.Core.Logic.{◌⊎◌, inl, inr}
use mathlib.Core.Bool.{Bool, true, false, ◌&&◌, ◌||◌, or-true, true≢false, false≢true}
use Prim.Native.Nat.{ℕ, ◌<◌}
use lib.Dec.{ltb}
use borrow.Author.Tests.{ltb-true, lt-ltb}

pub and_both : (a b : Bool) → a && b ≡ true → (a ≡ true) × (b ≡ true)
and_both true b e = (refl, e)
and_both false b e = absurd (false≢true e)

pub and_from : (a b : Bool) → a ≡ true → b ≡ true → a && b ≡ true
and_from a b e f = rw (e, f) refl

pub or_cases : (a b : Bool) → a || b ≡ true → (a ≡ true) ⊎ (b ≡ true)
or_cases true b e = inl refl
or_cases false b e = inr e

-- What follows from either of two tests.
pub or_either : {A : Type 0} (a b : Bool) → a || b ≡ true → (a ≡ true → A) → (b ≡ true → A) → A
or_either true b e f g = f refl
or_either false b e f g = g e

pub or_left : (a b : Bool) → a ≡ true → a || b ≡ true
or_left a b e = rw e refl

pub or_right : (a b : Bool) → b ≡ true → a || b ≡ true
or_right a b e = rw e (or-true a)

-- Where neither of two tests is passed, the first is not, and the second is not.
pub or_neither : (a b : Bool) → a || b ≡ false → a ≡ false
or_neither true b e = e
or_neither false b e = refl

pub or-none : (a b : Bool) → a || b ≡ false → b ≡ false
or-none true b e = absurd (true≢false e)
or-none false b e = e

-- A test that is not passed fails.
pub not_on : (a : Bool) → (a ≡ true → ⊥) → a ≡ false
not_on true h = absurd (h refl)
not_on false h = refl

-- What holds where a test is passed and where it fails holds.
pub by_test : {A : Type 0} (b : Bool) → (b ≡ true → A) → (b ≡ false → A) → A
by_test true t f = t refl
by_test false t f = f refl

-- Two tests, each passed where the other is, agree.
pub bool_eq : (a b : Bool) → (a ≡ true → b ≡ true) → (b ≡ true → a ≡ true) → a ≡ b
bool_eq true b f g = sym (f refl)
bool_eq false true f g = g refl
bool_eq false false f g = refl

pub or_swap : (a b c d : Bool) → (a || b) || (c || d) ≡ (a || c) || (b || d)
or_swap true b c d = refl
or_swap false true true d = refl
or_swap false true false d = refl
or_swap false false c d = refl

pub and-or : (a b c : Bool) → a && (b || c) ≡ (a && b) || (a && c)
and-or true b c = refl
and-or false b c = refl

-- ---------------------------------------------------------------- several bounds

pub two_below : (x y m n : ℕ) → ltb x m && ltb y n ≡ true → (x < m) × (y < n)
two_below x y m n e = let parts = and_both (ltb x m) (ltb y n) e in (ltb-true x m parts.0, ltb-true y n parts.1)

pub three_below : (x y z l m n : ℕ) → ltb x l && ltb y m && ltb z n ≡ true → (x < l) × ((y < m) × (z < n))
three_below x y z l m n e =
    let parts = and_both (ltb x l && ltb y m) (ltb z n) e in
    let front = two_below x y l m parts.0 in
    (front.0, (front.1, ltb-true z n parts.1))

pub three_from : (x y z l m n : ℕ) → x < l → y < m → z < n → ltb x l && ltb y m && ltb z n ≡ true
three_from x y z l m n h k j = rw (lt-ltb x l h, lt-ltb y m k, lt-ltb z n j) refl
