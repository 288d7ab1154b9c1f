-- All or some one, of a list and of the numbers below a bound; the first of a list; how many numbers below a bound; sums.
use Rattle.std.specs.Prelude.{ℕ, zero, suc, ◌+◌, Bool, true, false, cond, ◌&&◌, ◌||◌, List, [], ◌∷◌, leb}

-- All of a list pass a test.
unfoldable pub all : {A : Type 0} → (A → Bool) → List A → Bool
all p [] = true
all p (x ∷ xs) = p x && all p xs

-- Some one of a list passes a test.
unfoldable pub any : {A : Type 0} → (A → Bool) → List A → Bool
any p [] = false
any p (x ∷ xs) = p x || any p xs

-- The place, from 0, of the first of a list that passes a test; the list's length where none does.
unfoldable pub first : {A : Type 0} → (A → Bool) → List A → ℕ
first p [] = 0
first p (x ∷ xs) = cond (p x) 0 (suc (first p xs))

-- All numbers below n pass a test.
unfoldable pub all_below : (ℕ → Bool) → ℕ → Bool
all_below p zero = true
all_below p (suc n) = all_below p n && p n

-- Some number below n passes a test.
unfoldable pub any_below : (ℕ → Bool) → ℕ → Bool
any_below p zero = false
any_below p (suc n) = any_below p n || p n

-- Some number from v on, below n, passes a test.
unfoldable pub any_from : (ℕ → Bool) → ℕ → ℕ → Bool
any_from p v n = any_below (λ w. leb v w && p w) n

-- A truth value as a number.
abbrev pub one_if : Bool → ℕ
one_if true = 1
one_if false = 0

-- How many numbers below n pass a test.
unfoldable pub count_below : (ℕ → Bool) → ℕ → ℕ
count_below p zero = 0
count_below p (suc n) = count_below p n + one_if (p n)

-- The sum of what the numbers below n give.
unfoldable pub sum_below : (ℕ → ℕ) → ℕ → ℕ
sum_below f zero = 0
sum_below f (suc n) = sum_below f n + f n
