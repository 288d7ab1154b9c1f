-- Tests over the numbers below a bound: some one passes, all pass, how many do; and sums over them.
use mathlib.Core.Path.{◌≡◌, refl, ap, sym, ◌∙◌}
use mathlib.Core.Logic.{dite, ⊎_elim}
use mathlib.Core.Bool.{Bool, true, false, ◌&&◌, ◌||◌, or-true, false≢true}
use Prim.Native.Nat.{ℕ, zero, suc, ◌+◌, ◌*◌, ◌≤◌, ◌<◌}
use native.Mathlib.Decide.{ℕ_discrete, dec_lt}
use native.Mathlib.Numerals.{add-one}
use native.Mathlib.Omega.{arith}
use lib.Dec.{leb}
use borrow.Author.Tests.{leb-true, le-leb}
use Rattle.quantifiers.specs.Quantifiers.{all_below, any_below, any_from, one_if, count_below, sum_below}
use Rattle.quantifiers.proofs.BoolLaws.{and_both, and_from, and-or, or_cases, or_swap, not_on, bool_eq, by_test}

-- ---------------------------------------------------------------- some number below n

-- No number is below 0.
pub any-zero : (p : ℕ → Bool) → any_below p 0 ≡ false
unfolding any_below
any-zero p = refl

-- Some number below n + 1 passes where some below n does or n does.
pub any_step : (p : ℕ → Bool) (n : ℕ) → any_below p (suc n) ≡ any_below p n || p n
unfolding any_below
any_step p n = refl

-- Where none below n passes, and n does not, none below n + 1 does.
pub any_next : (p : ℕ → Bool) (n : ℕ) → any_below p n ≡ false → p n ≡ false → any_below p (n + 1) ≡ false
unfolding any_below
any_next p n e f = rw (add-one, e, f)

-- A number below n that passes is found.
pub any_from_lem : (p : ℕ → Bool) (n i : ℕ) → p i ≡ true → i < n → any_below p n ≡ true
unfolding any_below
any_from_lem p zero i e h = absurd (omega arith)
any_from_lem p (suc n) i e h =
    dite (ℕ_discrete i n)
    (λ (q : i ≡ n). rw (← q, e) (or-true (any_below p i)))
    (λ (q : i ≡ n → ⊥). rw (any_from_lem p n i e (omega arith)))

-- What is found is a number below n that passes.
pub any_cases : (p : ℕ → Bool) (n : ℕ) → any_below p n ≡ true → (i : ℕ) × ((i < n) × (p i ≡ true))
unfolding any_below
any_cases p zero e = absurd (false≢true e)
any_cases p (suc n) e =
    ⊎_elim
    (λ (f : any_below p n ≡ true). let found = any_cases p n f in (found.0, (omega (arith, found.1.0), found.1.1)))
    (λ (f : p n ≡ true). (n, (omega arith, f)))
    (or_cases (any_below p n) (p n) e)

-- Where nothing is found, no number below n passes.
pub any_none : (p : ℕ → Bool) (n i : ℕ) → any_below p n ≡ false → i < n → p i ≡ false
any_none p n i e h = not_on (p i) (λ (t : p i ≡ true). false≢true (sym e ∙ any_from_lem p n i t h))

-- Tests that agree below n find alike.
pub any_same : (p q : ℕ → Bool) (n : ℕ) → ((i : ℕ) → i < n → p i ≡ q i) → any_below p n ≡ any_below q n
unfolding any_below
any_same p q zero h = refl
any_same p q (suc n) h =
    let below = any_same p q n (λ i l. h i (omega arith)) in
    let last : p n ≡ q n = h n (omega arith) in
    rw (below, last)

-- A test that passes more numbers finds more.
pub any_below_mono : (p q : ℕ → Bool) (n : ℕ) → ((i : ℕ) → i < n → p i ≡ true → q i ≡ true) → any_below p n ≡ true → any_below q n ≡ true
any_below_mono p q n h e = let found = any_cases p n e in any_from_lem q n found.0 (h found.0 found.1.0 found.1.1) found.1.0

-- Where each number below n fails, none is found.
pub any_false : (p : ℕ → Bool) (n : ℕ) → ((i : ℕ) → i < n → p i ≡ false) → any_below p n ≡ false
unfolding any_below
any_false p zero h = refl
any_false p (suc n) h = rw (any_false p n (λ i l. h i (omega arith)), h n (omega arith)) refl

-- Some one passes either of two tests where some one passes the first or some one the second.
pub any-or : (p q : ℕ → Bool) (n : ℕ) → any_below (λ i. p i || q i) n ≡ any_below p n || any_below q n
unfolding any_below
any-or p q zero = refl
any-or p q (suc n) = rw (any-or p q n) (or_swap (any_below p n) (any_below q n) (p n) (q n))

-- A test that does not look at the number stands before the search.
pub any-and : (b : Bool) (p : ℕ → Bool) (n : ℕ) → b && any_below p n ≡ any_below (λ i. b && p i) n
any-and true p n = refl
any-and false p n = sym (any_false (λ _. false) n (λ i l. refl))

-- Which of two numbers is looked for first does not matter.
pub any_swap : (p : ℕ → ℕ → Bool) (n m : ℕ) → any_below (λ i. any_below (p i) m) n ≡ any_below (λ j. any_below (λ i. p i j) n) m
unfolding any_below
any_swap p zero m = sym (any_false (λ _. false) m (λ i l. refl))
any_swap p (suc n) m = rw (any_swap p n m) (sym (any-or (λ j. any_below (λ i. p i j) n) (p n) m))

-- ---------------------------------------------------------------- some number from v on, below n

-- A number from v on that passes is found.
pub from_found : (p : ℕ → Bool) (v n w : ℕ) → v ≤ w → w < n → p w ≡ true → any_from p v n ≡ true
unfolding any_from
from_found p v n w h l e = any_from_lem (λ w. leb v w && p w) n w (and_from (leb v w) (p w) (le-leb v w h) e) l

-- What is found is a number from v on that passes.
pub from_cases : (p : ℕ → Bool) (v n : ℕ) → any_from p v n ≡ true → (w : ℕ) × ((v ≤ w) × ((w < n) × (p w ≡ true)))
unfolding any_from
from_cases p v n e =
    let found = any_cases (λ w. leb v w && p w) n e in
    let both = and_both (leb v found.0) (p found.0) found.1.1 in
    (found.0, (leb-true v found.0 both.0, (found.1.0, both.1)))

-- A test that passes more numbers from v on finds more.
pub from_mono : (p q : ℕ → Bool) (v n : ℕ) → ((w : ℕ) → v ≤ w → w < n → p w ≡ true → q w ≡ true) → any_from p v n ≡ true → any_from q v n ≡ true
from_mono p q v n h e =
    let found = from_cases p v n e in
    let w = found.0 in
    from_found q v n w found.1.0 found.1.1.0 (h w found.1.0 found.1.1.0 found.1.1.1)

-- Tests that agree find alike.
pub from_same : (p q : ℕ → Bool) (v n : ℕ) → ((w : ℕ) → w < n → p w ≡ q w) → any_from p v n ≡ any_from q v n
unfolding any_from
from_same p q v n h = any_same (λ w. leb v w && p w) (λ w. leb v w && q w) n (λ w l. ap (λ (b : Bool). leb v w && b) (h w l))

-- Some one from v on passes either of two tests where some one passes the first or some one the second.
pub from_or : (p q : ℕ → Bool) (v n : ℕ) → any_from (λ w. p w || q w) v n ≡ any_from p v n || any_from q v n
unfolding any_from
from_or p q v n =
    any_same (λ w. leb v w && (p w || q w)) (λ w. (leb v w && p w) || (leb v w && q w)) n (λ w l. and-or (leb v w) (p w) (q w))
    ∙ any-or (λ w. leb v w && p w) (λ w. leb v w && q w) n

-- From 0 on is all of them.
pub from_zero : (p : ℕ → Bool) (n : ℕ) → any_from p 0 n ≡ any_below p n
unfolding any_from
from_zero p n = any_same (λ w. leb 0 w && p w) p n (λ w l. rw (le-leb 0 w (omega arith)) refl)

-- Where v does not lie below n, none is found.
pub from_end : (p : ℕ → Bool) (v n : ℕ) → n ≤ v → any_from p v n ≡ false
from_end p v n h = not_on (any_from p v n) (λ e. let found = from_cases p v n e in omega (arith, found.1.0, found.1.1.0))

-- From v on: v itself, or from v + 1 on.
pub from_step : (p : ℕ → Bool) (v n : ℕ) → v < n → any_from p v n ≡ p v || any_from p (v + 1) n
from_step p v n h = by_test (p v) here on
  where
    here : p v ≡ true → any_from p v n ≡ p v || any_from p (v + 1) n
    here e = rw e (from_found p v n v (omega arith) h e)

    on : p v ≡ false → any_from p v n ≡ p v || any_from p (v + 1) n
    on e = rw e (bool_eq (any_from p v n) (any_from p (v + 1) n) over back)
      where
        over : any_from p v n ≡ true → any_from p (v + 1) n ≡ true
        over t =
            let found = from_cases p v n t in
            let w = found.0 in
            dite (ℕ_discrete w v)
            (λ (q : w ≡ v). absurd (false≢true (sym e ∙ ap p (sym q) ∙ found.1.1.1)))
            (λ (q : w ≡ v → ⊥). from_found p (v + 1) n w (omega (arith, found.1.0)) found.1.1.0 found.1.1.1)

        back : any_from p (v + 1) n ≡ true → any_from p v n ≡ true
        back t =
            let found = from_cases p (v + 1) n t in
            from_found p v n found.0 (omega (arith, found.1.0)) found.1.1.0 found.1.1.1

-- From a lower number on, more is found.
pub from_lower : (p : ℕ → Bool) (u v n : ℕ) → u ≤ v → any_from p v n ≡ true → any_from p u n ≡ true
from_lower p u v n h e =
    let found = from_cases p v n e in
    from_found p u n found.0 (omega (arith, h, found.1.0)) found.1.1.0 found.1.1.1

-- A test that each number below n fails finds none.
pub from_none : (p : ℕ → Bool) (v n : ℕ) → ((w : ℕ) → w < n → p w ≡ false) → any_from p v n ≡ false
from_none p v n h =
    not_on (any_from p v n) (λ t. let found = from_cases p v n t in false≢true (sym (h found.0 found.1.1.0) ∙ found.1.1.1))

-- A test that does not look at the number stands before the search.
pub from_and : (b : Bool) (p : ℕ → Bool) (v n : ℕ) → b && any_from p v n ≡ any_from (λ w. b && p w) v n
from_and true p v n = refl
from_and false p v n = sym (from_none (λ _. false) v n (λ w l. refl))

-- Which of two numbers is looked for first does not matter.
pub from_swap : (p : ℕ → ℕ → Bool) (v n m : ℕ) → any_below (λ j. any_from (p j) v n) m ≡ any_from (λ w. any_below (λ j. p j w) m) v n
unfolding any_from
from_swap p v n m =
    any_swap (λ j w. leb v w && p j w) m n
    ∙ any_same (λ w. any_below (λ j. leb v w && p j w) m) (λ w. leb v w && any_below (λ j. p j w) m) n (λ w l. sym (any-and (leb v w) (λ j. p j w) m))

-- Some member of a family passes one of the tests where for one of them some member passes it.
pub family_from : (b : ℕ → Bool) (p : ℕ → ℕ → Bool) (v n m : ℕ)
    → any_below (λ j. b j && any_from (λ w. p w j) v n) m ≡ any_from (λ w. any_below (λ j. b j && p w j) m) v n
family_from b p v n m =
    any_same (λ j. b j && any_from (λ w. p w j) v n) (λ j. any_from (λ w. b j && p w j) v n) m (λ j l. from_and (b j) (λ w. p w j) v n)
    ∙ from_swap (λ j w. b j && p w j) v n m

-- ---------------------------------------------------------------- all numbers below n

-- No number is below 0.
pub all_none : (p : ℕ → Bool) → true ≡ all_below p 0
unfolding all_below
all_none p = refl

-- One number more: what held below j, and the test at j.
pub all_more : (p : ℕ → Bool) (j : ℕ) (b t : Bool) → b ≡ all_below p j → t ≡ p j → (b && t) ≡ all_below p (j + 1)
unfolding all_below
all_more p j b t e f = rw (add-one, e, f) refl

-- A test that all numbers below n pass is passed by each of them.
pub all_at : (p : ℕ → Bool) (n i : ℕ) → all_below p n ≡ true → i < n → p i ≡ true
unfolding all_below
all_at p zero i e h = absurd (omega arith)
all_at p (suc n) i e h =
    let both = and_both (all_below p n) (p n) e in
    dite (dec_lt i n)
    (λ (l : i < n). all_at p n i both.0 l)
    (λ (l : i < n → ⊥). let q : i ≡ n = omega arith in rw q both.1)

-- A test that each number below n passes is passed by all.
pub all_from : (p : ℕ → Bool) (n : ℕ) → ((i : ℕ) → i < n → p i ≡ true) → all_below p n ≡ true
unfolding all_below
all_from p zero h = refl
all_from p (suc n) h = and_from (all_below p n) (p n) (all_from p n (λ i l. h i (omega arith))) (h n (omega arith))

-- Tests that agree below n are passed alike.
pub all_below_same : (p q : ℕ → Bool) (n : ℕ) → ((j : ℕ) → j < n → p j ≡ q j) → all_below p n ≡ all_below q n
unfolding all_below
all_below_same p q zero h = refl
all_below_same p q (suc n) h = rw (all_below_same p q n (λ j l. h j (omega arith)), h n (omega arith)) refl

-- ---------------------------------------------------------------- how many numbers below n

one_if_most : (b : Bool) → one_if b ≤ 1
one_if_most true = omega arith
one_if_most false = omega arith

one_if_mono : (a b : Bool) → (a ≡ true → b ≡ true) → one_if a ≤ one_if b
one_if_mono true b h = rw (h refl) (omega arith)
one_if_mono false b h = omega arith

-- One number more, that passes or does not.
module _ (p : ℕ → Bool) (n : ℕ) where
  pub count_yes : p n ≡ true → count_below p (n + 1) ≡ count_below p n + 1
  unfolding count_below
  count_yes e = rw (add-one, e)

  pub count_no : p n ≡ false → count_below p (n + 1) ≡ count_below p n
  unfolding count_below
  count_no e = rw (add-one, e) (omega arith)

-- No more pass than there are.
pub count_le : (p : ℕ → Bool) (n : ℕ) → count_below p n ≤ n
unfolding count_below
count_le p zero = omega arith
count_le p (suc n) = omega (arith, one_if_most (p n), count_le p n)

-- Of more numbers at least as many pass.
pub count_longer : (p : ℕ → Bool) (i n : ℕ) → i ≤ n → count_below p i ≤ count_below p n
unfolding count_below
count_longer p i zero h = let e : i ≡ 0 = omega arith in rw e (omega arith)
count_longer p i (suc n) h =
    dite (dec_lt i (suc n))
    (λ (l : i < suc n). let below = count_longer p i n (omega arith) in omega (arith, below))
    (λ (l : i < suc n → ⊥). let e : i ≡ suc n = omega arith in rw e (omega arith))

-- By a test that more numbers pass, at least as many do.
pub count_mono : {p q : ℕ → Bool} → ((i : ℕ) → p i ≡ true → q i ≡ true) → (n : ℕ) → count_below p n ≤ count_below q n
unfolding count_below
count_mono h zero = omega arith
count_mono {p} {q} h (suc n) = omega (arith, one_if_mono (p n) (q n) (h n), count_mono h n)

-- Where no number passes two of four tests, no more pass than there are.
pub count_four : (p q r s : ℕ → Bool) (n : ℕ) → ((i : ℕ) → one_if (p i) + one_if (q i) + one_if (r i) + one_if (s i) ≤ 1)
    → count_below p n + count_below q n + count_below r n + count_below s n ≤ n
unfolding count_below
count_four p q r s zero h = omega arith
count_four p q r s (suc n) h = omega (arith, count_four p q r s n h, h n)

-- ---------------------------------------------------------------- the sum below n

-- No number is below 0.
pub sum-none : (f : ℕ → ℕ) → 0 ≡ sum_below f 0
unfolding sum_below
sum-none f = refl

-- One number more.
pub sum_more : (f : ℕ → ℕ) (j s t : ℕ) → s ≡ sum_below f j → t ≡ f j → s + t ≡ sum_below f (j + 1)
unfolding sum_below
sum_more f j s t e g = rw (add-one, e, g) refl

-- Where each is at most m, the sum is at most m times as many.
pub sum_most : (f : ℕ → ℕ) (m n : ℕ) → ((i : ℕ) → i < n → f i ≤ m) → sum_below f n ≤ n * m
unfolding sum_below
sum_most f m zero h = omega arith
sum_most f m (suc n) h = omega (arith, h n (omega arith), sum_most f m n (λ i l. h i (omega arith)))
