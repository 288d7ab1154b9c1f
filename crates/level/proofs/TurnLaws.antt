-- How a sweep goes round its moves, whatever its test: the last `quiet` moves before the one that it looks at do not fire, and when all are quiet none fires.
-- Some moves may be named, to be tried first. Nothing is claimed of the names: a turn may take the sweep to any move, if it calls no move quiet there.
use mathlib.Core.Path.{◌≡◌, refl, sym, ◌∙◌}
use mathlib.Core.Logic.{◌⊎◌, inl, inr, ⊎_elim, by_cases, dite}
use mathlib.Core.Bool.{Bool, false}
use Prim.Native.Nat.{ℕ, suc, ◌+◌, ◌-◌, ◌*◌, ◌≤◌, ◌<◌}
use native.Mathlib.Decide.{ℕ_discrete, dec_lt}
use native.Mathlib.Omega.{arith}
use Rattle.level.specs.Inner.Sweep.{Next, TurnAt}

-- The place `j` is one of the last `quiet` before `i`, in a round of `n`.
abbrev pub Window : ℕ → ℕ → ℕ → ℕ → Type 0
Window n i quiet j = ((j < i) × (i ≤ j + quiet)) ⊎ (n + i ≤ j + quiet)

-- When all are quiet every move is among them.
pub window_all : (n i quiet j : ℕ) → i < n → n ≤ quiet → j < n → Window n i quiet j
window_all n i quiet j g q h = by_cases (dec_lt j i) (λ l. inl (l, omega arith)) (λ l. inr (omega arith))

-- At first none is.
pub window_none : (n i j : ℕ) → j < n → Window n i 0 j → ⊥
window_none n i j h w = ⊎_elim (λ (a : (j < i) × (i ≤ j + 0)). omega arith) (λ (a : n + i ≤ j + 0). omega arith) w

-- One quiet move more.
pub window_next : {n i r : ℕ} (quiet j : ℕ) → Next i n r → i < n → j < n → Window n r (quiet + 1) j → (j ≡ i) ⊎ Window n i quiet j
window_next {n} {i} {r} quiet j x h l w = by_cases (ℕ_discrete j i) (λ e. inl e) (λ e. inr (dite (ℕ_discrete (i + 1) n)
    (λ (t : i + 1 ≡ n). let z : r ≡ 0 = x.turn t in
    ⊎_elim (λ (a : (j < r) × (r ≤ j + (quiet + 1))). absurd (omega arith)) (λ (a : n + r ≤ j + (quiet + 1)). inl (omega arith, omega arith)) w)
    (λ (t : i + 1 ≡ n → ⊥). let z : r ≡ i + 1 = x.step t in
    ⊎_elim (λ (a : (j < r) × (r ≤ j + (quiet + 1))). inl (omega arith, omega arith)) (λ (a : n + r ≤ j + (quiet + 1)). inr (omega arith)) w)))

-- A turn stays where the sweep stands.
pub turn_stays : {n tried i tried' : ℕ} (quiet : ℕ) → i < n → tried ≤ tried' → tried' ≤ 160 → TurnAt n tried i quiet tried' i quiet
turn_stays quiet l o m = record { fits = l; onward = o; names = m; goes = inl (refl, refl) }

-- Where a sweep of `n` moves stands, with `tried` of `size` names tried: it looks at move `i`, and the last `quiet` moves before it do not fire.
pub record Sweeping (n : ℕ) (fires : ℕ → Bool) (size tried i quiet : ℕ) : Type 0 where
  pub named : size ≡ 160
  pub tries : tried ≤ 160
  pub within : 0 < n → i < n
  pub still : (j : ℕ) → j < n → Window n i quiet j → fires j ≡ false

-- While no move is quiet a sweep may stand anywhere, whatever fires.
pub sweeping_anew : {n size tried i : ℕ} (fires : ℕ → Bool) → size ≡ 160 → tried ≤ 160 → (0 < n → i < n) → Sweeping n fires size tried i 0
sweeping_anew {n} {size} {tried} {i} fires e t h = record { named = e; tries = t; within = h; still = λ j l w. absurd (window_none n i j l w) }

module _ {n : ℕ} {fires : ℕ → Bool} {size tried i quiet : ℕ} (s : Sweeping n fires size tried i quiet) where
  -- What a turn needs.
  pub turn_ready : quiet < n → (size ≡ 160) × ((tried ≤ 160) × (i < n))
  turn_ready q = (s.named, (s.tries, s.within (omega arith)))

  -- When all moves are quiet none fires.
  pub sweeping_ended : n ≤ quiet → (j : ℕ) → j < n → fires j ≡ false
  sweeping_ended h j l = s.still j l (window_all n i quiet j (s.within (omega arith)) h l)

  module _ {tried' i' quiet' : ℕ} (t : TurnAt n tried i quiet tried' i' quiet') where
    -- The sweep goes on.
    pub turned : Sweeping n fires size tried' i' quiet'
    turned = ⊎_elim
        (λ (g : (i' ≡ i) × (quiet' ≡ quiet)). rw (g.0, g.1) (record { named = s.named; tries = t.names; within = s.within; still = s.still }))
        (λ (g : (tried < tried') × (quiet' ≡ 0)). rw g.1 (sweeping_anew fires s.named t.names (λ _. t.fits)))
        t.goes

    -- Behind a move that does not fire one more is quiet.
    pub sweeping-quiet : {r : ℕ} {b : Bool} → b ≡ fires i' → b ≡ false → Next i' n r → Sweeping n fires size tried' r (quiet' + 1)
    sweeping-quiet e fails nx = record {
      named = s.named;
      tries = t.names;
      within = λ _. nx.fits;
      still = λ j l w. ⊎_elim (λ (h : j ≡ i'). rw h (sym e ∙ fails)) (turned.still j l) (window_next quiet' j nx t.fits l w);
    }

-- A turn calls no move quiet that was not.
pub turn_quiet : {n tried i quiet tried' i' quiet' : ℕ} → TurnAt n tried i quiet tried' i' quiet' → quiet < n → quiet' < n
turn_quiet {n} {tried} {i} {quiet} {tried'} {i'} {quiet'} t q =
    ⊎_elim (λ (g : (i' ≡ i) × (quiet' ≡ quiet)). omega (arith, g.1)) (λ (g : (tried < tried') × (quiet' ≡ 0)). omega (arith, g.1)) t.goes

-- The measure of a sweep that may fire `left` times more: a move that fires pays for all names and a round, a name for a round, a quiet move for a step.
abbrev pub steps_left : ℕ → ℕ → ℕ → ℕ → ℕ
steps_left n left tried quiet = (161 * left + (160 - tried)) * (n + 1) + (n - quiet)

-- Fewer rounds are fewer steps.
rounds_less : (n a b c d : ℕ) → a < b → c ≤ n → a * (n + 1) + c < b * (n + 1) + d
rounds_less n a b c d l h = go (b - suc a) (omega arith)
  where
    go : (k : ℕ) → b ≡ suc (a + k) → a * (n + 1) + c < b * (n + 1) + d
    go k e = rw e (omega arith)

-- A move that fires brings the end nearer.
pub fired_less : (n quiet tried tried' : ℕ) {left left' : ℕ} → left' < left → steps_left n left' tried' 0 < steps_left n left tried quiet
fired_less n quiet tried tried' {left} {left'} l =
    rounds_less n (161 * left' + (160 - tried')) (161 * left + (160 - tried)) (n - 0) (n - quiet) (omega arith) (omega arith)

-- So does one that does not.
pub quiet_less : {n tried i quiet tried' i' quiet' : ℕ} (left : ℕ) → TurnAt n tried i quiet tried' i' quiet' → quiet < n
    → steps_left n left tried' (quiet' + 1) < steps_left n left tried quiet
quiet_less {n} {tried} {i} {quiet} {tried'} {i'} {quiet'} left t q =
    by_cases (dec_lt tried tried')
    (λ l. rounds_less n (161 * left + (160 - tried')) (161 * left + (160 - tried)) (n - (quiet' + 1)) (n - quiet) (omega (arith, l, t.names)) (omega arith))
    (λ l. let e : tried' ≡ tried = omega (arith, l, t.onward) in
    ⊎_elim (λ (g : (i' ≡ i) × (quiet' ≡ quiet)). rw (e, g.1) (omega (arith, q))) (λ (g : (tried < tried') × (quiet' ≡ 0)). absurd (l g.0)) t.goes)
