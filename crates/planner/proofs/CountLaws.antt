-- A plan is no longer than the facts that it may change are many: two requests for each.
use mathlib.Core.Path.{◌≡◌, refl, ap, sym, subst, fun_ext, ◌∙◌}
use mathlib.Core.Logic.{dite}
use mathlib.Core.Bool.{Bool, true, false, ◌&&◌, and-true, true≢false}
use mathlib.Core.List.{List, [], ◌∷◌, ◌++◌, map}
use Prim.Native.Nat.{ℕ, zero, suc, ◌+◌, ◌-◌, ◌*◌, ◌/◌, ◌%◌, ◌≤◌, ◌<◌}
use native.Mathlib.Decide.{dec_lt}
use native.Mathlib.Omega.{arith}
use lib.Dec.{eqb}
use lib.ListN.{length}
use borrow.Author.Tests.{eqb-true, eq-eqb, ltb-true}
use Rattle.facts.specs.declared.Fact.{Fact}
use Rattle.facts.specs.declared.Fact.TheVariants.{Holds, CrewHolds, Member}
use Rattle.sizes.specs.Sizes.{values_of, is_person, is_crew, is_value, value_count, fact_count}
use Rattle.sizes.proofs.SizeLaws.{value_in, facts_are}
use Rattle.quantifiers.proofs.BoolLaws.{and_both, and_from}
use Rattle.frames.specs.Book.{Contents}
use Rattle.frames.specs.Inner.Fits.{in_sizes, Admitted}
use Rattle.requests.proofs.RequestLaws.{well_formed_fact}
use Rattle.theory.specs.Inner.Facts.{State, ◌⊆◌, update}
use Rattle.quantifiers.specs.Quantifiers.{one_if, count_below, sum_below}
use Rattle.quantifiers.specs.Inner.Lists.{Each}
use Rattle.theory.proofs.FactLaws.{update_same, update_other, at, count_update}
use Rattle.quantifiers.proofs.BelowLaws.{count_le, count_mono, sum_most}
use Rattle.theory.specs.Inner.Plan.{Ask, Req, req, apply, end, Runs, World, Step, Plan}
use Rattle.reach.specs.Inner.Tracked.{person_level, tracked, number_of, fact_at, is_number, track, bytes_of, asked, May}
use Rattle.reach.specs.Inner.Goal.{bad}
use Rattle.reach.proofs.TrackLaws.{tracked_value, tracked_crew, tracked-member, fact_tracked, track_at}
use Rattle.reach.specs.Inner.Depot.{depot}

-- ---------------------------------------------------------------- counting

-- A set without a number at or above a bound has no more than the bound.
few : (S : State) (m n : ℕ) → ((i : ℕ) → i < n → S i ≡ true → i < m) → count_below S n ≤ m
unfolding count_below
few S m zero h = omega arith
few S m (suc n) h = by_last (S n) refl (few S m n (λ i l t. h i (omega arith) t))
  where
    by_last : (x : Bool) → S n ≡ x → count_below S n ≤ m → count_below S n + one_if x ≤ m
    by_last true e rest = omega (arith, count_le S n, h n (omega arith) e)
    by_last false e rest = omega (arith, rest)

-- A count in two parts.
count_split : (S : State) (m n : ℕ) → count_below S (m + n) ≡ count_below S m + count_below (λ i. S (m + i)) n
unfolding count_below
count_split S m zero = let e : m + 0 ≡ m = omega arith in omega (arith, ap (count_below S) e)
count_split S m (suc n) = let e : m + suc n ≡ suc (m + n) = omega arith in omega (arith, ap (count_below S) e, count_split S m n)

-- Where nothing lies at or above a bound, counting stops there.
cap : (S : State) (m n : ℕ) → m ≤ n → ((i : ℕ) → i < n → S i ≡ true → i < m) → count_below S n ≤ count_below S m
cap S m n le h =
    let e : m + (n - m) ≡ n = omega arith in
    let z = few (λ i. S (m + i)) 0 (n - m) (λ i l t. absurd (omega (arith, h (m + i) (omega arith) t))) in
    omega (arith, ap (count_below S) e, count_split S m (n - m), z)

-- Blocks of one width, each with a bound of its own.
blocks : (S : State) (w : ℕ) (m : ℕ → ℕ) (n : ℕ) → ((k : ℕ) → k < n → count_below (λ i. S (w * k + i)) w ≤ m k) → count_below S (w * n) ≤ sum_below m n
unfolding count_below sum_below
blocks S w m zero h = let e : w * 0 ≡ 0 = omega arith in omega (arith, ap (count_below S) e)
blocks S w m (suc n) h =
    let e : w * suc n ≡ w * n + w = omega arith in
    omega (arith, ap (count_below S) e, count_split S (w * n) w, h n (omega arith), blocks S w m n (λ k l. h k (omega arith)))

-- ---------------------------------------------------------------- requests on the facts of a set

-- The facts of a state that are in a set.
abbrev in_set : State → State → State
in_set S I g = S g && I g

in_set_in : (S I : State) → in_set S I ⊆ I
in_set_in S I f = right (S f) (I f)
  where
    right : (x y : Bool) → x && y ≡ true → y ≡ true
    right true y e = e
    right false y e = absurd (true≢false (sym e))

in_set-update : (S I : State) (f : ℕ) (on : Bool) → I f ≡ true → in_set (update S f on) I ≡ update (in_set S I) f on
in_set-update S I f on h =
    fun_ext λ g. at (λ g. (update S f on g && I g) ≡ update (in_set S I) f on g) f g (rw (update_same, update_same, h) (and-true on))
    (λ n. rw (update_other, update_other) refl)

-- Requests on facts of the set alone; no request is about a fact outside the first F.
module _ (W : World) (known : (S : State) (on : Bool) (q : Ask) → W.May S (req on q) → q.fact < W.F) (I : State) where
  -- Each request that changes a fact of the set changes the count by one.
  counted : (S : State) (on : Bool) (q : Ask) → I q.fact ≡ true → Step W S (req on q)
      → count_below (in_set (update S q.fact on) I) W.F + one_if (in_set S I q.fact) ≡ count_below (in_set S I) W.F + one_if on
  counted S on q i m = rw (in_set-update S I q.fact on i) (count_update (in_set S I) q.fact on W.F (known S on q m.may))

  additions : (S : State) (us : List Ask) → Each (λ q. I q.fact ≡ true) us → Runs (Step W) S (map (req true) us)
      → count_below (in_set S I) W.F + length us ≤ count_below I W.F
  unfolding Each
  additions S [] i r = omega (arith, count_mono (in_set_in S I) W.F)
  additions S (q ∷ us) i r =
      let none : one_if (in_set S I q.fact) ≡ 0 = rw r.0.new refl in
      omega (arith, counted S true q i.0 r.0, none, additions (update S q.fact true) us i.1 r.1)

  deletions : (S : State) (ds : List Ask) → Each (λ q. I q.fact ≡ true) ds → Runs (Step W) S (map (req false) ds)
      → length ds ≤ count_below (in_set S I) W.F
  unfolding Each
  deletions S [] i r = omega arith
  deletions S (q ∷ ds) i r =
      let one : one_if (in_set S I q.fact) ≡ 1 = rw (r.0.new, i.0) refl in
      omega (arith, counted S false q i.0 r.0, one, deletions (update S q.fact false) ds i.1 r.1)

-- A chain in two parts runs in both.
pub runs_first : (P : State → Req → Type 0) (S : State) (xs ys : List Req) → Runs P S (xs ++ ys) → Runs P S xs
runs_first P S [] ys r = tt
runs_first P S (x ∷ xs) ys r = (r.0, runs_first P (apply S x) xs ys r.1)

pub runs_last : (P : State → Req → Type 0) (S : State) (xs ys : List Req) → Runs P S (xs ++ ys) → Runs P (end S xs) ys
runs_last P S [] ys r = r
runs_last P S (x ∷ xs) ys r = runs_last P (apply S x) xs ys r.1

-- ---------------------------------------------------------------- the facts within the sizes

module _ (b : Contents) where
  -- The tracked facts within the sizes, by number.
  abbrev inside : State
  inside = track b (in_sizes b.sizes)

  -- What such a number is: value v of attribute a at a crew's level or the person's, or a membership at the person's.
  record Shape (g : ℕ) : Type 0 where
    low : g / 160 ≤ b.sizes.crews
    attr : g % 160 < 128 → g % 160 < 16 * b.sizes.attrs
    value : g % 160 < 128 → g % 160 % 16 < values_of b.sizes (g % 160 / 16)
    crew : 128 ≤ g % 160 → (g / 160 ≡ b.sizes.crews) × (g % 160 < 128 + b.sizes.crews)

  shape_value : (k a v : ℕ) → k ≤ b.sizes.crews → a < 8 → v < 16 → a < b.sizes.attrs → v < values_of b.sizes a → Shape (160 * k + (16 * a + v))
  shape_value k a v l m n i j =
      let g : (160 * k + (16 * a + v)) / 160 ≡ k = omega arith in
      let f : (160 * k + (16 * a + v)) % 160 ≡ 16 * a + v = omega arith in
      let d : (16 * a + v) % 16 ≡ v = omega arith in
      let e : (16 * a + v) / 16 ≡ a = omega arith in
      record {
        low = rw g l;
        attr = λ _. rw f (omega arith);
        value = λ _. rw (f, d, e) j;
        crew = λ h. absurd (omega (arith, f));
      }

  shape_fact : (f : Fact) → tracked b f ≡ true → in_sizes b.sizes f ≡ true → Shape (number_of b f)
  unfolding number_of in_sizes
  shape_fact (Holds p a v) t e =
      let s = tracked_value b p a v t in
      let i = value_in b.sizes a.0 v (and_both (is_person b.sizes p.0) (is_value b.sizes a.0 v) e).1 in
      shape_value (person_level b) a.0 v (omega arith) s.1.0 s.1.1 i.0 i.1
  shape_fact (CrewHolds c a v) t e =
      let s = tracked_crew b c a v t in
      let i = value_in b.sizes a.0 v (and_both (is_crew b.sizes c.0) (is_value b.sizes a.0 v) e).1 in
      shape_value c.0 a.0 v (omega (arith, s.0)) s.1.0 s.1.1 i.0 i.1
  shape_fact (Member p c) t e =
      let s = tracked-member b p c t in
      let i : c.0 < b.sizes.crews = ltb-true c.0 b.sizes.crews (and_both (is_person b.sizes p.0) (is_crew b.sizes c.0) e).1 in
      let g : (160 * person_level b + (128 + c.0)) / 160 ≡ person_level b = omega (arith, s.1) in
      let f : (160 * person_level b + (128 + c.0)) % 160 ≡ 128 + c.0 = omega (arith, s.1) in
      record {
        low = omega (arith, g);
        attr = λ h. absurd (omega (arith, f));
        value = λ h. absurd (omega (arith, f));
        crew = λ h. (g, omega (arith, f, i));
      }

  shape : (g : ℕ) → inside g ≡ true → Shape g
  unfolding track
  shape g e =
      let both = and_both (is_number b g) (in_sizes b.sizes (fact_at b (g / 160) (g % 160))) e in
      let f = fact_tracked b g both.0 in
      subst Shape f.1 (shape_fact (fact_at b (g / 160) (g % 160)) f.0 both.1)

  -- A permitted request is about one of them.
  inside_may : (S : State) (on : Bool) (q : Ask) → May b S on q → inside q.fact ≡ true
  inside_may S on q m =
      rw (← m.number) (track_at b (in_sizes b.sizes) (asked q).fact m.of_fact ∙ well_formed_fact b.sizes (bytes_of q) m.formed)

  module _ (ok : Admitted b) where
    -- The values of a level.
    level-values : (k : ℕ) → count_below (λ i. inside (160 * k + i)) 128 ≤ value_count b.sizes
    level-values k =
        let top = cap (λ i. inside (160 * k + i)) (16 * b.sizes.attrs) 128 (omega (arith, ok.sized.attrs_most))
        (λ i l t. let f : (160 * k + i) % 160 ≡ i = omega arith in omega (arith, f, (shape (160 * k + i) t).attr (omega (arith, f)))) in
        let rows = blocks (λ i. inside (160 * k + i)) 16 (values_of b.sizes) b.sizes.attrs
        (λ a l. few (λ i. inside (160 * k + (16 * a + i))) (values_of b.sizes a) 16
        (λ i m t.
        let f : (160 * k + (16 * a + i)) % 160 ≡ 16 * a + i = omega (arith, ok.sized.attrs_most) in
        let d : (16 * a + i) % 16 ≡ i = omega arith in
        let e : (16 * a + i) / 16 ≡ a = omega arith in
        let own : (160 * k + (16 * a + i)) % 160 % 16 < values_of b.sizes ((160 * k + (16 * a + i)) % 160 / 16) =
        (shape (160 * k + (16 * a + i)) t).value (omega (arith, f, ok.sized.attrs_most)) in
        rw (f, d, e) at own)) in
        omega (arith, top, rows)

    -- A crew's level.
    level-crew : (k : ℕ) → k < b.sizes.crews → count_below (λ i. inside (160 * k + i)) 160 ≤ value_count b.sizes
    level-crew k l =
        let top = cap (λ i. inside (160 * k + i)) 128 160 (omega arith)
        (λ i m t.
        let g : (160 * k + i) / 160 ≡ k = omega arith in
        let f : (160 * k + i) % 160 ≡ i = omega arith in
        dite (dec_lt i 128) (λ (n : i < 128). n) (λ (n : i < 128 → ⊥). absurd (omega (arith, g, ((shape (160 * k + i) t).crew (omega (arith, f))).0)))) in
        omega (arith, top, level-values k)

    -- The person's level.
    pub level-person : count_below (λ i. inside (160 * b.sizes.crews + i)) 160 ≤ value_count b.sizes + b.sizes.crews
    level-person =
        let k = b.sizes.crews in
        let members = few (λ i. inside (160 * k + (128 + i))) k 32
        (λ i m t.
        let f : (160 * k + (128 + i)) % 160 ≡ 128 + i = omega arith in
        omega (arith, f, ((shape (160 * k + (128 + i)) t).crew (omega (arith, f))).1)) in
        omega (arith, count_split (λ i. inside (160 * k + i)) 128 32, members, level-values k)

    -- The tracked facts within the sizes are no more than the paper's count.
    pub inside-few : count_below inside 5280 ≤ fact_count b.sizes
    inside-few =
        let k = b.sizes.crews in
        let n = value_count b.sizes in
        let top = cap inside (160 * k + 160) 5280 (omega (arith, ok.sized.crews_most)) (λ g l t. omega (arith, (shape g t).low)) in
        let crews = blocks inside 160 (λ _. n) k level-crew in
        let whole : count_below inside 5280 ≤ (1 + k) * n + k =
        omega (arith, top, count_split inside (160 * k) 160, crews, sum_most (λ _. n) n k (λ i l. omega arith), level-person) in
        rw (facts_are b.sizes) whole

    in-depot : (S : State) (on : Bool) (q : Ask) → (depot b).May S (req on q) → q.fact < 5280
    in-depot S on q m = m.bounded

    -- Requests that run are about such facts.
    all-inside : (on : Bool) (S : State) (qs : List Ask) → Runs (Step (depot b)) S (map (req on) qs) → Each (λ q. inside q.fact ≡ true) qs
    unfolding Each
    all-inside on S [] r = tt
    all-inside on S (q ∷ qs) r = (inside_may S on q r.0.may, all-inside on (update S q.fact on) qs r.1)

    -- Additions that each change the state are no more than the paper's count of facts.
    pub additions-few : (S : State) (us : List Ask) → Runs (Step (depot b)) S (map (req true) us) → length us ≤ fact_count b.sizes
    additions-few S us r = omega (arith, additions (depot b) in-depot inside S us (all-inside true S us r) r, inside-few)

    -- So are deletions.
    pub deletions-few : (S : State) (ds : List Ask) → Runs (Step (depot b)) S (map (req false) ds) → length ds ≤ fact_count b.sizes
    deletions-few S ds r =
        omega (arith, deletions (depot b) in-depot inside S ds (all-inside false S ds r) r, count_mono (in_set_in S inside) 5280, inside-few)

    -- Additions on the query's person alone are no more than the person's values and crews.
    abbrev own : State
    own g = inside g && eqb (g / 160) (person_level b)

    own_count : count_below own 5280 ≤ value_count b.sizes + b.sizes.crews
    own_count =
        let k = b.sizes.crews in
        let at_level : (g : ℕ) → own g ≡ true → g / 160 ≡ k = λ g t. eqb-true (g / 160) k (and_both (inside g) (eqb (g / 160) k) t).1 in
        let top = cap own (160 * k + 160) 5280 (omega (arith, ok.sized.crews_most)) (λ g l t. omega (arith, at_level g t)) in
        let crews = few own 0 (160 * k) (λ g l t. absurd (omega (arith, at_level g t))) in
        let person = count_mono (λ i t. (and_both (inside (160 * k + i)) (eqb ((160 * k + i) / 160) k) t).0) 160 in
        omega (arith, top, count_split own (160 * k) 160, crews, person, level-person)

    pub own-additions-few : (S : State) (us : List Ask) → Runs (Step (depot b)) S (map (req true) us) → Each (λ q. q.fact / 160 ≡ person_level b) us
        → length us ≤ value_count b.sizes + b.sizes.crews
    unfolding Each
    own-additions-few S us r on_level = omega (arith, additions (depot b) in-depot own S us (all_own us (all-inside true S us r) on_level) r, own_count)
      where
        all_own : (qs : List Ask) → Each (λ q. inside q.fact ≡ true) qs → Each (λ q. q.fact / 160 ≡ person_level b) qs → Each (λ q. own q.fact ≡ true) qs
        all_own [] i l = tt
        all_own (q ∷ qs) i l = (and_from _ _ i.0 (eq-eqb (q.fact / 160) (person_level b) l.0), all_own qs i.1 l.1)

    -- A plan has at most two requests for each fact.
    pub plan-few : (S₀ : State) {us ds : List Ask} → Plan (depot b) (bad b) S₀ us ds → length us + length ds ≤ 2 * fact_count b.sizes
    plan-few S₀ {us} {ds} p =
        let ups = runs_first (Step (depot b)) S₀ (map (req true) us) (map (req false) ds) p.runs in
        let downs = runs_last (Step (depot b)) S₀ (map (req true) us) (map (req false) ds) p.runs in
        omega (arith, additions-few S₀ us ups, deletions-few (end S₀ (map (req true) us)) ds downs)
