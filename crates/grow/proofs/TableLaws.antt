-- Laws of the tables: what the tests tell, and the invariants of the two sweeps with their steps. Both sweeps begin again after a fact put in: below
-- the place where they stand nothing is new, or free. In the end that is so of all.
use mathlib.Core.Path.{◌≡◌, refl, sym, ap, fun_ext, ◌∙◌}
use mathlib.Core.Logic.{◌≢◌, by_cases}
use mathlib.Core.Bool.{Bool, true, false, not, ◌&&◌, true≢false}
use mathlib.Core.List.{List}
use Prim.Native.Nat.{ℕ, suc, ◌+◌, ◌-◌, ◌*◌, ◌/◌, ◌≤◌, ◌<◌}
use native.Mathlib.Decide.{dec_lt}
use native.Mathlib.Omega.{arith}
use native.Mathlib.Numerals.{add-one}
use lib.Dec.{eqb, ltb}
use lib.ListN.{length, set, take, length-set}
use lib.Seq.{get_or-set_same, get_or-set_other, length-take-le, take-suc-set}
use borrow.Author.Tests.{ltb-true, lt-ltb, le-ltb, eqb-true, eqb-false, eq-eqb, ne_eqb, not-true, not-false}
use Rattle.quantifiers.specs.Quantifiers.{any_below, one_if, count_below}
use Rattle.quantifiers.proofs.BoolLaws.{and_both, by_test, not_on}
use Rattle.quantifiers.proofs.BelowLaws.{any_from_lem, any_cases, any_none, any_false, count_le}
use Rattle.theory.specs.Inner.Facts.{State, ◌⊆◌, update}
use Rattle.theory.proofs.FactLaws.{update_same, update_other, update_more, at, minus_in, minus_clear, count_update}
use Rattle.shown.specs.Inner.Shown.{direct}
use Rattle.shown.proofs.ShownLaws.{direct_low, direct_high, direct_in}
use Rattle.build.specs.Inner.Build.{Lacks}
use Rattle.build.proofs.BuildLaws.{not_lacking}
use Rattle.growth.specs.Inner.Growth.{May}
use Rattle.growth.specs.Inner.Peeling.{Needed, Closed, Left, Free, Peeled}
use Rattle.growth.proofs.GrowthLaws.{both_ways}
use Rattle.growth.proofs.PeelingLaws.{needed_first, needed_more, peeled_more, peeled_room, way_found, stuck}
use Rattle.grow.specs.Inner.Tables.{term, flag, says, rules_in, new_at, fails_at, unmet_at, bars_at, free_at, Gathered, Added, Answer}

-- ---------------------------------------------------------------- flags and terms

-- A flag set is a fact put in.
pub direct_set_lem : (x : List Bool) (f : ℕ) → length x ≡ 160 → f < 160 → direct (set x f true) ≡ update (direct x) f true
direct_set_lem x f size h = fun_ext λ g. at (λ g. direct (set x f true) g ≡ update (direct x) f true g) f g
    (direct_low (set x f true) f h ∙ get_or-set_same x f true false (omega arith) ∙ sym (update_same (direct x) f true))
    (λ n. by_cases (dec_lt g 160)
    (λ l. direct_low (set x f true) g l ∙ get_or-set_other x f g true false n ∙ sym (direct_low x g l))
    (λ l. direct_high (set x f true) g (omega arith) ∙ sym (direct_high x g (omega arith)))
    ∙ sym (update_other (direct x) f true n))

-- The rule of f has the term k where one of its eight is k.
pub says_from : (ts : List ℕ) (f k j : ℕ) → j < 8 → term ts (8 * f + j) ≡ k → says ts f k ≡ true
unfolding says
says_from ts f k j l e = any_from_lem (λ j. eqb (term ts (8 * f + j)) k) 8 j (eq-eqb (term ts (8 * f + j)) k e) l

pub says_cases : (ts : List ℕ) (f k : ℕ) → says ts f k ≡ true → (j : ℕ) × ((j < 8) × (term ts (8 * f + j) ≡ k))
unfolding says
says_cases ts f k e =
    let one = any_cases (λ j. eqb (term ts (8 * f + j)) k) 8 e in
    (one.0, (one.1.0, eqb-true (term ts (8 * f + one.0)) k one.1.1))

-- ---------------------------------------------------------------- what is needed

-- What the test tells of a term.
pub record New (ts : List ℕ) (s d : List Bool) (i : ℕ) : Type 0 where
  pub low : term ts i < 160
  pub due : direct d (i / 8) ≡ true
  pub new : direct s (i / 8) ≡ false
  pub says : says ts (i / 8) (term ts i) ≡ true
  pub lacks : direct d (term ts i) ≡ false

module _ (ts : List ℕ) (s d : List Bool) (i : ℕ) (h : i < 1280) where
  pub new_parts : new_at ts s d i ≡ true → New ts s d i
  unfolding new_at
  new_parts e =
      let one = and_both (ltb (term ts i) 160) (flag d (i / 8) && not (flag s (i / 8)) && not (flag d (term ts i))) e in
      let two = and_both (flag d (i / 8) && not (flag s (i / 8))) (not (flag d (term ts i))) one.1 in
      let three = and_both (flag d (i / 8)) (not (flag s (i / 8))) two.0 in
      let low : term ts i < 160 = ltb-true (term ts i) 160 one.0 in
      let place : 8 * (i / 8) + (i - 8 * (i / 8)) ≡ i = omega arith in
      record {
        low = low;
        due = direct_low d (i / 8) (omega arith) ∙ three.0;
        new = direct_low s (i / 8) (omega arith) ∙ not-true (flag s (i / 8)) three.1;
        says = says_from ts (i / 8) (term ts i) (i - 8 * (i / 8)) (omega arith) (ap (term ts) place);
        lacks = direct_low d (term ts i) low ∙ not-true (flag d (term ts i)) two.1;
      }

  new_none : new_at ts s d i ≡ false → direct d (i / 8) ≡ true → direct s (i / 8) ≡ false → term ts i < 160 → direct d (term ts i) ≡ true
  unfolding new_at
  new_none e due new low = by_test (direct d (term ts i)) (λ t. t) (λ t. absurd (both_ways
      (rw (
        lt-ltb (term ts i) 160 low,
        sym (direct_low d (i / 8) (omega arith)) ∙ due,
        sym (direct_low s (i / 8) (omega arith)) ∙ new,
        sym (direct_low d (term ts i) low) ∙ t,
      )
      refl)
      e))

-- The outcomes of the test, as the code finds them.
module _ (ts : List ℕ) (s d : List Bool) (i : ℕ) {g : ℕ} (is : g ≡ term ts i) where
  pub new_low : g < 160 → (flag d (i / 8) && not (flag s (i / 8)) && not (flag d g)) ≡ new_at ts s d i
  unfolding new_at
  new_low l = rw (is, lt-ltb (term ts i) 160 (rw (← is) l)) refl

  pub new_high : 160 ≤ g → false ≡ new_at ts s d i
  unfolding new_at
  new_high l = rw (le-ltb (term ts i) 160 (rw (← is) l))

-- What the first sweep keeps: needed facts alone were put in, and below term i nothing new is asked for.
pub record Gathering (ts : List ℕ) (s d₀ d : List Bool) (i : ℕ) : Type 0 where
  pub size : length d ≡ 160
  pub fits : i ≤ 1280
  pub from : direct d₀ ⊆ direct d
  pub needed : (us : List Bool) (W : State) → Needed (rules_in us ts) (direct s) W (direct d₀) → Needed (rules_in us ts) (direct s) W (direct d)
  pub quiet : (k : ℕ) → k < i → new_at ts s d k ≡ false

-- What is left to do: a fact put in begins the sweep again, and there are 160.
abbrev pub gather_left : List Bool → ℕ → ℕ
gather_left d i = (160 - count_below (direct d) 160) * 1281 + (1280 - i)

module _ {ts : List ℕ} {s d₀ d : List Bool} {i : ℕ} (k : Gathering ts s d₀ d i) (h : i < 1280) where
  module _ (e : new_at ts s d i ≡ true) where
    is : New ts s d i
    is = new_parts ts s d i h e

    put_in : direct (set d (term ts i) true) ≡ update (direct d) (term ts i) true
    put_in = direct_set_lem d (term ts i) k.size is.low

    pub gathering-more : Gathering ts s d₀ (set d (term ts i) true) 0
    gathering-more =
        record {
          size = simp length-set k.size;
          fits = omega arith;
          from = λ f t. ap (λ (S : State). S f) put_in ∙ update_more (direct d) (term ts i) f (k.from f t);
          needed = λ us W n.
              rw put_in (needed_more (rules_in us ts) (direct s) W (i / 8) (term ts i) is.due is.new (is.low, is.says) (k.needed us W n));
          quiet = λ j m. absurd (omega arith);
        }

    pub gather-less : gather_left (set d (term ts i) true) 0 < gather_left d i
    gather-less =
        rw put_in (go (count_below (direct d) 160) (count_below (update (direct d) (term ts i) true) 160) i
        (omega (arith, count_update (direct d) (term ts i) true 160 is.low, ap one_if is.lacks)) (count_le (update (direct d) (term ts i) true) 160))
      where
        go : (a b i : ℕ) → b ≡ a + 1 → b ≤ 160 → (160 - b) * 1281 + (1280 - 0) < (160 - a) * 1281 + (1280 - i)
        go a b i e l =
            let n : 160 - a ≡ suc (160 - b) = omega arith in
            rw n (omega arith)

pub gathering_ends : {ts : List ℕ} {s d₀ d : List Bool} {i : ℕ} → Gathering ts s d₀ d i → 1280 ≤ i → Gathered ts s d₀ d
gathering_ends {ts} {s} {d₀} {d} {i} k l =
    record {
      size = k.size;
      from = k.from;
      needed = k.needed;
      closed = λ us f g due new a. go f g (direct_in d f due) due new a.0 (says_cases ts f g a.1);
    }
  where
    go : (f g : ℕ) → f < 160 → direct d f ≡ true → direct s f ≡ false → g < 160
        → (j : ℕ) × ((j < 8) × (term ts (8 * f + j) ≡ g)) → direct d g ≡ true
    go f g h due new low one =
        let m : 8 * f + one.0 < 1280 = omega (arith, one.1.0) in
        let own : (8 * f + one.0) / 8 ≡ f = omega (arith, one.1.0) in
        rw (← one.1.1) (new_none ts s d (8 * f + one.0) m (k.quiet (8 * f + one.0) (omega arith)) (rw own due) (rw own new) (rw one.1.1 low))

-- ---------------------------------------------------------------- what may be added

module _ (ts : List ℕ) (x : List Bool) (i : ℕ) {g : ℕ} (is : g ≡ term ts i) where
  -- The outcomes of the test of a term, as the code finds them.
  pub fails_low : g < 160 → not (flag x g) ≡ fails_at ts x i
  unfolding fails_at
  fails_low l = rw (is, lt-ltb (term ts i) 160 (rw (← is) l)) refl

  pub fails_middle : 160 ≤ g → g < 320 → flag x (g - 160) ≡ fails_at ts x i
  unfolding fails_at
  fails_middle l m = rw (is, le-ltb (term ts i) 160 (rw (← is) l), lt-ltb (term ts i) 320 (rw (← is) m)) refl

  pub fails_high : 320 ≤ g → false ≡ fails_at ts x i
  unfolding fails_at
  fails_high l =
      let m : 320 ≤ term ts i = rw (← is) l in
      rw (le-ltb (term ts i) 160 (omega arith), le-ltb (term ts i) 320 m)

module _ (us : List Bool) (ts : List ℕ) (x : List Bool) (f : ℕ) where
  -- Where no term of the rule of f fails, f may be added.
  may_of : f < 160 → flag us f ≡ true → unmet_at ts x f ≡ false → May (rules_in us ts) (direct x) f
  may_of h u met =
      record {
        rule = (h, u);
        held = λ g a.
            let one = says_cases ts f g a.1 in
            direct_low x g a.0 ∙ not-false (flag x g) (fails_low ts x (8 * f + one.0) (sym one.1.1) a.0 ∙ passes one.0 one.1.0);
        lacking = λ g b.
            let one = says_cases ts f (160 + g) b.1 in
            let n : 160 + g - 160 ≡ g = omega arith in
            direct_low x g b.0 ∙ ap (flag x) (sym n)
            ∙ fails_middle ts x (8 * f + one.0) (sym one.1.1) (omega arith) (omega (arith, b.0)) ∙ passes one.0 one.1.0;
      }
    where
      passes : (j : ℕ) → j < 8 → fails_at ts x (8 * f + j) ≡ false
      passes j l = any_none (λ j. fails_at ts x (8 * f + j)) 8 j met l

  -- Where it may be added, none fails.
  met_of : May (rules_in us ts) (direct x) f → unmet_at ts x f ≡ false
  met_of m = any_false (λ j. fails_at ts x (8 * f + j)) 8 passes
    where
      passes : (j : ℕ) → j < 8 → fails_at ts x (8 * f + j) ≡ false
      passes j l = by_cases (dec_lt g 160) asked (λ more. by_cases (dec_lt g 320) (barred more) none)
        where
          g : ℕ
          g = term ts (8 * f + j)

          asked : g < 160 → fails_at ts x (8 * f + j) ≡ false
          asked low =
              sym (fails_low ts x (8 * f + j) refl low) ∙ ap not (sym (direct_low x g low) ∙ m.held g (low, says_from ts f g j l refl))

          barred : (g < 160 → ⊥) → g < 320 → fails_at ts x (8 * f + j) ≡ false
          barred more low =
              let n : g ≡ 160 + (g - 160) = omega arith in
              sym (fails_middle ts x (8 * f + j) refl (omega arith) low)
              ∙ sym (direct_low x (g - 160) (omega arith)) ∙ m.lacking (g - 160) (omega arith, says_from ts f (160 + (g - 160)) j l n)

          none : (g < 320 → ⊥) → fails_at ts x (8 * f + j) ≡ false
          none more = sym (fails_high ts x (8 * f + j) refl (omega arith))

-- ---------------------------------------------------------------- a free fact

module _ (us : List Bool) (ts : List ℕ) (d x : List Bool) (f : ℕ) (h : f < 160) where
  -- Another fact still to come bars f.
  bars_parts : (g : ℕ) → g < 160 → bars_at ts d x f g ≡ true → (g ≢ f) × (Left (direct d) (direct x) g × ((rules_in us ts).bars g f))
  unfolding bars_at
  bars_parts g l e =
      let one = and_both (not (eqb g f) && flag d g && not (flag x g)) (says ts g (160 + f)) e in
      let two = and_both (not (eqb g f) && flag d g) (not (flag x g)) one.0 in
      let three = and_both (not (eqb g f)) (flag d g) two.0 in (
        eqb-false g f (not-true (eqb g f) three.0),
        (record { due = direct_low d g l ∙ three.1; not_yet = direct_low x g l ∙ not-true (flag x g) two.1 }, (h, one.1)),
      )

  bars_from : (g : ℕ) → g ≢ f → Left (direct d) (direct x) g → (rules_in us ts).bars g f → bars_at ts d x f g ≡ true
  unfolding bars_at
  bars_from g other left b =
      let l : g < 160 = direct_in d g left.due in
      rw (ne_eqb g f other, sym (direct_low d g l) ∙ left.due, sym (direct_low x g l) ∙ left.not_yet, b.1) refl

  -- The test tells that a fact is free.
  pub free_of : free_at us ts d x f ≡ true → Free (rules_in us ts) (direct d) (direct x) f
  unfolding free_at
  free_of e =
      let one = and_both (flag d f && not (flag x f) && flag us f) (not (unmet_at ts x f) && not (any_below (bars_at ts d x f) 160)) e in
      let two = and_both (flag d f && not (flag x f)) (flag us f) one.0 in
      let three = and_both (flag d f) (not (flag x f)) two.0 in
      let four = and_both (not (unmet_at ts x f)) (not (any_below (bars_at ts d x f) 160)) one.1 in
      record {
        left = record { due = direct_low d f h ∙ three.0; not_yet = direct_low x f h ∙ not-true (flag x f) three.1 };
        may = may_of us ts x f h two.1 (not-true (unmet_at ts x f) four.0);
        unbarred = λ g left other b.
            both_ways (bars_from g other left b)
            (any_none (bars_at ts d x f) 160 g (not-true (any_below (bars_at ts d x f) 160) four.1) (direct_in d g left.due));
      }

  pub free_in : Free (rules_in us ts) (direct d) (direct x) f → free_at us ts d x f ≡ true
  unfolding free_at
  free_in free =
      rw (
        sym (direct_low d f h) ∙ free.left.due,
        sym (direct_low x f h) ∙ free.left.not_yet,
        free.may.rule.1,
        met_of us ts x f free.may,
        any_false (bars_at ts d x f) 160 (λ g l. not_on (bars_at ts d x f g) (λ e.
            let parts = bars_parts g l e in free.unbarred g parts.1.0 parts.0 parts.1.1)),
      )
      refl

-- The outcomes of the two tests, as the code finds them.
module _ (ts : List ℕ) (d x : List Bool) (f h : ℕ) where
  pub bars_left : {b : Bool} → (not (eqb h f) && flag d h && not (flag x h)) ≡ true → b ≡ says ts h (160 + f) → b ≡ bars_at ts d x f h
  unfolding bars_at
  bars_left left e = rw left e

  pub bars_idle : (not (eqb h f) && flag d h && not (flag x h)) ≡ false → false ≡ bars_at ts d x f h
  unfolding bars_at
  bars_idle idle = rw idle

module _ (us : List Bool) (ts : List ℕ) (d x : List Bool) (f : ℕ) where
  pub free_idle : (flag d f && not (flag x f) && flag us f) ≡ false → false ≡ free_at us ts d x f
  unfolding free_at
  free_idle idle = rw idle

  module _ (left : (flag d f && not (flag x f) && flag us f) ≡ true) where
    pub free-unmet : unmet_at ts x f ≡ true → false ≡ free_at us ts d x f
    unfolding free_at
    free-unmet e = rw (left, e)

    pub free-met : {b : Bool} → unmet_at ts x f ≡ false → b ≡ any_below (bars_at ts d x f) 160 → not b ≡ free_at us ts d x f
    unfolding free_at
    free-met met e = rw (left, met) (ap not e)

-- ---------------------------------------------------------------- the additions

-- What the second sweep keeps: the additions so far, and below f nothing is free.
pub record Adding (us : List Bool) (ts : List ℕ) (d x₀ x : List Bool) (order : List ℕ) (n f : ℕ) : Type 0 where
  pub size : length x ≡ 160
  pub size_order : length order ≡ 160
  pub fits : f ≤ 160
  pub noted : n ≤ 160
  pub peeled : Peeled (rules_in us ts) (direct x₀) (direct d) (direct x) (take n order)
  pub quiet : (g : ℕ) → g < f → free_at us ts d x g ≡ false

module _ {us : List Bool} {ts : List ℕ} {d x₀ x : List Bool} {order : List ℕ} {n f : ℕ} (k : Adding us ts d x₀ x order n f) (h : f < 160) where
  module _ (e : free_at us ts d x f ≡ true) where
    free : Free (rules_in us ts) (direct d) (direct x) f
    free = free_of us ts d x f h e

    -- There is room for one more.
    pub adding-room : n < 160
    adding-room = omega (arith, peeled_room (rules_in us ts) (direct x₀) k.peeled free, length-take-le n order (rw k.size_order k.noted))

    pub adding-more : Adding us ts d x₀ (set x f true) (set order n f) (n + 1) 0
    adding-more =
        let r : n < 160 = adding-room in
        let o : n < length order = rw k.size_order r in
        record {
          size = simp length-set k.size;
          size_order = simp length-set k.size_order;
          fits = omega arith;
          noted = omega arith;
          peeled = rw (add-one, direct_set_lem x f k.size h, take-suc-set) (peeled_more (rules_in us ts) (direct x₀) free k.peeled);
          quiet = λ g l. absurd (omega arith);
        }

pub adding_ends : {us : List Bool} {ts : List ℕ} {d x₀ x : List Bool} {order : List ℕ} {n f : ℕ} → Adding us ts d x₀ x order n f → 160 ≤ f
    → Added us ts d x₀ x order n
adding_ends {us} {ts} {d} {x₀} {x} k l =
    record {
      size = k.size;
      few = k.noted;
      peeled = k.peeled;
      done = λ g free.
          let h : g < 160 = free.may.rule.0 in
          both_ways (free_in us ts d x g h free) (k.quiet g (omega arith));
    }

-- What is left to do: an addition begins the sweep again, and there are at most 160.
abbrev pub adding_left : ℕ → ℕ → ℕ
adding_left n f = (160 - n) * 161 + (160 - f)

pub adding_less : (n f : ℕ) → n < 160 → adding_left (n + 1) 0 < adding_left n f
adding_less n f h =
    let e : 160 - n ≡ suc (160 - (n + 1)) = omega arith in
    rw e (omega arith)

-- ---------------------------------------------------------------- the answer

module _ (us : List Bool) (ts : List ℕ) (s w : List Bool) {d x : List Bool} {order : List ℕ} {n r : ℕ} (g : Gathered ts s w d)
    (a : Added us ts d s x order n) (m : Lacks d x r) where
  closed : Closed (rules_in us ts) (direct s) (direct w) (direct d)
  closed = record { wanted = g.from; asked = g.closed us }

  -- A needed fact is left: there is no way.
  pub answer_none : r < 160 → Answer us ts s w order false 0
  answer_none l =
      record {
        few = omega arith;
        way = λ e. absurd (true≢false (sym e));
        none = λ _.
            stuck (rules_in us ts) (direct s) (direct w) closed a.peeled
            (record { due = minus_in (direct d) (direct x) r (m.here l); not_yet = minus_clear (direct d) (direct x) r (m.here l) }) a.done
            (g.needed us (direct w) (needed_first (rules_in us ts) (direct s) (direct w)));
      }

  -- None is left: the additions are a way.
  pub answer_way : 160 ≤ r → Answer us ts s w order true n
  answer_way l =
      record {
        few = a.few;
        way = λ _.
            way_found (rules_in us ts) (direct s) (direct w) closed a.peeled (λ f e. not_lacking m f (omega (arith, direct_in d f e)) e);
        none = λ e. absurd (true≢false e);
      }
