-- The flags from place 320 on, whether a value or a higher one is effective: what one more fact does to them, and the loops that write them.
use mathlib.Core.Path.{◌≡◌, refl, sym, ap, subst, fun_ext, ◌∙◌}
use mathlib.Core.Logic.{dite}
use mathlib.Core.Bool.{Bool, true, false, not, ◌&&◌, ◌||◌, beq, and-false, or-false}
use mathlib.Core.List.{List}
use Prim.Native.Nat.{ℕ, ◌+◌, ◌-◌, ◌*◌, ◌/◌, ◌%◌, ◌≤◌, ◌<◌}
use native.Mathlib.Decide.{ℕ_discrete, dec_lt}
use native.Mathlib.Omega.{arith}
use lib.Dec.{eqb, leb}
use lib.ListN.{length, get_or, set, take, drop, length-set, length-drop}
use lib.Seq.{get_or-drop, get_or-set_same, get_or-set_other}
use borrow.Author.Tests.{eq-eqb, ne_eqb, eqb-true, leb-true, le-leb, lt-leb, lt-ltb, le-ltb}
use Rattle.std.specs.List.{list_any}
use Rattle.quantifiers.specs.Quantifiers.{any_below, any_from}
use Rattle.quantifiers.proofs.BoolLaws.{bool_eq, and_both, and_from}
use Rattle.quantifiers.proofs.ListLaws.{any-front}
use Rattle.quantifiers.proofs.PositionLaws.{any_list}
use Rattle.quantifiers.proofs.BelowLaws.{any_cases, any_from_lem, from_cases, from_end, from_found, from_lower, from_same, from_step}
use Rattle.shown.specs.Inner.Shown.{Extended, ExtendedAt, Falls, More, Put, Raised, Whole, WholeFacts, direct, extended, not_higher, row, touches, touches_fact}
use Rattle.shown.specs.Inner.Shown.{visible, visible_fact}
use Rattle.shown.proofs.ExtendedLaws.{extended_at, extended_low, extended-or, extended_same, higher_place}
use Rattle.shown.proofs.ShownLaws.{direct_low, direct_high}

-- ---------------------------------------------------------------- whole flags

visible_low : (T x : List Bool) (k : ℕ) → k < 320 → visible T (direct x) k ≡ visible_fact T (direct x) k
unfolding visible
visible_low T x k h = extended_low (visible_fact T (direct x)) k h

visible_is : (T x : List Bool) (k : ℕ) → visible T (direct x) k ≡ extended (visible_fact T (direct x)) k
unfolding visible
visible_is T x k = refl

-- Of whole flags, those from place 320 on follow from the others.
pub whole_extended : {T x : List Bool} → Whole T x → (k : ℕ) → k < 448 → get_or x k false ≡ extended (λ j. get_or x j false) k
whole_extended {T} {x} w k l =
    w.shows k l ∙ visible_is T x k
    ∙ extended_same (visible_fact T (direct x)) (λ j. get_or x j false) (λ j m. sym (w.shows j (omega arith) ∙ visible_low T x j m)) k l

-- What follows adds no direct fact.
pub extended-direct : {x z : List Bool} → Extended x z → direct z ≡ direct x
extended-direct {x} {z} e = fun_ext λ f. dite (dec_lt f 160)
    (λ (l : f < 160). direct_low z f l ∙ e.below f (omega arith) ∙ sym (direct_low x f l))
    (λ (l : f < 160 → ⊥). direct_high z f (omega arith) ∙ sym (direct_high x f (omega arith)))

-- Flags of facts, with what follows from them, are whole.
pub extended_whole : {T x z : List Bool} → WholeFacts T x → Extended x z → Whole T z
extended_whole {T} {x} {z} w e = record { size = e.size ∙ w.size; rows = w.rows; shows = shows }
  where
    facts : (k : ℕ) → k < 448 → extended (λ j. get_or x j false) k ≡ visible T (direct z) k
    facts k l = extended_same (λ j. get_or x j false) (visible_fact T (direct z))
        (λ j m. w.shows j m ∙ ap (λ S. visible_fact T S j) (sym (extended-direct e))) k l ∙ sym (visible_is T z k)

    shows : (k : ℕ) → k < 448 → get_or z k false ≡ visible T (direct z) k
    shows k l = dite (dec_lt k 320)
        (λ (m : k < 320). e.below k m ∙ sym (extended_low (λ j. get_or x j false) k m) ∙ facts k l)
        (λ (m : k < 320 → ⊥). e.above k (omega arith) l ∙ facts k l)

-- ---------------------------------------------------------------- one fact more

-- Where a flag from place 320 on stands, so do those of lower values; facts put in below change nothing there.
pub put_falls : {T x m : List Bool} {g : ℕ → Bool} → Whole T x → More x g m → Falls m
put_falls {T} {x} {m} {g} w p = record { size = p.size ∙ w.size; lower = lower }
  where
    flag : (a v : ℕ) → a < 8 → v < 16 → get_or m (320 + (16 * a + v)) false ≡ any_from (λ w. get_or x (160 + (16 * a + w)) false) v 16
    flag a v h l =
        p.rest (320 + (16 * a + v)) (omega arith) ∙ whole_extended w (320 + (16 * a + v)) (omega arith) ∙ extended_at (λ j. get_or x j false) a v l

    lower : (a v w : ℕ) → a < 8 → v ≤ w → w < 16 → get_or m (320 + (16 * a + w)) false ≡ true → get_or m (320 + (16 * a + v)) false ≡ true
    lower a v w h le l e =
        flag a v h (omega arith) ∙ from_lower (λ w. get_or x (160 + (16 * a + w)) false) v w 16 le (sym (flag a w h l) ∙ e)

-- What the value f adds at an effective place is f alone.
value_effective : (T : List Bool) (f j : ℕ) → f < 128 → touches_fact T f (160 + j) ≡ eqb j f
unfolding touches_fact
value_effective T f j h =
    let e : 160 + j - 160 ≡ j = omega arith in
    rw (le-ltb (160 + j) 160 (omega arith), lt-ltb f 128 h, e) (or-false (eqb j f))

-- A value adds, from place 320 on, the flags of itself and of the lower values of its attribute.
pub touch_not_higher : (T : List Bool) (f k : ℕ) → f < 128 → not_higher f k ≡ touches T f (320 + k)
unfolding touches not_higher
touch_not_higher T f k h =
    let a = k / 16 in
    let v = k % 16 in
    let small : v < 16 = omega arith in
    let adds : ℕ → Bool = λ w. touches_fact T f (160 + (16 * a + w)) in
    let stands : extended (touches_fact T f) (320 + k) ≡ any_from adds v 16 =
    ap (extended (touches_fact T f)) (sym (higher_place k)) ∙ extended_at (touches_fact T f) a v small in
    bool_eq (eqb (k / 16) (f / 16) && leb k f) (extended (touches_fact T f) (320 + k))
    (λ e.
    let both = and_both (eqb (k / 16) (f / 16)) (leb k f) e in
    let same : k / 16 ≡ f / 16 = eqb-true (k / 16) (f / 16) both.0 in
    let le : k ≤ f = leb-true k f both.1 in
    let place : 16 * (k / 16) + f % 16 ≡ f = omega arith in
    stands ∙ from_found adds v 16 (f % 16) (omega arith) (omega arith)
    (value_effective T f (16 * a + f % 16) h ∙ eq-eqb (16 * (k / 16) + f % 16) f place))
    (λ e.
    let found = from_cases adds v 16 (sym stands ∙ e) in
    let w = found.0 in
    let is : 16 * (k / 16) + w ≡ f = eqb-true (16 * (k / 16) + w) f (sym (value_effective T f (16 * a + w) h) ∙ found.1.1.1) in
    and_from (eqb (k / 16) (f / 16)) (leb k f)
    (eq-eqb (k / 16) (f / 16) (omega (arith, is, found.1.1.0))) (le-leb k f (omega (arith, is, found.1.0))))

-- A value is put in by its flags among the first 320, and by those of itself and of lower values from there on.
pub put_raised : {T x m z : List Bool} {f : ℕ} → Whole T x → More x (touches_fact T f) m → f < 128 → Raised f m z → Put T x f z
unfolding touches
put_raised {T} {x} {m} {z} {f} w p h r = record { size = r.size ∙ p.size; flags = flags }
  where
    low : (k : ℕ) → k < 320 → touches_fact T f k ≡ touches T f k
    low k l = sym (extended_low (touches_fact T f) k l)

    flags : (k : ℕ) → k < 448 → get_or z k false ≡ get_or x k false || touches T f k
    flags k l = dite (dec_lt k 320)
        (λ (i : k < 320). r.below k i ∙ p.flags k i ∙ ap (λ (b : Bool). get_or x k false || b) (low k i))
        (λ (i : k < 320 → ⊥).
        let q : 320 + (k - 320) ≡ k = omega arith in
        ap (λ j. get_or z j false) (sym q) ∙ r.above (k - 320) (omega arith) ∙ rw q (ap (λ (b : Bool). b || not_higher f (k - 320)) (p.rest k (omega arith)))
        ∙ ap (λ (b : Bool). get_or x k false || b) (touch_not_higher T f (k - 320) h ∙ ap (touches T f) q))

-- A membership is put in by its flags among the first 320, and by what follows from them.
pub put-extended : {T x m z : List Bool} {f : ℕ} → Whole T x → More x (touches_fact T f) m → Extended m z → Put T x f z
unfolding touches
put-extended {T} {x} {m} {z} {f} w p e = record { size = e.size ∙ p.size; flags = flags }
  where
    spread : (k : ℕ) → k < 448 → extended (λ j. get_or m j false) k ≡ get_or x k false || touches T f k
    spread k l =
        extended_same (λ j. get_or m j false) (λ j. get_or x j false || touches_fact T f j) (λ j i. p.flags j i) k l
        ∙ extended-or (λ j. get_or x j false) (touches_fact T f) k
        ∙ ap (λ (b : Bool). b || extended (touches_fact T f) k) (sym (whole_extended w k l))

    flags : (k : ℕ) → k < 448 → get_or z k false ≡ get_or x k false || touches T f k
    flags k l = dite (dec_lt k 320)
        (λ (i : k < 320). e.below k i ∙ sym (extended_low (λ j. get_or m j false) k i) ∙ spread k l)
        (λ (i : k < 320 → ⊥). e.above k (omega arith) l ∙ spread k l)

-- ---------------------------------------------------------------- what a membership adds from place 320 on, value by value

module _ (T : List Bool) (f k : ℕ) where
  -- Whether the crew of the membership hands on the value w of the attribute of place k.
  abbrev pub handed : ℕ → Bool
  handed w = get_or T (160 * (f - 128) + (16 * (k / 16) + w)) false

  touch_handed : 128 ≤ f → k < 128 → f < 160 → touches T f (320 + k) ≡ any_from handed (k % 16) 16
  unfolding touches touches_fact row
  touch_handed h l m =
      ap (extended (touches_fact T f)) (sym (higher_place k)) ∙ extended_at (touches_fact T f) (k / 16) (k % 16) (omega arith)
      ∙ from_same (λ w. touches_fact T f (160 + (16 * (k / 16) + w))) (λ w. get_or T (160 * (f - 128) + (16 * (k / 16) + w)) false) (k % 16) 16
      (λ w i.
      let e : 160 + (16 * (k / 16) + w) - 160 ≡ 16 * (k / 16) + w = omega arith in
      rw (le-ltb (160 + (16 * (k / 16) + w)) 160 (omega arith), le-ltb f 128 h, e, ne_eqb (16 * (k / 16) + w) f (omega arith)) refl)

  -- A membership adds what stands in the row of its crew from place k on, up to the highest value of its attribute: n flags from place m on.
  pub touch_handed_on : (m n : ℕ) → 128 ≤ f → f < 160 → k < 128 → length T ≡ 5280 → m ≡ 160 * (f - 128) + k → n ≡ 16 * (k / 16) + 16 - k
      → list_any (λ b. beq b true) (take n (drop m T)) ≡ touches T f (320 + k)
  touch_handed_on m n low f_fits k_fits size from all =
      any_list stands (take n (drop m T)) ∙ any-front stands false (drop m T) n (omega (arith, length-drop m T))
      ∙ bool_eq (any_below at n) (any_from handed (k % 16) 16) up down ∙ sym (touch_handed low k_fits f_fits)
    where
      stands : Bool → Bool
      stands b = beq b true

      stands_is : (b : Bool) → stands b ≡ b
      stands_is true = refl
      stands_is false = refl

      at : ℕ → Bool
      at j = stands (get_or (drop m T) j false)

      same : (j : ℕ) → at j ≡ handed (k % 16 + j)
      same j =
          let place : m + j ≡ 160 * (f - 128) + (16 * (k / 16) + (k % 16 + j)) = omega arith in
          stands_is (get_or (drop m T) j false) ∙ get_or-drop m T j false ∙ ap (λ (i : ℕ). get_or T i false) place

      up : any_below at n ≡ true → any_from handed (k % 16) 16 ≡ true
      up e =
          let found = any_cases at n e in
          from_found handed (k % 16) 16 (k % 16 + found.0) (omega arith) (omega (arith, found.1.0)) (sym (same found.0) ∙ found.1.1)

      down : any_from handed (k % 16) 16 ≡ true → any_below at n ≡ true
      down e =
          let found = from_cases handed (k % 16) 16 e in
          let w = found.0 in
          let on : k % 16 + (w - k % 16) ≡ w = omega (arith, found.1.0) in
          any_from_lem at n (w - k % 16) (same (w - k % 16) ∙ ap handed on ∙ found.1.1.1) (omega (arith, found.1.0, found.1.1.0))

-- What a membership adds for a value: what its crew hands on of it, and, but for the highest value, what it adds for the next one.
pub touch_step : (T : List Bool) (f k : ℕ) → 128 ≤ f → f < 160 → k < 128
    → touches T f (320 + k) ≡ get_or T (160 * (f - 128) + k) false || (not (eqb (k % 16) 15) && touches T f (320 + (k + 1)))
touch_step T f k h m l =
    touch_handed T f k h l m ∙ from_step (handed T f k) (k % 16) 16 (omega arith)
    ∙ ap (λ (b : Bool). b || any_from (handed T f k) (k % 16 + 1) 16) (ap (λ (i : ℕ). get_or T (160 * (f - 128) + i) false) own)
    ∙ ap (λ (b : Bool). get_or T (160 * (f - 128) + k) false || b) (dite (ℕ_discrete (k % 16) 15)
    (λ (e : k % 16 ≡ 15). from_end (handed T f k) (k % 16 + 1) 16 (omega arith) ∙ sym (rw (eq-eqb (k % 16) 15 e)))
    (λ (e : k % 16 ≡ 15 → ⊥).
    let same : k / 16 ≡ (k + 1) / 16 = omega arith in
    let next : k % 16 + 1 ≡ (k + 1) % 16 = omega arith in
    ap (λ (d : ℕ). any_from (λ w. get_or T (160 * (f - 128) + (16 * d + w)) false) (k % 16 + 1) 16) same
    ∙ ap (λ (v : ℕ). any_from (handed T f (k + 1)) v 16) next ∙ sym (touch_handed T f (k + 1) h (omega arith) m)
    ∙ sym (ap (λ (b : Bool). not b && touches T f (320 + (k + 1))) (ne_eqb (k % 16) 15 e))))
  where
    own : 16 * (k / 16) + k % 16 ≡ k
    own = omega arith

-- ---------------------------------------------------------------- a value's flag and those of the lower ones

-- The flags of the values from k to f are set.
pub record RaisedFrom (f : ℕ) (x z : List Bool) (k : ℕ) : Type 0 where
  pub size : length z ≡ length x
  pub first : 16 * (f / 16) ≤ k
  pub fits : k ≤ f + 1
  pub below : (j : ℕ) → j < 320 → get_or z j false ≡ get_or x j false
  pub above : (j : ℕ) → j < 128 → get_or z (320 + j) false ≡ get_or x (320 + j) false || (leb k j && leb j f)

-- What lies below the attribute of f is no value of it; from its first value on it is, up to f.
low_out : (f j : ℕ) → j < 16 * (f / 16) → not_higher f j ≡ false
unfolding not_higher
low_out f j m = rw (ne_eqb (j / 16) (f / 16) (omega arith)) refl

from_first : (f j : ℕ) → 16 * (f / 16) ≤ j → leb j f ≡ not_higher f j
unfolding not_higher
from_first f j m = dite (dec_lt f j)
    (λ (l : f < j). rw (lt-leb j f l) (sym (and-false (eqb (j / 16) (f / 16)))))
    (λ (l : f < j → ⊥). rw (le-leb j f (omega arith), eq-eqb (j / 16) (f / 16) (omega arith)) refl)

module _ {f : ℕ} {x z : List Bool} (k : ℕ) (h : 16 * (f / 16) ≤ k) (r : RaisedFrom f x z (k + 1)) (small : f < 128) where
  stop_lower : Falls x → get_or z (320 + k) false ≡ true → Raised f x z
  stop_lower falls e = record { size = r.size; below = r.below; above = λ j l. r.above j l ∙ same j l }
    where
      stood : get_or x (320 + k) false ≡ true
      stood =
          sym (r.above k (omega (arith, r.fits)) ∙ ap (λ (b : Bool). get_or x (320 + k) false || b) off ∙ or-false (get_or x (320 + k) false)) ∙ e
        where
          off : leb (k + 1) k && leb k f ≡ false
          off = rw (lt-leb (k + 1) k (omega arith)) refl

      same : (j : ℕ) → j < 128 → get_or x (320 + j) false || (leb (k + 1) j && leb j f) ≡ get_or x (320 + j) false || not_higher f j
      same j l = dite (dec_lt j (k + 1))
          (λ (i : j < k + 1). rw (lt-leb (k + 1) j i) (dite (dec_lt j (16 * (f / 16)))
          (λ (m : j < 16 * (f / 16)). ap (λ (b : Bool). get_or x (320 + j) false || b) (sym (low_out f j m)))
          (λ (m : j < 16 * (f / 16) → ⊥).
          let a : 320 + (16 * (f / 16) + j % 16) ≡ 320 + j = omega (arith, r.fits) in
          let b : 320 + (16 * (f / 16) + k % 16) ≡ 320 + k = omega (arith, r.fits) in
          let lower = falls.lower (f / 16) (j % 16) (k % 16) (omega arith) (omega (arith, r.fits)) (omega arith) (ap (λ i. get_or x i false) b ∙ stood) in
          rw (sym (ap (λ i. get_or x i false) a) ∙ lower) refl)))
          (λ (i : j < k + 1 → ⊥). ap (λ (b : Bool). get_or x (320 + j) false || b)
          (rw (le-leb (k + 1) j (omega arith)) (from_first f j (omega arith))))

module _ {f : ℕ} {x z : List Bool} {k : ℕ} (r : RaisedFrom f x z k) (h : 16 * (f / 16) < k) (small : f < 128) where
  lower_by_one : RaisedFrom f x z (k - 1 + 1)
  lower_by_one = let e : k ≡ k - 1 + 1 = omega arith in subst (λ (i : ℕ). RaisedFrom f x z i) e r

  -- A flag that stands already: those of the lower values stand too.
  pub raised_stands : Falls x → get_or z (320 + (k - 1)) false ≡ true → Raised f x z
  raised_stands falls e = stop_lower (k - 1) (omega arith) lower_by_one small falls e

-- Behind the lowest value of the attribute all are set.
pub raised_all : {f : ℕ} {x z : List Bool} {k : ℕ} → RaisedFrom f x z k → k ≤ 16 * (f / 16) → Raised f x z
raised_all {f} {x} {z} {k} r h = record { size = r.size; below = r.below; above = λ j l. r.above j l ∙ ap (λ (b : Bool). get_or x (320 + j) false || b) (same j) }
  where
    same : (j : ℕ) → leb k j && leb j f ≡ not_higher f j
    same j = dite (dec_lt j (16 * (f / 16)))
        (λ (m : j < 16 * (f / 16)). rw (lt-leb k j (omega (arith, r.first))) (sym (low_out f j m)))
        (λ (m : j < 16 * (f / 16) → ⊥). rw (le-leb k j (omega arith)) (from_first f j (omega arith)))

-- ---------------------------------------------------------------- the flags of an attribute, from its highest value downwards

-- Whether the value w of attribute a is effective.
abbrev pub effective_of : ℕ → List Bool → ℕ → Bool
effective_of a x w = get_or x (160 + (16 * a + w)) false

-- The flags of the values from v on are written, and `on` is the last of them.
pub record AttributeFrom (a : ℕ) (x z : List Bool) (v : ℕ) (on : Bool) : Type 0 where
  pub size : length z ≡ length x
  pub fits : v ≤ 16
  pub last : on ≡ any_from (effective_of a x) v 16
  pub done : (w : ℕ) → v ≤ w → w < 16 → get_or z (320 + (16 * a + w)) false ≡ any_from (effective_of a x) w 16
  pub there : (k : ℕ) → ((w : ℕ) → v ≤ w → w < 16 → k ≡ 320 + (16 * a + w) → ⊥) → get_or z k false ≡ get_or x k false

-- Above the highest value there is none.
pub attribute_none : (a : ℕ) (x : List Bool) → AttributeFrom a x x 16 false
attribute_none a x = record {
  size = refl;
  fits = omega arith;
  last = sym (from_end (effective_of a x) 16 16 (omega arith));
  done = λ w l m. absurd (omega arith);
  there = λ k h. refl;
}

module _ {a : ℕ} {x z : List Bool} (v : ℕ) {on : Bool} (r : AttributeFrom a x z (v + 1) on) (h : a < 8) (s : length x ≡ 448)
    (b : Bool) (e : b ≡ on || get_or z (160 + (16 * a + v)) false) where
  still : get_or z (160 + (16 * a + v)) false ≡ effective_of a x v
  still = r.there (160 + (16 * a + v)) (λ w l m q. omega (arith, r.fits))

  last_is : b ≡ any_from (effective_of a x) v 16
  last_is =
      e ∙ rw (r.last, still) (or_turn (any_from (effective_of a x) (v + 1) 16) (effective_of a x v))
      ∙ sym (from_step (effective_of a x) v 16 (omega (arith, r.fits)))
    where
      or_turn : (b c : Bool) → b || c ≡ c || b
      or_turn true true = refl
      or_turn true false = refl
      or_turn false true = refl
      or_turn false false = refl

  write_lower : AttributeFrom a x (set z (320 + (16 * a + v)) b) v b
  write_lower = record {
    size = length-set z (320 + (16 * a + v)) b ∙ r.size;
    fits = omega (arith, r.fits);
    last = last_is;
    done = λ w l m. dite (ℕ_discrete w v)
        (λ (q : w ≡ v). rw q (get_or-set_same z (320 + (16 * a + v)) b false (omega (arith, r.size, r.fits)) ∙ last_is))
        (λ (n : w ≡ v → ⊥). get_or-set_other z (320 + (16 * a + v)) (320 + (16 * a + w)) b false (λ q. n (omega arith)) ∙ r.done w (omega arith) m);
    there = λ k out. get_or-set_other z (320 + (16 * a + v)) k b false (out v (omega arith) (omega (arith, r.fits)))
        ∙ r.there k (λ w l m. out w (omega arith) m);
  }

-- One value lower: its flag is the last one, or whether it is effective itself.
pub attribute_more : {a : ℕ} {x z : List Bool} {v : ℕ} {on : Bool} → AttributeFrom a x z v on → 0 < v → a < 8 → length x ≡ 448
    → (b : Bool) → b ≡ on || get_or z (160 + (16 * a + (v - 1))) false → AttributeFrom a x (set z (320 + (16 * a + (v - 1))) b) (v - 1) b
attribute_more {a} {x} {z} {v} {on} r l h s b e =
    let q : v ≡ v - 1 + 1 = omega arith in
    write_lower (v - 1) (subst (λ (i : ℕ). AttributeFrom a x z i on) q r) h s b e

-- Below the lowest value all are written.
pub attribute_all : {a : ℕ} {x z : List Bool} {v : ℕ} {on : Bool} → AttributeFrom a x z v on → v ≤ 0 → ExtendedAt a x z
attribute_all r h = record { size = r.size; here = λ v l. r.done v (omega arith) l; there = λ k out. r.there k (λ w l m. out w m) }

-- ---------------------------------------------------------------- attribute by attribute

-- The flags of the attributes below a are written.
pub record ExtendedSoFar (x z : List Bool) (a : ℕ) : Type 0 where
  pub size : length z ≡ length x
  pub fits : a ≤ 8
  pub below : (k : ℕ) → k < 320 → get_or z k false ≡ get_or x k false
  pub done : (b v : ℕ) → b < a → v < 16 → get_or z (320 + (16 * b + v)) false ≡ any_from (λ w. get_or x (160 + (16 * b + w)) false) v 16

-- One attribute more.
pub extended_more : {x y z : List Bool} {a : ℕ} → ExtendedSoFar x y a → a < 8 → ExtendedAt a y z → ExtendedSoFar x z (a + 1)
extended_more {x} {y} {z} {a} r h e = record {
  size = e.size ∙ r.size;
  fits = omega arith;
  below = λ k l. e.there k (λ v m q. omega arith) ∙ r.below k l;
  done = λ b v l m. dite (ℕ_discrete b a)
      (λ (q : b ≡ a). rw q (e.here v m ∙ from_same (λ w. get_or y (160 + (16 * a + w)) false) (λ w. get_or x (160 + (16 * a + w)) false) v 16
      (λ w i. r.below (160 + (16 * a + w)) (omega arith))))
      (λ (n : b ≡ a → ⊥). e.there (320 + (16 * b + v)) (λ w i q. n (omega arith)) ∙ r.done b v (omega arith) m);
}

-- After the last all follows.
pub extended-all : {x z : List Bool} {a : ℕ} → ExtendedSoFar x z a → 8 ≤ a → Extended x z
extended-all {x} {z} {a} r h = record {
  size = r.size;
  below = r.below;
  above = λ k l m.
      let q : 320 + (16 * ((k - 320) / 16) + (k - 320) % 16) ≡ k = omega arith in
      ap (λ j. get_or z j false) (sym q) ∙ r.done ((k - 320) / 16) ((k - 320) % 16) (omega arith) (omega arith)
      ∙ sym (extended_at (λ j. get_or x j false) ((k - 320) / 16) ((k - 320) % 16) (omega arith)) ∙ ap (extended (λ j. get_or x j false)) q;
}
