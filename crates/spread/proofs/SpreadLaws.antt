-- The laws of facts put in for some persons: the loops that set the flags, and the flags of the whole fact.
use mathlib.Core.Path.{◌≡◌, refl, sym, ap, ◌∙◌}
use mathlib.Core.Logic.{dite}
use mathlib.Core.Bool.{Bool, true, false, not, cond, ◌&&◌, ◌||◌, and-true, and-false, or-false}
use mathlib.Core.List.{List}
use Prim.Native.Nat.{ℕ, ◌+◌, ◌-◌, ◌*◌, ◌/◌, ◌%◌, ◌≤◌, ◌<◌}
use native.Mathlib.Decide.{ℕ_discrete, dec_lt}
use native.Mathlib.Omega.{arith}
use lib.Dec.{eqb, leb, ltb}
use lib.ListN.{length, get_or}
use borrow.Author.Tests.{eq-eqb, ne_eqb, le-leb, lt-leb, lt-ltb, le-ltb}
use Rattle.shown.specs.Inner.Shown.{touches, not_higher}
use Rattle.shown.proofs.ShownLaws.{touch_direct, touch_own, touch_value, touch_row}
use Rattle.shown.proofs.HigherLaws.{touch_not_higher, touch_step}
use Rattle.words.specs.Inner.Words.{Lit}
use Rattle.words.proofs.WordLaws.{lit_both, lit_same, lit_only}

or-none : (a b : Bool) → a || (b && false) ≡ a
or-none true b = refl
or-none false true = refl
or-none false false = refl

-- ---------------------------------------------------------------- a value's flag and those of the lower ones

-- The flags of the attribute's values below k are set.
pub record RaisedLit (f who : ℕ) (before after : List ℕ) (k : ℕ) : Type 0 where
  pub size : length after ≡ 448
  pub first : 16 * (f / 16) ≤ k
  pub fits : k ≤ f + 1
  pub lit : Lit who (λ j. leb (320 + 16 * (f / 16)) j && ltb j (320 + k)) before after

-- From one place lower on: that place is one more.
one_lower : (k j : ℕ) → 0 < k → (j ≡ 320 + (k - 1) → ⊥) → leb (320 + k) j ≡ leb (320 + (k - 1)) j
one_lower k j h n = dite (dec_lt j (320 + k))
    (λ (l : j < 320 + k). lt-leb (320 + k) j l ∙ sym (lt-leb (320 + (k - 1)) j (omega arith)))
    (λ (l : j < 320 + k → ⊥). le-leb (320 + k) j (omega arith) ∙ sym (le-leb (320 + (k - 1)) j (omega arith)))

-- Of its attribute's values, those not above f: none below the attribute, none above f.
module _ (f j : ℕ) where
  low_out : j < 16 * (f / 16) → not_higher f j ≡ false
  unfolding not_higher
  low_out m = rw (ne_eqb (j / 16) (f / 16) (omega arith)) refl

  high_out : f < j → not_higher f j ≡ false
  unfolding not_higher
  high_out m = rw (lt-leb j f m) (and-false (eqb (j / 16) (f / 16)))

  inside : 16 * (f / 16) ≤ j → j ≤ f → not_higher f j ≡ true
  unfolding not_higher
  inside m l = rw (eq-eqb (j / 16) (f / 16) (omega arith), le-leb j f l) refl

-- After f all are set.
pub raised_lit_all : {f who : ℕ} {before after : List ℕ} {k : ℕ} → RaisedLit f who before after k → f + 1 ≤ k
    → Lit who (λ j. leb 320 j && not_higher f (j - 320)) before after
raised_lit_all {f} {k = k} r h = lit_same (λ j l. same j) r.lit
  where
    first : ℕ
    first = 320 + 16 * (f / 16)

    same : (j : ℕ) → leb first j && ltb j (320 + k) ≡ leb 320 j && not_higher f (j - 320)
    same j = dite (dec_lt j 320)
        (λ (m : j < 320). rw (lt-leb first j (omega arith), lt-leb 320 j m) refl)
        (λ (m : j < 320 → ⊥). rw (le-leb 320 j (omega arith)) (dite (dec_lt j first)
        (λ (l : j < first). rw (lt-leb first j l, low_out f (j - 320) (omega arith)) refl)
        (λ (l : j < first → ⊥). rw (le-leb first j (omega arith)) (dite (dec_lt (320 + f) j)
        (λ (i : 320 + f < j). rw (le-ltb j (320 + k) (omega (arith, r.fits)), high_out f (j - 320) (omega arith)) refl)
        (λ (i : 320 + f < j → ⊥). rw (lt-ltb j (320 + k) (omega arith), inside f (j - 320) (omega arith) (omega arith)) refl)))))

-- ---------------------------------------------------------------- the row of a crew

-- The first k flags of the row of crew c are set, at the effective places.
pub record RowLit (T : List Bool) (c who : ℕ) (before after : List ℕ) (k : ℕ) : Type 0 where
  pub size : length after ≡ 448
  pub fits : k ≤ 160
  pub lit : Lit who (λ j. (leb 160 j && ltb j (160 + k)) && get_or T (160 * c + (j - 160)) false) before after

-- One flag more.
pub row_lit_more : {T : List Bool} {c who : ℕ} {before ws after : List ℕ} {k : ℕ} → RowLit T c who before ws k → k < 160
    → {w : ℕ} → w ≡ cond (get_or T (160 * c + k) false) who 0 → Lit w (λ j. eqb j (160 + k)) ws after → RowLit T c who before after (k + 1)
row_lit_more {T} {c} {k = k} r h chosen one =
    record {
      size = one.size ∙ r.size;
      fits = omega arith;
      lit = lit_same (λ j l. same j) (lit_both r.lit (lit_only (get_or T (160 * c + k) false) chosen one));
    }
  where
    wider : (j : ℕ) → (j ≡ 160 + k → ⊥) → ltb j (160 + k) ≡ ltb j (160 + (k + 1))
    wider j n = dite (dec_lt j (160 + k))
        (λ (l : j < 160 + k). lt-ltb j (160 + k) l ∙ sym (lt-ltb j (160 + (k + 1)) (omega arith)))
        (λ (l : j < 160 + k → ⊥). le-ltb j (160 + k) (omega arith) ∙ sym (le-ltb j (160 + (k + 1)) (omega arith)))

    same : (j : ℕ) → ((leb 160 j && ltb j (160 + k)) && get_or T (160 * c + (j - 160)) false) || (get_or T (160 * c + k) false && eqb j (160 + k))
        ≡ (leb 160 j && ltb j (160 + (k + 1))) && get_or T (160 * c + (j - 160)) false
    same j = dite (ℕ_discrete j (160 + k))
        (λ (e : j ≡ 160 + k).
        let here : 160 * c + (j - 160) ≡ 160 * c + k = omega arith in
        rw (eq-eqb j (160 + k) e, le-leb 160 j (omega arith), le-ltb j (160 + k) (omega arith), lt-ltb j (160 + (k + 1)) (omega arith), here)
        (and-true (get_or T (160 * c + k) false)))
        (λ (n : j ≡ 160 + k → ⊥). rw (ne_eqb j (160 + k) n, wider j n)
        (or-none ((leb 160 j && ltb j (160 + (k + 1))) && get_or T (160 * c + (j - 160)) false) (get_or T (160 * c + k) false)))

-- ---------------------------------------------------------------- what follows from the row of a crew

-- The flags of the values from k on that the membership in crew c adds are set; `on` is the last of them, unless k is the lowest value of its attribute.
pub record HigherLit (T : List Bool) (c who : ℕ) (before after : List ℕ) (on : Bool) (k : ℕ) : Type 0 where
  pub size : length after ≡ 448
  pub fits : k ≤ 128
  pub last : (k % 16 ≡ 0 → ⊥) → on ≡ touches T (128 + c) (320 + k)
  pub lit : Lit who (λ j. leb (320 + k) j && touches T (128 + c) j) before after

-- One value lower: its flag is what the crew hands on of it, or, but for the highest value, the last one.
pub higher_lit_more : {T : List Bool} {c who : ℕ} {before ws after : List ℕ} {on : Bool} {k : ℕ} → HigherLit T c who before ws on k → 0 < k → c < 32
    → {next : Bool} → next ≡ get_or T (160 * c + (k - 1)) false || (on && not (eqb ((k - 1) % 16) 15))
    → {w : ℕ} → w ≡ cond next who 0 → Lit w (λ j. eqb j (320 + (k - 1))) ws after → HigherLit T c who before after next (k - 1)
higher_lit_more {T} {c} {on = on} {k} r h few {next} is chosen one =
    record {
      size = one.size ∙ r.size;
      fits = omega (arith, r.fits);
      last = λ n. adds;
      lit = lit_same (λ j l. same j) (lit_both r.lit (lit_only next chosen one));
    }
  where
    carried : (on && not (eqb ((k - 1) % 16) 15)) ≡ (not (eqb ((k - 1) % 16) 15) && touches T (128 + c) (320 + (k - 1 + 1)))
    carried = dite (ℕ_discrete ((k - 1) % 16) 15)
        (λ (e : (k - 1) % 16 ≡ 15). rw (eq-eqb ((k - 1) % 16) 15 e) (and-false on))
        (λ (n : (k - 1) % 16 ≡ 15 → ⊥).
        let up : k - 1 + 1 ≡ k = omega arith in
        rw (ne_eqb ((k - 1) % 16) 15 n, up) (and-true on ∙ r.last (λ z. n (omega arith))))

    adds : next ≡ touches T (128 + c) (320 + (k - 1))
    adds =
        let crew : 128 + c - 128 ≡ c = omega arith in
        is ∙ ap (λ (b : Bool). get_or T (160 * c + (k - 1)) false || b) carried
        ∙ sym (touch_step T (128 + c) (k - 1) (omega arith) (omega arith) (omega (arith, r.fits))
        ∙ ap (λ (i : ℕ). get_or T (160 * i + (k - 1)) false || (not (eqb ((k - 1) % 16) 15) && touches T (128 + c) (320 + (k - 1 + 1)))) crew)

    same : (j : ℕ) → (leb (320 + k) j && touches T (128 + c) j) || (next && eqb j (320 + (k - 1))) ≡ leb (320 + (k - 1)) j && touches T (128 + c) j
    same j = dite (ℕ_discrete j (320 + (k - 1)))
        (λ (e : j ≡ 320 + (k - 1)).
        rw (eq-eqb j (320 + (k - 1)) e, lt-leb (320 + k) j (omega arith), le-leb (320 + (k - 1)) j (omega arith))
        (and-true next ∙ adds ∙ ap (touches T (128 + c)) (sym e)))
        (λ (n : j ≡ 320 + (k - 1) → ⊥). rw (ne_eqb j (320 + (k - 1)) n, one_lower k j h n)
        (or-none (leb (320 + (k - 1)) j && touches T (128 + c) j) next))

-- ---------------------------------------------------------------- the whole fact

module _ (T : List Bool) {f who : ℕ} {x y z : List ℕ} (own : Lit who (λ j. eqb j f) x y) (effective : Lit who (λ j. eqb j (160 + f)) y z) where
  -- A value: itself, that it is effective, and the flags of the lower values.
  pub lit_value : {v : List ℕ} → f < 128 → Lit who (λ j. leb 320 j && not_higher f (j - 320)) z v → Lit who (touches T f) x v
  lit_value h lower = lit_same (λ k l. same k) (lit_both (lit_both own effective) lower)
    where
      same : (k : ℕ) → (eqb k f || eqb k (160 + f)) || (leb 320 k && not_higher f (k - 320)) ≡ touches T f k
      same k = dite (dec_lt k 320)
          (λ (m : k < 320). rw (lt-leb 320 k m) (or-false (eqb k f || eqb k (160 + f)) ∙ dite (dec_lt k 160)
          (λ (l : k < 160). rw (ne_eqb k (160 + f) (omega arith)) (or-false (eqb k f) ∙ touch_direct T f k l))
          (λ (l : k < 160 → ⊥). rw (ne_eqb k f (omega arith)) (dite (ℕ_discrete k (160 + f))
          (λ (e : k ≡ 160 + f). eq-eqb k (160 + f) e ∙ touch_own T f k (omega arith) m (omega arith))
          (λ (n : k ≡ 160 + f → ⊥). ne_eqb k (160 + f) n ∙ touch_value T f k (omega arith) m (λ q. n (omega arith)) h)))))
          (λ (m : k < 320 → ⊥).
          let e : 320 + (k - 320) ≡ k = omega arith in
          rw (ne_eqb k f (omega arith), ne_eqb k (160 + f) (omega arith), le-leb 320 k (omega arith))
          (touch_not_higher T f (k - 320) h ∙ ap (touches T f) e))

  -- A membership: itself, that it is effective, what the crew hands on, and what follows from that.
  pub lit_crew : {u v : List ℕ} → 128 ≤ f → f < 160
      → Lit who (λ j. (leb 160 j && ltb j 320) && get_or T (160 * (f - 128) + (j - 160)) false) z u
      → Lit who (λ j. leb 320 j && touches T (128 + (f - 128)) j) u v → Lit who (touches T f) x v
  lit_crew h few row higher = lit_same (λ k l. same k) (lit_both (lit_both (lit_both own effective) row) higher)
    where
      back : 128 + (f - 128) ≡ f
      back = omega arith

      same : (k : ℕ)
          → ((eqb k f || eqb k (160 + f)) || ((leb 160 k && ltb k 320) && get_or T (160 * (f - 128) + (k - 160)) false))
          || (leb 320 k && touches T (128 + (f - 128)) k) ≡ touches T f k
      same k = dite (dec_lt k 160)
          (λ (l : k < 160). rw (lt-leb 160 k l, lt-leb 320 k (omega arith), ne_eqb k (160 + f) (omega arith))
          (or-false ((eqb k f || false) || false) ∙ or-false (eqb k f || false) ∙ or-false (eqb k f) ∙ touch_direct T f k l))
          (λ (l : k < 160 → ⊥). dite (dec_lt k 320)
          (λ (m : k < 320). rw (le-leb 160 k (omega arith), lt-ltb k 320 m, lt-leb 320 k m, ne_eqb k f (omega arith))
          (or-false (eqb k (160 + f) || get_or T (160 * (f - 128) + (k - 160)) false) ∙ dite (ℕ_discrete k (160 + f))
          (λ (e : k ≡ 160 + f). rw (eq-eqb k (160 + f) e) (touch_own T f k (omega arith) m (omega arith)))
          (λ (n : k ≡ 160 + f → ⊥). rw (ne_eqb k (160 + f) n) (touch_row T f k (omega arith) m (λ q. n (omega arith)) h))))
          (λ (m : k < 320 → ⊥). rw (
            le-leb 160 k (omega arith),
            le-ltb k 320 (omega arith),
            le-leb 320 k (omega arith),
            ne_eqb k f (omega arith),
            ne_eqb k (160 + f) (omega arith),
          ) (ap (λ (i : ℕ). touches T i k) back)))
