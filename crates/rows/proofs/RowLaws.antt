-- The table, filled bit by bit and row by row.
use mathlib.Core.Path.{◌≡◌, refl, ap, sym, subst, ◌∙◌}
use mathlib.Core.Logic.{dite}
use mathlib.Core.Bool.{Bool, true, false, cond, ◌&&◌}
use mathlib.Core.List.{List}
use Prim.Native.Nat.{ℕ, ◌+◌, ◌*◌, ◌/◌, ◌%◌, ◌<◌}
use native.Mathlib.Decide.{ℕ_discrete, dec_lt}
use native.Mathlib.Omega.{arith}
use lib.ListN.{get_or, get_or-eq_default}
use Rattle.sets.specs.Sets.{byte_of, member_at, put_at}
use Rattle.sets.proofs.SetLaws.{member-zero, member_at_out, member_at-put_same, member_at-put_other, put_at-length, put_at_bytes}
use Rattle.sizes.specs.declared.Sizes.{Sizes}
use Rattle.sizes.specs.Sizes.{is_value}
use Rattle.words.specs.Inner.Words.{column}
use Rattle.rows.specs.Inner.Rows.{bit_of, shown_value, value_put, RowPut, RowClear, RowsShown, Cleared}

-- ---------------------------------------------------------------- a table of nothing

module _ {out : List ℕ} (c : Cleared 1024 out) where
  -- A bit of the table, or one past its end, is clear.
  bit-none : (p a v : ℕ) → bit_of out p a v ≡ false
  unfolding member_at
  bit-none p a v =
      dite (dec_lt (byte_of (16 * p + 2 * a) 2 v) 1024)
      (λ (h : byte_of (16 * p + 2 * a) 2 v < 1024). rw (c.zero (byte_of (16 * p + 2 * a) 2 v) h) (member-zero (v % 8)))
      (λ (h : byte_of (16 * p + 2 * a) 2 v < 1024 → ⊥). member_at_out out (16 * p + 2 * a) 2 v (omega (arith, c.size)))

  byte_none : (j : ℕ) → get_or out j 0 < 256
  byte_none j =
      dite (dec_lt j 1024) (λ (h : j < 1024). rw (c.zero j h) (omega arith))
      (λ (h : j < 1024 → ⊥).
      let past : get_or out j 0 ≡ 0 = get_or-eq_default out 0 (omega (arith, c.size)) in
      rw past (omega arith))

  -- No row is filled yet.
  pub rows_none : (z : Sizes) (ws : List ℕ) → RowsShown z ws 0 out
  rows_none z ws =
      record { size = c.size; bytes = byte_none; own = λ p a v h. absurd (omega arith); rest = λ p a v h l m. bit-none p a v }

-- ---------------------------------------------------------------- one row

-- A byte of the table and a place in it are those of one person, attribute and value.
module _ (q a v p c w : ℕ) (l : a < 8) (h : v < 16) (m : c < 8) (k : w < 16) (byte : byte_of (16 * q + 2 * a) 2 v ≡ byte_of (16 * p + 2 * c) 2 w)
    (bit : v % 8 ≡ w % 8) where
  same_set : 8 * q + a ≡ 8 * p + c
  same_set =
      let one : byte_of (16 * q + 2 * a) 2 v / 2 ≡ 8 * q + a = omega arith in
      let other : byte_of (16 * p + 2 * c) 2 w / 2 ≡ 8 * p + c = omega arith in
      sym one ∙ ap (λ (n : ℕ). n / 2) byte ∙ other

  one_person : q ≡ p
  one_person =
      let one : (8 * q + a) / 8 ≡ q = omega arith in
      let other : (8 * p + c) / 8 ≡ p = omega arith in
      sym one ∙ ap (λ (n : ℕ). n / 8) same_set ∙ other

  one_value : 16 * a + v ≡ 16 * c + w
  one_value =
      let attr : a ≡ c = omega (arith, same_set, one_person) in
      let half : v / 8 ≡ w / 8 = omega (arith, byte, attr, one_person) in
      omega (arith, attr, half, bit)

-- What one value's bit comes to, by the flag and the test.
module _ (z : Sizes) (p : ℕ) (x : List Bool) (f : ℕ) (out : List ℕ) (shown value : Bool) (flag : shown ≡ get_or x (160 + f) false)
    (is : value ≡ is_value z (f / 16) (f % 16)) where
  same_flag : shown_value z x (f / 16) (f % 16) ≡ shown && value
  same_flag = let e : 16 * (f / 16) + f % 16 ≡ f = omega arith in rw (e, flag, is) refl

  pub value_shown : (shown && value) ≡ true → {after : List ℕ} → after ≡ put_at out (16 * p + 2 * (f / 16)) 2 (f % 16) true
      → after ≡ value_put z p x f out
  unfolding value_put
  value_shown e put = put ∙ ap (λ (t : Bool). cond t (put_at out (16 * p + 2 * (f / 16)) 2 (f % 16) true) out) (sym (same_flag ∙ e))

  pub value_hidden : (shown && value) ≡ false → out ≡ value_put z p x f out
  unfolding value_put
  value_hidden e = ap (λ (t : Bool). cond t (put_at out (16 * p + 2 * (f / 16)) 2 (f % 16) true) out) (sym (same_flag ∙ e))

pub row-none : (z : Sizes) (p : ℕ) (x : List Bool) {out : List ℕ} → RowClear p out → RowPut z p x 0 out out
row-none z p x c = record { size = c.size; bytes = c.bytes; own = λ a v l h low. absurd (omega arith); rest = λ q a v l h other. refl }

module _ {z : Sizes} {p : ℕ} {x : List Bool} {f : ℕ} {before out : List ℕ} (person : p < 64) (low : f < 128) (blank : RowClear p before)
    (so_far : RowPut z p x f before out) where
  -- Another bit than that of value f % 16 of attribute f / 16 of person p.
  apart : (q a v : ℕ) → a < 8 → v < 16 → (q ≡ p → 16 * a + v ≡ f → ⊥) → byte_of (16 * q + 2 * a) 2 v ≡ byte_of (16 * p + 2 * (f / 16)) 2 (f % 16)
      → v % 8 ≡ f % 16 % 8 → ⊥
  apart q a v l h other byte bit =
      let value = one_value q a v p (f / 16) (f % 16) l h (omega arith) (omega arith) byte bit in
      other (one_person q a v p (f / 16) (f % 16) l h (omega arith) (omega arith) byte bit) (omega (arith, value))

  pub row_more : RowPut z p x (f + 1) before (value_put z p x f out)
  unfolding value_put
  row_more = by-shown (shown_value z x (f / 16) (f % 16)) refl
    where
      here : (a v : ℕ) → v < 16 → 16 * a + v ≡ f → (f / 16 ≡ a) × (f % 16 ≡ v)
      here a v h e = (omega arith, omega arith)

      by-shown : (t : Bool) → shown_value z x (f / 16) (f % 16) ≡ t
          → RowPut z p x (f + 1) before (cond t (put_at out (16 * p + 2 * (f / 16)) 2 (f % 16) true) out)
      by-shown false e =
          record {
            size = so_far.size;
            bytes = so_far.bytes;
            own = λ a v l h m. dite (ℕ_discrete (16 * a + v) f)
                (λ (i : 16 * a + v ≡ f).
                let at = here a v h i in
                so_far.rest p a v l h (λ s. omega arith) ∙ blank.none a v l h
                ∙ sym (subst (λ (w : ℕ). shown_value z x a w ≡ false) at.1 (subst (λ (k : ℕ). shown_value z x k (f % 16) ≡ false) at.0 e)))
                (λ (i : 16 * a + v ≡ f → ⊥). so_far.own a v l h (omega arith));
            rest = λ q a v l h other. so_far.rest q a v l h (λ s. omega (arith, other s));
          }
      by-shown true e =
          record {
            size = put_at-length out (16 * p + 2 * (f / 16)) 2 (f % 16) true ∙ so_far.size;
            bytes = put_at_bytes out (16 * p + 2 * (f / 16)) 2 (f % 16) true so_far.bytes;
            own = λ a v l h m. dite (ℕ_discrete (16 * a + v) f)
                (λ (i : 16 * a + v ≡ f).
                let is = here a v h i in
                subst (λ (w : ℕ). bit_of (put_at out (16 * p + 2 * (f / 16)) 2 (f % 16) true) p a w ≡ shown_value z x a w) is.1
                (subst (λ (k : ℕ). bit_of (put_at out (16 * p + 2 * (f / 16)) 2 (f % 16) true) p k (f % 16) ≡ shown_value z x k (f % 16)) is.0
                (member_at-put_same out (16 * p + 2 * (f / 16)) 2 (f % 16) true (omega (arith, so_far.size)) ∙ sym e)))
                (λ (i : 16 * a + v ≡ f → ⊥).
                member_at-put_other out (16 * p + 2 * (f / 16)) 2 (f % 16) true (16 * p + 2 * a) 2 v (apart p a v l h (λ s. i))
                ∙ so_far.own a v l h (omega arith));
            rest = λ q a v l h other.
                member_at-put_other out (16 * p + 2 * (f / 16)) 2 (f % 16) true (16 * q + 2 * a) 2 v (apart q a v l h (λ s i. omega (arith, other s)))
                ∙ so_far.rest q a v l h (λ s. omega (arith, other s));
          }

pub row-all : {z : Sizes} {p : ℕ} {x : List Bool} {f : ℕ} {before out : List ℕ} → RowPut z p x f before out → f ≡ 128 → RowPut z p x 128 before out
row-all {z} {p} {x} {f} {before} {out} r e = subst (λ (i : ℕ). RowPut z p x i before out) e r

-- ---------------------------------------------------------------- row after row

-- The row of the next person is clear.
pub next_clear : {z : Sizes} {ws : List ℕ} {p : ℕ} {out : List ℕ} → RowsShown z ws p out → RowClear p out
next_clear {p = p} r = record { size = r.size; bytes = r.bytes; none = λ a v l h. r.rest p a v (omega arith) l h }

pub rows_more : {z : Sizes} {ws : List ℕ} {p : ℕ} {before out : List ℕ} → RowsShown z ws p before → RowPut z p (column ws p) 128 before out
    → RowsShown z ws (p + 1) out
rows_more {z} {ws} {p} {before} {out} rows put =
    record {
      size = put.size;
      bytes = put.bytes;
      own = λ q a v m l h. dite (ℕ_discrete q p)
          (λ (e : q ≡ p). subst (λ (i : ℕ). bit_of out i a v ≡ shown_value z (column ws i) a v) (sym e) (put.own a v l h (omega arith)))
          (λ (e : q ≡ p → ⊥). put.rest q a v l h (λ s. absurd (e s)) ∙ rows.own q a v (omega arith) l h);
      rest = λ q a v m l h. put.rest q a v l h (λ s. absurd (omega arith)) ∙ rows.rest q a v (omega arith) l h;
    }
