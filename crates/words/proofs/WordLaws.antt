-- The laws of words: their members by `|`, `&` and `^`, one person's flags out of all, and flags set for some persons.
use mathlib.Core.Path.{◌≡◌, refl, ap, sym, subst, ◌∙◌}
use mathlib.Core.Logic.{dite}
use mathlib.Core.Bool.{Bool, true, false, not, cond, ◌&&◌, ◌||◌, and-true, and-false, or-false, or-true}
use mathlib.Core.List.{List}
use Prim.Native.Nat.{ℕ, zero, suc, ◌+◌, ◌*◌, ◌/◌, ◌%◌, ◌^◌, ◌≤◌, ◌<◌}
use native.Mathlib.Decide.{ℕ_discrete}
use native.Mathlib.Nat.{mod-lt}
use native.Mathlib.Omega.{arith}
use lib.Bits.{bit_and, bit_or, bit_xor, or_shr, or_mod, xor_shr, xor_mod}
use lib.Dec.{eqb}
use lib.ListN.{length, get_or, set, length-set, length-map, get_or-map}
use lib.Pow.{pow_pos}
use lib.Seq.{get_or-set_same, get_or-set_other, ext_get_or}
use borrow.Author.Tests.{eq-eqb, ne_eqb}
use Rattle.quantifiers.specs.Quantifiers.{any_below}
use Rattle.quantifiers.proofs.BelowLaws.{any_cases, any_none}
use Rattle.quantifiers.proofs.BoolLaws.{by_test}
use Rattle.sets.specs.Sets.{bit, member, put}
use Rattle.sets.proofs.SetLaws.{member-and, member-zero, member-put_same, member-put_other, same_members, lt_power, weight, put_in_new}
use Rattle.shown.specs.Inner.Shown.{touches, Put}
use Rattle.words.specs.Inner.Words.{column, Lit, ColumnPut}

-- ---------------------------------------------------------------- the members of a word

or-digit : (a b : ℕ) → a < 2 → b < 2 → eqb (bit_or a b) 1 ≡ eqb a 1 || eqb b 1
or-digit zero b h k = refl
or-digit (suc zero) zero h k = refl
or-digit (suc zero) (suc zero) h k = refl
or-digit (suc zero) (suc (suc b)) h k = absurd (omega arith)
or-digit (suc (suc a)) b h k = absurd (omega arith)

-- The members of `x | y` are those of either.
pub member-or : (x y v : ℕ) → member (bit_or x y) v ≡ member x v || member y v
unfolding member bit
member-or x y v =
    ap (λ (n : ℕ). eqb n 1) (ap (λ (n : ℕ). n % 2) (or_shr x y v) ∙ or_mod (x / 2 ^ v) (y / 2 ^ v) 1)
    ∙ or-digit (x / 2 ^ v % 2) (y / 2 ^ v % 2) (mod-lt (x / 2 ^ v) (omega arith)) (mod-lt (y / 2 ^ v) (omega arith))

xor-digit : (a b : ℕ) → a < 2 → b < 2 → eqb (bit_xor a b) 1 ≡ cond (eqb a 1) (not (eqb b 1)) (eqb b 1)
xor-digit zero b h k = refl
xor-digit (suc zero) zero h k = refl
xor-digit (suc zero) (suc zero) h k = refl
xor-digit (suc zero) (suc (suc b)) h k = absurd (omega arith)
xor-digit (suc (suc a)) b h k = absurd (omega arith)

-- The members of `x ^ y` are those of one and not of the other.
member-xor : (x y v : ℕ) → member (bit_xor x y) v ≡ cond (member x v) (not (member y v)) (member y v)
unfolding member bit
member-xor x y v =
    ap (λ (n : ℕ). eqb n 1) (ap (λ (n : ℕ). n % 2) (xor_shr x y v) ∙ xor_mod (x / 2 ^ v) (y / 2 ^ v) 1)
    ∙ xor-digit (x / 2 ^ v % 2) (y / 2 ^ v % 2) (mod-lt (x / 2 ^ v) (omega arith)) (mod-lt (y / 2 ^ v) (omega arith))

-- `x ^ (x & y)` is what of x is not in y.
pub member_without : (x y v : ℕ) → member (bit_xor x (bit_and x y)) v ≡ member x v && not (member y v)
member_without x y v =
    member-xor x (bit_and x y) v ∙ ap (λ (b : Bool). cond (member x v) (not b) b) (member-and x y v) ∙ by_both (member x v) (member y v)
  where
    by_both : (a b : Bool) → cond a (not (a && b)) (a && b) ≡ a && not b
    by_both true b = refl
    by_both false b = refl

-- The word `1 << p` has p alone.
module _ (p : ℕ) (low : p < 64) where
  one_put : 1 * 2 ^ p % 2 ^ 64 ≡ put 0 p true
  one_put = weight 64 p low ∙ sum ∙ put_in_new 0 p (member-zero p)
    where
      sum : 2 ^ p ≡ 0 + 2 ^ p
      sum = omega arith

  pub member_one : (q : ℕ) → member (1 * 2 ^ p % 2 ^ 64) q ≡ eqb q p
  member_one q = dite (ℕ_discrete q p)
      (λ (e : q ≡ p). rw e (ap (λ (n : ℕ). member n p) one_put ∙ member-put_same 0 p true ∙ sym (eq-eqb p p refl)))
      (λ (n : q ≡ p → ⊥). ap (λ (n : ℕ). member n q) one_put ∙ member-put_other 0 p q true n ∙ member-zero q ∙ sym (ne_eqb q p n))

-- A word that is not 0 has some member.
pub some-member : (x : ℕ) → (x ≡ 0 → ⊥) → (p : ℕ) × (member x p ≡ true)
some-member x some =
    by_test (any_below (member x) x) (λ e. let found = any_cases (member x) x e in (found.0, found.1.1))
    (λ e. absurd (some (same_members x x 0 (lt_power x) (pow_pos x) (λ v l. any_none (member x) x v e l ∙ sym (member-zero v)))))

-- ---------------------------------------------------------------- one person's flags

pub column_at : (ws : List ℕ) (p k : ℕ) → get_or (column ws p) k false ≡ member (get_or ws k 0) p
unfolding column
column_at ws p k = ap (λ (d : Bool). get_or (column ws p) k d) (sym (member-zero p)) ∙ get_or-map (λ (w : ℕ). member w p) ws k 0

pub column_size : (ws : List ℕ) (p : ℕ) → length (column ws p) ≡ length ws
unfolding column
column_size ws p = length-map ws (λ (w : ℕ). member w p)

-- Flags are the same where each is.
pub same_column : (ws vs : List ℕ) (p q : ℕ) → length ws ≡ length vs → ((k : ℕ) → k < length ws → member (get_or ws k 0) p ≡ member (get_or vs k 0) q)
    → column ws p ≡ column vs q
same_column ws vs p q size same =
    ext_get_or false (column ws p) (column vs q) (column_size ws p ∙ size ∙ sym (column_size vs q))
    (λ k l. column_at ws p k ∙ same k (omega (arith, column_size ws p)) ∙ sym (column_at vs q k))

-- ---------------------------------------------------------------- flags set for some persons

pub lit_none : (who : ℕ) (ws : List ℕ) → Lit who (λ _. false) ws ws
lit_none who ws = record { size = refl; flags = λ k p l. none (member (get_or ws k 0) p) (member who p) }
  where
    none : (a b : Bool) → a ≡ a || (b && false)
    none true b = refl
    none false true = refl
    none false false = refl

-- One set of flags, and then another.
pub lit_both : {who : ℕ} {g h : ℕ → Bool} {before between after : List ℕ} → Lit who g before between → Lit who h between after
    → Lit who (λ k. g k || h k) before after
lit_both {who} {g} {h} {before} {between} a b =
    record {
      size = b.size ∙ a.size;
      flags = λ k p l. b.flags k p l ∙ ap (λ (t : Bool). t || (member who p && h k)) (a.flags k p l)
          ∙ both (member (get_or before k 0) p) (member who p) (g k) (h k);
    }
  where
    both : (a w g h : Bool) → (a || (w && g)) || (w && h) ≡ a || (w && (g || h))
    both true w g h = refl
    both false true true h = refl
    both false true false h = refl
    both false false g h = refl

-- The same flags, told in another way.
pub lit_same : {who : ℕ} {g h : ℕ → Bool} {before after : List ℕ} → ((k : ℕ) → k < 448 → g k ≡ h k) → Lit who g before after → Lit who h before after
lit_same {who} {g} {h} {before} same a =
    record {
      size = a.size;
      flags = λ k p l. a.flags k p l ∙ ap (λ (t : Bool). member (get_or before k 0) p || (member who p && t)) (same k l);
    }

-- Flags that are set or not by a test: for the persons, or for none.
pub lit_only : {who w : ℕ} {g : ℕ → Bool} {before after : List ℕ} (on : Bool) → w ≡ cond on who 0 → Lit w g before after
    → Lit who (λ k. on && g k) before after
lit_only {g = g} {before} {after} true e a = subst (λ (n : ℕ). Lit n g before after) e a
lit_only {who} {g = g} {before} false e a =
    record {
      size = a.size;
      flags = λ k p l. a.flags k p l ∙ ap (λ (n : ℕ). member (get_or before k 0) p || (member n p && g k)) e
          ∙ ap (λ (t : Bool). member (get_or before k 0) p || (t && g k)) (member-zero p)
          ∙ ap (λ (t : Bool). member (get_or before k 0) p || t) (sym (and-false (member who p)));
    }

-- One flag set.
pub lit_one : (who : ℕ) (ws : List ℕ) (k : ℕ) → k < 448 → length ws ≡ 448 → Lit who (λ j. eqb j k) ws (set ws k (bit_or (get_or ws k 0) who))
lit_one who ws k low size =
    record {
      size = length-set ws k (bit_or (get_or ws k 0) who);
      flags = λ j p l. dite (ℕ_discrete j k)
          (λ (e : j ≡ k). rw e (ap (λ (n : ℕ). member n p) (get_or-set_same ws k (bit_or (get_or ws k 0) who) 0 (omega arith))
          ∙ member-or (get_or ws k 0) who p ∙ ap (λ (t : Bool). member (get_or ws k 0) p || t) (sym (rw (eq-eqb k k refl) (and-true (member who p))))))
          (λ (n : j ≡ k → ⊥). ap (λ (n : ℕ). member n p) (get_or-set_other ws k j (bit_or (get_or ws k 0) who) 0 n)
          ∙ rw (ne_eqb j k n) ((lit_none who ws).flags j p l));
    }

module _ {who : ℕ} {g : ℕ → Bool} {before after : List ℕ} (lit : Lit who g before after) (size : length before ≡ 448) (p : ℕ) where
  -- Whoever is none of the persons shows what was shown.
  pub lit_other : member who p ≡ false → column after p ≡ column before p
  lit_other out =
      same_column after before p p lit.size
      (λ k l. lit.flags k p (omega (arith, lit.size)) ∙ ap (λ (t : Bool). member (get_or before k 0) p || (t && g k)) out ∙ or-false (member (get_or before k 0) p))

  -- One of the persons shows the flags besides.
  pub lit_own : member who p ≡ true → (k : ℕ) → k < 448 → get_or (column after p) k false ≡ get_or (column before p) k false || g k
  lit_own is k l =
      column_at after p k ∙ lit.flags k p l ∙ ap (λ (t : Bool). member (get_or before k 0) p || (t && g k)) is
      ∙ ap (λ (t : Bool). t || g k) (sym (column_at before p k))

-- So a fact put in for the persons is put in for each of them.
pub lit_put : {T : List Bool} {who f : ℕ} {before after : List ℕ} → Lit who (touches T f) before after → length before ≡ 448 → (p : ℕ)
    → member who p ≡ true → Put T (column before p) f (column after p)
lit_put {before = before} {after} lit size p is =
    record { size = column_size after p ∙ lit.size ∙ sym (column_size before p); flags = lit_own lit size p is }

-- ---------------------------------------------------------------- one person's flags written

-- The first k flags of person p are those of `s`, the others clear; every other person shows what was shown.
pub record PutSoFar (p : ℕ) (s : List Bool) (before ws : List ℕ) (k : ℕ) : Type 0 where
  pub size : length ws ≡ 448
  pub fits : k ≤ 448
  pub here : (j : ℕ) → j < k → member (get_or ws j 0) p ≡ get_or s j false
  pub rest : (j : ℕ) → k ≤ j → j < 448 → member (get_or ws j 0) p ≡ false
  pub there : (j q : ℕ) → j < 448 → (q ≡ p → ⊥) → member (get_or ws j 0) q ≡ member (get_or before j 0) q

module _ {p : ℕ} {s : List Bool} {before ws : List ℕ} {k : ℕ} (low : k < 448) (so_far : PutSoFar p s before ws k) where
  -- A flag that is set.
  pub put_more : (who : ℕ) → ((q : ℕ) → member who q ≡ eqb q p) → {after : List ℕ} → get_or s k false ≡ true → Lit who (λ j. eqb j k) ws after
      → PutSoFar p s before after (k + 1)
  put_more who alone {after} shown lit =
      record {
        size = lit.size ∙ so_far.size;
        fits = omega arith;
        here = λ j l. dite (ℕ_discrete j k)
            (λ (e : j ≡ k). rw e (flag k p low ∙ rw (eq-eqb p p refl, eq-eqb k k refl) (or-true (member (get_or ws k 0) p)) ∙ sym shown))
            (λ (n : j ≡ k → ⊥). kept j p (omega arith) n ∙ so_far.here j (omega arith));
        rest = λ j l m. kept j p m (omega arith) ∙ so_far.rest j (omega arith) m;
        there = λ j q l n. flag j q l ∙ rw (ne_eqb q p n) (or-false (member (get_or ws j 0) q)) ∙ so_far.there j q l n;
      }
    where
      flag : (j q : ℕ) → j < 448 → member (get_or after j 0) q ≡ member (get_or ws j 0) q || (eqb q p && eqb j k)
      flag j q l = lit.flags j q l ∙ ap (λ (t : Bool). member (get_or ws j 0) q || (t && eqb j k)) (alone q)

      kept : (j q : ℕ) → j < 448 → (j ≡ k → ⊥) → member (get_or after j 0) q ≡ member (get_or ws j 0) q
      kept j q l n =
          flag j q l ∙ ap (λ (t : Bool). member (get_or ws j 0) q || (eqb q p && t)) (ne_eqb j k n)
          ∙ ap (λ (t : Bool). member (get_or ws j 0) q || t) (and-false (eqb q p)) ∙ or-false (member (get_or ws j 0) q)

  -- A flag that is not.
  pub put_skip : get_or s k false ≡ false → PutSoFar p s before ws (k + 1)
  put_skip hidden =
      record {
        size = so_far.size;
        fits = omega arith;
        here = λ j l. dite (ℕ_discrete j k)
            (λ (e : j ≡ k). rw e (so_far.rest k (omega arith) low ∙ sym hidden))
            (λ (n : j ≡ k → ⊥). so_far.here j (omega arith));
        rest = λ j l m. so_far.rest j (omega arith) m;
        there = so_far.there;
      }

pub put_all : {p : ℕ} {s : List Bool} {before ws : List ℕ} {k : ℕ} → PutSoFar p s before ws k → 448 ≤ k → length s ≡ 448 → length before ≡ 448
    → ColumnPut p s before ws
put_all {p} {s} {before} {ws} so_far h size_s size =
    record {
      size = so_far.size ∙ sym size;
      here = ext_get_or false (column ws p) s (column_size ws p ∙ so_far.size ∙ sym size_s)
          (λ j l. column_at ws p j ∙ so_far.here j (omega (arith, column_size ws p, so_far.size)));
      there = λ q n. same_column ws before q q (so_far.size ∙ sym size) (λ j l. so_far.there j q (omega (arith, so_far.size)) n);
    }
