-- Laws of a book's sizes: what passed fields say, what a passed first line says, and that F is small.
use mathlib.Core.Path.{◌≡◌, refl, sym, ◌∙◌}
use mathlib.Core.Logic.{dite}
use mathlib.Core.Bool.{true, ◌&&◌}
use mathlib.Core.List.{List}
use Prim.Native.Nat.{ℕ, zero, suc, ◌+◌, ◌*◌, ◌≤◌, ◌<◌}
use native.Mathlib.Decide.{dec_lt}
use native.Mathlib.Nat.{mul-le-mul_left}
use native.Mathlib.Omega.{arith}
use lib.Dec.{leb, ltb}
use lib.ListN.{length, get_or}
use borrow.Author.Tests.{leb-true, ltb-true}
use Rattle.quantifiers.specs.Quantifiers.{all_below, sum_below}
use Rattle.quantifiers.proofs.BoolLaws.{and_both}
use Rattle.quantifiers.proofs.BelowLaws.{all_at, sum_most}
use Rattle.lines.specs.Digits.{byte_at}
use Rattle.lines.proofs.FrameLaws.{byte_past}
use Rattle.sizes.specs.declared.Sizes.{Sizes}
use Rattle.sizes.specs.Sizes.{between, values_of, is_attr, is_value, count_at, count_good_at, sizes_good, counts_of, sizes_of, value_count, fact_count}
use Rattle.sizes.specs.Inner.Ranges.{InRange}

-- "lo-hi"
pub between-true : (lo hi n : ℕ) → between lo hi n ≡ true → (lo ≤ n) × (n ≤ hi)
between-true lo hi n e = let b = and_both (leb lo n) (leb n hi) e in (leb-true lo n b.0, leb-true n hi b.1)

-- ---------------------------------------------------------------- a value of an attribute

-- It lies below the attribute's own count.
pub value_in : (z : Sizes) (a v : ℕ) → is_value z a v ≡ true → (a < z.attrs) × (v < values_of z a)
value_in z a v e =
    let both = and_both (is_attr z a) (ltb v (values_of z a)) e in
    (ltb-true a z.attrs both.0, ltb-true v (values_of z a) both.1)

-- Both numbers are small, whatever the counts.
pub value_bounds : (z : Sizes) (a v : ℕ) → InRange z → is_value z a v ≡ true → (a < 8) × (v < 16)
value_bounds z a v range e =
    let own = value_in z a v e in
    (omega (arith, own.0, range.attrs_most), omega (arith, own.1, range.values_most a))

-- ---------------------------------------------------------------- a passed first line

-- In a frame of at most eight counts the list of eight has count a, wherever a lies.
count_at_lem : (x : List ℕ) → length x ≤ 12 → (a : ℕ) → get_or (counts_of x) a 0 ≡ count_at x a
unfolding counts_of
count_at_lem x short zero = refl
count_at_lem x short (suc zero) = refl
count_at_lem x short (suc (suc zero)) = refl
count_at_lem x short (suc (suc (suc zero))) = refl
count_at_lem x short (suc (suc (suc (suc zero)))) = refl
count_at_lem x short (suc (suc (suc (suc (suc zero))))) = refl
count_at_lem x short (suc (suc (suc (suc (suc (suc zero)))))) = refl
count_at_lem x short (suc (suc (suc (suc (suc (suc (suc zero))))))) = refl
count_at_lem x short (suc (suc (suc (suc (suc (suc (suc (suc a)))))))) =
    byte_past x (4 + suc (suc (suc (suc (suc (suc (suc (suc a)))))))) (omega arith)

-- A frame of the length that its A gives, whose fields are in their ranges, writes sizes in range: each attribute has its own count, and
-- one that the book has not has none, since there the frame is at its end.
module _ (x : List ℕ) (long : length x ≡ 4 + byte_at x 3) (good : sizes_good x ≡ true) where
  record Ranges : Type 0 where
    persons : between 1 64 (byte_at x 1) ≡ true
    crews : leb (byte_at x 2) 32 ≡ true
    attrs : between 1 8 (byte_at x 3) ≡ true
    counts : all_below (count_good_at x) (byte_at x 3) ≡ true

  ranges : Ranges
  unfolding sizes_good
  ranges =
      let c = and_both (between 1 64 (byte_at x 1) && leb (byte_at x 2) 32 && between 1 8 (byte_at x 3)) (all_below (count_good_at x) (byte_at x 3)) good in
      let a = and_both (between 1 64 (byte_at x 1) && leb (byte_at x 2) 32) (between 1 8 (byte_at x 3)) c.0 in
      let g = and_both (between 1 64 (byte_at x 1)) (leb (byte_at x 2) 32) a.0 in
      record { persons = g.0; crews = g.1; attrs = a.1; counts = c.1 }

  -- What `values_of` means: the count that the frame has for the attribute.
  pub own_count : (a : ℕ) → values_of (sizes_of x) a ≡ count_at x a
  unfolding values_of sizes_of
  own_count a = count_at_lem x (omega (arith, long, between-true 1 8 (byte_at x 3) ranges.attrs)) a

  in_place : (a : ℕ) → a < byte_at x 3 → (1 ≤ values_of (sizes_of x) a) × (values_of (sizes_of x) a ≤ 16)
  in_place a l = rw (own_count a) (between-true 1 16 (count_at x a) (all_at (count_good_at x) (byte_at x 3) a ranges.counts l))

  absent : (a : ℕ) → byte_at x 3 ≤ a → values_of (sizes_of x) a ≡ 0
  absent a l = own_count a ∙ sym (byte_past x (4 + a) (omega (arith, long)))

  pub sizes_good_lem : InRange (sizes_of x)
  unfolding sizes_of
  sizes_good_lem =
      record {
        persons_some = (between-true 1 64 (byte_at x 1) ranges.persons).0;
        persons_most = (between-true 1 64 (byte_at x 1) ranges.persons).1;
        crews_most = leb-true (byte_at x 2) 32 ranges.crews;
        attrs_some = (between-true 1 8 (byte_at x 3) ranges.attrs).0;
        attrs_most = (between-true 1 8 (byte_at x 3) ranges.attrs).1;
        values_some = λ a l. (in_place a l).0;
        values_most = λ a.
            dite (dec_lt a (byte_at x 3))
            (λ (l : a < byte_at x 3). (in_place a l).1)
            (λ (l : a < byte_at x 3 → ⊥). omega (arith, absent a (omega arith)));
        values_none = λ a l. absent a l;
      }

-- ---------------------------------------------------------------- the bound F

-- The values of each crew and of the person, and the crews that the person may be in.
pub facts_are : (z : Sizes) → fact_count z ≡ (1 + z.crews) * value_count z + z.crews
unfolding fact_count
facts_are z = refl

module _ (z : Sizes) (range : InRange z) where
  -- The counts below an attribute are at most 16 each.
  pub counts_few : (a : ℕ) → sum_below (values_of z) a ≤ a * 16
  counts_few a = sum_most (values_of z) 16 a (λ i l. range.values_most i)

  -- The product of F stays small.
  pub values_few : (1 + z.crews) * value_count z ≤ 4224
  values_few =
      let few : value_count z ≤ 128 = omega (arith, counts_few z.attrs, range.attrs_most) in
      omega (arith, mul-le-mul_left (1 + z.crews) few, range.crews_most)

  pub facts_few : fact_count z ≤ 4256
  facts_few = omega (arith, facts_are z, values_few, range.crews_most)
