-- A frame of over 64 bytes is refused, and its first 64 bytes and its length tell by which number.
use mathlib.Core.Path.{◌≡◌, refl}
use mathlib.Core.Bool.{Bool, true, false, cond, ◌&&◌, and-false}
use mathlib.Core.List.{List}
use Prim.Native.Nat.{ℕ, ◌+◌, ◌*◌, ◌<◌}
use native.Mathlib.Omega.{arith}
use lib.Dec.{eqb, leb}
use lib.ListN.{length, take}
use lib.Seq.{get_or-take}
use borrow.Author.Tests.{lt-leb, eqb-true, not-false}
use Rattle.lines.specs.Digits.{byte_at}
use Rattle.gate.specs.declared.Known.{Known}
use Rattle.gate.specs.declared.Fault.TheVariants.{Misplaced, Mislengthed, Outside}
use Rattle.gate.specs.Gate.{Verdict}
use Rattle.gate.specs.Gate.{Bad}
use Rattle.gate.specs.Gate.{misplaced, length_of, mislengthed, rule_good, query_good, sizes_verdict, edge_verdict, fact_verdict, rule_verdict, query_verdict}
use Rattle.gate.specs.Gate.{fields_verdict, verdict}
use Rattle.sizes.specs.Sizes.{between, sizes_good}
use Rattle.gate.specs.Inner.Long.{due_length, long_fault}

-- A row of tests of which the middle one fails.
fails : (a t b : Bool) → t ≡ false → a && t && b ≡ false
fails a t b e = rw (e, and-false a) refl

-- An A over 8 is outside its range.
sizes_over : (x : List ℕ) → 8 < byte_at x 3 → sizes_verdict x ≡ Bad Outside
unfolding sizes_verdict sizes_good
sizes_over x over =
    rw (fails _ (between 1 8 (byte_at x 3)) _ (rw (lt-leb (byte_at x 3) 8 over) (and-false (leb 1 (byte_at x 3))))) refl

-- So is an n or q over 8.
module _ (k : Known) (x : List ℕ) (over : 8 < byte_at x 5) where
  rule_over : rule_verdict k x ≡ Bad Outside
  unfolding rule_verdict rule_good
  rule_over = rw (fails _ (leb (byte_at x 5) 8) _ (lt-leb (byte_at x 5) 8 over)) refl

  query_over : query_verdict k.sizes x ≡ Bad Outside
  unfolding query_verdict query_good
  query_over = rw (fails _ (leb (byte_at x 5) 8) _ (lt-leb (byte_at x 5) 8 over)) refl

module _ (k : Known) (x : List ℕ) (long : 64 < length x) where
  -- Only a first line has such a length, by an A over 8, or a rule's or a query's frame, by an n or q over 8.
  fields_long : mislengthed x ≡ false → fields_verdict k x ≡ Bad Outside
  unfolding mislengthed length_of fields_verdict
  fields_long right =
      let due : length x ≡ due_length x = eqb-true (length x) (due_length x) (not-false _ right) in
      by_kind (eqb (byte_at x 0) 1) (eqb (byte_at x 0) 2) (eqb (byte_at x 0) 3) (eqb (byte_at x 0) 4) (between 2 3 (byte_at x 1))
      (edge_verdict k.sizes x) (fact_verdict k.sizes x) due
    where
      n : ℕ
      n = byte_at x 5

      by_kind : (one two three four mode : Bool) (e f : Verdict)
          → length x ≡ cond one (4 + byte_at x 3) (cond two 3 (cond three (6 + 3 * n) (cond four 5 (6 + 3 * n + cond mode 4 0))))
          → cond one (sizes_verdict x) (cond two e (cond three (rule_verdict k x) (cond four f (query_verdict k.sizes x)))) ≡ Bad Outside
      by_kind true two three four mode e f size = sizes_over x (omega arith)
      by_kind false true three four mode e f size = absurd (omega arith)
      by_kind false false true four mode e f size = rule_over k x (omega arith)
      by_kind false false false true mode e f size = absurd (omega arith)
      by_kind false false false false true e f size = query_over k x (omega arith)
      by_kind false false false false false e f size = query_over k x (omega arith)

  pub long_bad : verdict k x ≡ Bad (long_fault k (take 64 x) (length x))
  unfolding verdict long_fault mislengthed byte_at
  long_bad = rw (get_or-take 64 x 0 0 (omega arith), get_or-take 64 x 1 0 (omega arith), get_or-take 64 x 3 0 (omega arith), get_or-take 64 x 5 0 (omega arith))
      (by_tests (misplaced k (byte_at x 0)) (mislengthed x) (fields_verdict k x) fields_long)
    where
      by_tests : (three four : Bool) (v : Verdict) → (four ≡ false → v ≡ Bad Outside)
          → cond three (Bad Misplaced) (cond four (Bad Mislengthed) v) ≡ Bad (cond three Misplaced (cond four Mislengthed Outside))
      by_tests true four v rest = refl
      by_tests false true v rest = refl
      by_tests false false v rest = rest refl
