-- `reader::decode_short` meets its contract. The invariant `Decoding` says that k bytes of the frame are written and that the characters
-- from 2 × k on decide the rest. Assumes nothing.
use mathlib.Core.Path.{◌≡◌, refl, ap, sym, ◌∙◌}
use mathlib.Core.Bool.{true≢false}
use borrow.Author.Tests.{eqb-true, eq-eqb}
use lib.ListN.{length, length-drop}
use Prim.Native.Nat.{◌+◌, ◌*◌, ◌/◌, ◌<◌}
use native.Mathlib.Omega.{arith}
use Rattle.std.specs.Iterator.Adapters.{enumerate_source, enumerate_count}
use Rattle.std.specs.Slice.Iter.{chunks_exact_rest}
use Rattle.lines.specs.Digits.{digit}
use Rattle.lines.proofs.DigitLaws.{malformed_empty, malformed_odd}
use Rattle.reader.proofs.DecodingLaws.{next_pair, decode-high, decode-low, decode-more, decode_all}
use Rattle.reader.proofs.decode_short.Goals as goal
use Rattle.reader.proofs.decode_short.Goals.{then-is_empty-via-then-is_empty, then-is_empty-via-else-is_empty+then-x-eq1}
use Rattle.reader.proofs.decode_short.Goals.{then-high-ge16-via-then-high-ge16, then-high-ge16-via-else-high-ge16+then-low-ge16}

pub returns-then-is_empty : goal.returns-then-is_empty
returns-then-is_empty c =
    elim c.then-is_empty.branch [
      | then-is_empty-via-then-is_empty w ↦ record { written = sym (malformed_empty _ (eqb-true _ 0 (sym c.is_empty.ensures ∙ w.if-is_empty.true))); size = refl }
      | then-is_empty-via-else-is_empty+then-x-eq1 w ↦ record { written = sym (malformed_odd _ (λ z. true≢false (sym (eq-eqb _ 0 z) ∙ sym c.is_empty.ensures ∙ w.if-is_empty.false)) w.if-x-eq1.true); size = refl }
    ]

pub returns-then-high-ge16 : goal.returns-then-high-ge16
returns-then-high-ge16 c =
    let turn = c.loop-k.invariant in
    let chunk = c.in-Some.ensures.steps.0 in
    let next = next_pair c.args.x.now (enumerate_count c.loop-k.k-iterator) c.in-Some.pair.now (chunks_exact_rest (enumerate_source c.next.new.self))
    turn.left chunk.1.0 (chunk.1.1 ∙ turn.size) in
    elim c.then-high-ge16.branch [
      | then-high-ge16-via-then-high-ge16 w ↦
          decode-high _ _ _ _ turn.decoding (omega (arith, next.within)) _ (c.digit_of-high.ensures ∙ ap digit next.high) w.if-high-ge16.true
      | then-high-ge16-via-else-high-ge16+then-low-ge16 w ↦
          decode-low _ _ _ _ turn.decoding (omega (arith, next.within)) _ (c.digit_of-high.ensures ∙ ap digit next.high) w.if-high-ge16.false _
          (c.digit_of-low.ensures ∙ ap digit next.low) w.if-low-ge16.true
    ]

pub loop-k-preserved : goal.loop-k-preserved
loop-k-preserved c =
    let turn = c.loop-k.invariant in
    let steps = c.in-Some.ensures.steps in
    let chunk = steps.0 in
    let next = next_pair c.args.x.now (enumerate_count c.loop-k.k-iterator) c.in-Some.pair.now (chunks_exact_rest (enumerate_source c.next.new.self))
    turn.left chunk.1.0 (chunk.1.1 ∙ turn.size) in
    record {
      size = chunk.0 ∙ turn.size;
      left = rw steps.2 next.behind;
      decoding = rw (steps.2, steps.1)
          (decode-more _ _ _ _ turn.decoding (omega (arith, next.within)) _ (c.digit_of-high.ensures ∙ ap digit next.high) c.if-high-ge16.false _
          (c.digit_of-low.ensures ∙ ap digit next.low) c.if-low-ge16.false
          (omega (arith, turn.decoding.begun.size, c.requires.1, next.within)));
    }

pub returns : goal.returns
returns c =
    let turn = c.loop-k.invariant in
    let k = enumerate_count c.loop-k.k-iterator in
    let x = c.args.x.now in
    let few : length x < 2 * k + 2 = omega (arith, c.in-None.ensures.steps.0.1.0, turn.size, ap length turn.left, length-drop (2 * k) x) in
    let all : k ≡ length x / 2 = omega (arith, few, turn.decoding.begun.within) in
    rw (sym all) (decode_all _ _ _ _ turn.decoding (omega (arith, few, turn.decoding.even, turn.decoding.begun.within)))
