-- `reader::decode_front` meets its contract. The invariant `Begun` says that k bytes of the first line are written; two digits more
-- are a byte more (`front_more`). Assumes nothing.
use mathlib.Core.Path.{◌≡◌, ◌∙◌}
use Prim.Native.Nat.{◌+◌, ◌*◌, ◌<◌}
use native.Mathlib.Omega.{arith}
use lib.ListN.{length, take}
use lib.Seq.{get_or-take, length-take-le}
use Rattle.std.specs.Iterator.Adapters.{enumerate_source, enumerate_count}
use Rattle.std.specs.Slice.Iter.{chunks_exact_rest}
use Rattle.reader.proofs.DecodingLaws.{next_pair, front_more}
use Rattle.reader.proofs.decode_front.Goals as goal

pub loop-k-preserved : goal.loop-k-preserved
loop-k-preserved c =
    let turn = c.loop-k.invariant in
    let k = enumerate_count c.loop-k.k-iterator in
    let x = c.args.x.now in
    let cut = take (2 * c.min-most.result) x in
    let size : length cut ≡ 2 * c.min-most.result = length-take-le (2 * c.min-most.result) x (omega (arith, c.min-most.ensures)) in
    let steps = c.in-Some.ensures.steps in
    let chunk = steps.0 in
    let next = next_pair cut k c.in-Some.pair.now (chunks_exact_rest (enumerate_source c.next.new.self)) turn.left chunk.1.0 (chunk.1.1 ∙ turn.size) in
    let more : k < c.min-most.result = omega (arith, next.within, size) in
    let high = c.from.ensures ∙ next.high ∙ get_or-take (2 * c.min-most.result) x (2 * k) 0 (omega arith) in
    let low = c.from-in-loop-k.ensures ∙ next.low ∙ get_or-take (2 * c.min-most.result) x (2 * k + 1) 0 (omega arith) in
    record {
      size = chunk.0 ∙ turn.size;
      left = rw steps.2 next.behind;
      most = omega (arith, steps.2, more);
      begun = rw (steps.2, steps.1)
          (front_more _ _ _ _ _ c.requires.0 turn.begun (omega (arith, c.min-most.ensures, more)) _ _
          high (omega (arith, high, c.type_inv.x (2 * k)))
          low (omega (arith, low, c.type_inv.x (2 * k + 1)))
          c.if-high-ge16.false c.if-low-ge16.false (omega (arith, turn.begun.size, more, c.min-most.ensures, c.requires.1)));
    }
