-- `reader::decode_front` meets its contract. The invariant `Begun` says that k bytes of the first line are written; two digits more
-- are a byte more (`front_more`); what is left to go over are the characters behind them, up to the most. Assumes nothing.
use mathlib.Core.Path.{◌≡◌}
use Prim.Native.Nat.{◌*◌, ◌≤◌}
use lib.ListN.{drop, take}
use Rattle.std.specs.Iterator.Adapters.{enumerate_source, enumerate_count}
use Rattle.std.specs.Slice.Iter.{chunks_exact_rest, chunks_exact_size}
use Rattle.reader.specs.Inner.Front.{first_line, Begun}
use Rattle.reader.proofs.decode_front.Given as goal

abbrev pub invariant-loop-k : goal.invariant-loop-k
invariant-loop-k l = record {
  size : chunks_exact_size (enumerate_source l.k-iterator) ≡ 2;
  left : chunks_exact_rest (enumerate_source l.k-iterator) ≡ drop (2 * enumerate_count l.k-iterator) (take (2 * l.most) l.x);
  most : enumerate_count l.k-iterator ≤ l.most;
  begun : Begun (first_line l.x) l.initial.frame (enumerate_count l.k-iterator) l.frame;
}
