-- `reader::decode_short` meets its contract. The invariant `Decoding` says that k bytes of the frame are written and that the characters
-- from 2 × k on decide the rest; these are what is left to go over. Assumes nothing.
use mathlib.Core.Path.{◌≡◌}
use Prim.Native.Nat.{◌*◌}
use lib.ListN.{drop}
use Rattle.std.specs.Iterator.Adapters.{enumerate_source, enumerate_count}
use Rattle.std.specs.Slice.Iter.{chunks_exact_rest, chunks_exact_size}
use Rattle.reader.proofs.DecodingLaws.{Decoding}
use Rattle.reader.proofs.decode_short.Given as goal

abbrev pub invariant-loop-k : goal.invariant-loop-k
invariant-loop-k l = record {
  size : chunks_exact_size (enumerate_source l.k-iterator) ≡ 2;
  left : chunks_exact_rest (enumerate_source l.k-iterator) ≡ drop (2 * enumerate_count l.k-iterator) l.x;
  decoding : Decoding l.x l.initial.frame (enumerate_count l.k-iterator) l.frame;
}
