-- `answers::put_lines` meets its contract: the invariant says that the lines before those left are written, and that those left have room.
-- Assumes nothing.
use mathlib.Core.Path.{◌≡◌}
use Rattle.std.specs.Slice.Iter.{chunks_exact_rest, chunks_exact_size}
use Rattle.answers.proofs.WrittenLaws.{Listing}
use Rattle.answers.proofs.put_lines.Given as goal

abbrev pub invariant-loop-row : goal.invariant-loop-row
invariant-loop-row l =
    (chunks_exact_size l.row-iterator ≡ l.width) × Listing l.width l.initial.text l.bytes (chunks_exact_rest l.row-iterator) l.text l.end
