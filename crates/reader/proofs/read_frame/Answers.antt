-- `reader::read_frame` meets its contract: the line's end is within the book, and the cursor's number is within its bound, as `next`
-- asks. Assumes nothing.
use native.Mathlib.Omega.{arith}
use Prim.Native.Nat.{◌≤◌}
use lib.ListN.{length}
use Rattle.lines.proofs.LineLaws.{line_within}
use Rattle.reader.proofs.read_frame.Goals as goal

pub next-requires : goal.next-requires
next-requires c =
    let r = c.new-reader.result in
    let book = c.new-reader.ensures.0 in
    let within : r.cursor.at ≤ length r.book.now = rw (book, c.new-reader.ensures.1.0) c.requires.0 in
    let size : length r.book.now ≤ 65536 = rw book c.requires.1.0 in
    (omega (arith, line_within r.book.now r.cursor.at _ c.current-line.ensures.ends within), omega (arith, c.new-reader.ensures.1.1))
