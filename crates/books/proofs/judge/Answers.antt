-- `books::judge` is safe: the first line of the text ends within it. Assumes nothing.
use mathlib.Core.Path.{sym}
use native.Mathlib.Omega.{arith}
use lib.Seq.{length-take-le}
use Rattle.lines.proofs.LineLaws.{end-within}
use Rattle.books.proofs.judge.Goals as goal

pub slice_bounds-text-end : goal.slice_bounds-text-end
slice_bounds-text-end g c = omega (arith, c.line_end-end.ensures, end-within c.put_reading.new.text, c.put_reading.ensures.size)

pub slice_bounds-write_all-end : goal.slice_bounds-write_all-end
slice_bounds-write_all-end g c =
    sym (length-take-le _ _ (omega (arith, c.line_end-end.ensures, end-within c.put_reading.new.text)))
