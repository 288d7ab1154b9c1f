-- `books::plan` is safe: each answer fits its text, the text's first line ends within it, and a plan's requests lie within the buffer.
-- Assumes nothing.
use mathlib.Core.Path.{sym}
use native.Mathlib.Omega.{arith}
use lib.Seq.{length-take-le}
use Rattle.lines.proofs.LineLaws.{end-within}
use Rattle.books.proofs.plan.Goals as goal

pub slice_bounds-text-end : goal.slice_bounds-text-end
slice_bounds-text-end g c = omega (arith, c.line_end-end.ensures, end-within c.put_answer.new.text, c.put_answer.ensures.size)

pub slice_bounds-write_all-end : goal.slice_bounds-write_all-end
slice_bounds-write_all-end g c =
    sym (length-take-le _ _ (omega (arith, c.line_end-end.ensures, end-within c.put_answer.new.text)))
