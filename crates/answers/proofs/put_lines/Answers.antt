-- `answers::put_lines` meets its contract: the invariant says that the lines before those left are written, and that those left have room.
-- Assumes nothing.
use mathlib.Core.Path.{refl, ◌∙◌}
use native.Mathlib.Omega.{arith}
use Rattle.std.specs.Slice.Iter.{chunks_exact_rest}
use Rattle.answers.proofs.WrittenLaws.{list_more, list_all}
use Rattle.answers.proofs.put_lines.Goals as goal

pub loop-row-preserved : goal.loop-row-preserved
loop-row-preserved c =
    let steps = c.in-Some.ensures.steps in
    let size = c.loop-row.invariant.0 in (
      steps.0 ∙ size,
      list_more c.loop-row.invariant.1 c.in-Some.row.now (chunks_exact_rest c.next.new.self) c.requires.0 steps.1.0 (steps.1.1 ∙ size) refl
          c.put_line-end.ensures,
    )

pub returns : goal.returns
returns c = list_all c.loop-row.invariant.1 (omega (arith, c.in-None.ensures.steps.1.0, c.loop-row.invariant.0))
