-- `grow::add_all` meets its contract: the additions so far, and below `f` nothing is free (`Adding`). An addition begins the sweep again; the measure
-- counts the additions left, then the facts left. Assumes nothing.
use mathlib.Core.Path.{sym, ◌∙◌}
use Rattle.grow.proofs.TableLaws.{adding_less, adding-room, adding-more, adding_ends}
use native.Mathlib.Omega.{arith}
use Rattle.grow.proofs.add_all.Goals as goal

pub bounds-order-n : goal.bounds-order-n
bounds-order-n c =
    omega (
      arith,
      c.loop-f.invariant.size_order,
      adding-room c.loop-f.invariant c.loop-f-test.true
          (sym c.is_free.ensures ∙ c.if-is_free.true),
    )

pub loop-f-smaller-then-is_free : goal.loop-f-smaller-then-is_free
loop-f-smaller-then-is_free c =
    adding_less _ _
    (adding-room c.loop-f.invariant c.loop-f-test.true
    (sym c.is_free.ensures ∙ c.if-is_free.true))

pub loop-f-preserved-then-is_free : goal.loop-f-preserved-then-is_free
loop-f-preserved-then-is_free c =
    adding-more c.loop-f.invariant c.loop-f-test.true
    (sym c.is_free.ensures ∙ c.if-is_free.true)

pub returns : goal.returns
returns c = adding_ends c.loop-f.invariant c.loop-f-test.false
