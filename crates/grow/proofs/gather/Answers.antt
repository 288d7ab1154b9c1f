-- `grow::gather` meets its contract: needed facts alone are put in, and below term `i` nothing new is asked for (`Gathering`). A fact put in begins the
-- sweep again; the measure counts the facts left to put in, then the terms left. Assumes nothing.
use mathlib.Core.Path.{sym, ◌∙◌}
use Rattle.grow.proofs.TableLaws.{gather-less, gathering-more, gathering_ends, new_parts}
use native.Mathlib.Omega.{arith}
use Rattle.grow.proofs.gather.Goals as goal

pub bounds-d-g : goal.bounds-d-g
bounds-d-g c =
    omega (
      arith,
      c.from-g.ensures,
      (new_parts _ _ _ _ c.loop-i-test.true
          (sym c.asks_new.ensures ∙ c.if-asks_new.true)).low,
      c.loop-i.invariant.size,
    )

pub loop-i-smaller-then-asks_new : goal.loop-i-smaller-then-asks_new
loop-i-smaller-then-asks_new c =
    rw c.from-g.ensures
    (gather-less c.loop-i.invariant c.loop-i-test.true
    (sym c.asks_new.ensures ∙ c.if-asks_new.true))

pub loop-i-preserved-then-asks_new : goal.loop-i-preserved-then-asks_new
loop-i-preserved-then-asks_new c =
    rw c.from-g.ensures
    (gathering-more c.loop-i.invariant c.loop-i-test.true
    (sym c.asks_new.ensures ∙ c.if-asks_new.true))

pub returns : goal.returns
returns c = gathering_ends c.loop-i.invariant c.loop-i-test.false
