-- `grow::add_all` meets its contract: the additions so far, and below `f` nothing is free (`Adding`). An addition begins the sweep again; the measure
-- counts the additions left, then the facts left. Assumes nothing.
use Rattle.grow.proofs.TableLaws.{Adding, adding_left}
use Rattle.grow.proofs.add_all.Given as goal

abbrev pub invariant-loop-f : goal.invariant-loop-f
invariant-loop-f l = Adding l.us l.ts l.d l.initial.x l.x l.order l.n l.f

abbrev pub decreases-loop-f : goal.decreases-loop-f
decreases-loop-f l = adding_left l.n l.f
