-- `grow::gather` meets its contract: needed facts alone are put in, and below term `i` nothing new is asked for (`Gathering`). A fact put in begins the
-- sweep again; the measure counts the facts left to put in, then the terms left. Assumes nothing.
use Rattle.grow.proofs.TableLaws.{Gathering, gather_left}
use Rattle.grow.proofs.gather.Given as goal

abbrev pub invariant-loop-i : goal.invariant-loop-i
invariant-loop-i l = Gathering l.ts l.s l.initial.d l.d l.i

abbrev pub decreases-loop-i : goal.decreases-loop-i
decreases-loop-i l = gather_left l.d l.i
