-- `bixorgun::write_view` meets its contract: the invariant says that the sets before this one are written. Assumes nothing.
use Rattle.bixorgun.proofs.CodeLaws.{SetsWritten}
use Rattle.bixorgun.proofs.write_view.Given as goal

abbrev pub invariant-loop-i : goal.invariant-loop-i
invariant-loop-i l = SetsWritten l.set-items l.initial.view l.i l.view
