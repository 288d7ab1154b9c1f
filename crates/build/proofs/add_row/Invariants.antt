-- A crew's row is added to the effective flags: after `k` places the first `k` are done. Assumes nothing.
use Rattle.shown.proofs.ShownLaws.{RowSoFar}
use Rattle.build.proofs.add_row.Given as goal

abbrev pub invariant-loop-k : goal.invariant-loop-k
invariant-loop-k l = RowSoFar l.table l.c l.initial.x l.x l.k
