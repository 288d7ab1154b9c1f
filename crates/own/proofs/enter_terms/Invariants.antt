-- `own::enter_terms` meets its contract: the first `j` terms are written (`Entering`). Assumes nothing.
use Rattle.own.proofs.EnteredLaws.{Entering}
use Rattle.own.proofs.enter_terms.Given as goal

abbrev pub invariant-loop-j : goal.invariant-loop-j
invariant-loop-j l = Entering l.initial.ts l.m l.j l.ts
