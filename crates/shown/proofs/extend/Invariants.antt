-- The flags from place 320 on: before attribute `a` those of the attributes below it are written. Assumes nothing.
use Rattle.shown.proofs.HigherLaws.{ExtendedSoFar}
use Rattle.shown.proofs.extend.Given as goal

abbrev pub invariant-loop-a : goal.invariant-loop-a
invariant-loop-a l = ExtendedSoFar l.initial.x l.x l.a
