-- The move of a rule: the places of the first `j` terms are written. Assumes nothing.
use Rattle.level.proofs.TermLaws.{PlacesSoFar}
use Rattle.level.proofs.move_of.Given as goal

abbrev pub invariant-loop-j : goal.invariant-loop-j
invariant-loop-j l = PlacesSoFar l.r l.terms l.j
