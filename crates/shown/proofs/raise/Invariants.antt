-- A value's flag and those of the lower ones: those from `k` to `f` are set. Assumes nothing.
use Rattle.shown.proofs.HigherLaws.{RaisedFrom}
use Rattle.shown.proofs.raise.Given as goal

abbrev pub invariant-loop-k : goal.invariant-loop-k
invariant-loop-k l = RaisedFrom l.f l.initial.x l.x l.k
