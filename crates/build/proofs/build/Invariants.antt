-- Flags built fact by fact: after `f` facts those below `f` are put in. Assumes nothing.
use Rattle.build.proofs.BuildLaws.{BuiltSoFar}
use Rattle.build.proofs.build.Given as goal

abbrev pub invariant-loop-f : goal.invariant-loop-f
invariant-loop-f l = BuiltSoFar l.table l.d l.x l.f
