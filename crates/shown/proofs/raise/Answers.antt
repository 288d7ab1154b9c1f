-- A value's flag and those of the lower ones: those from `k` to `f` are set. Assumes nothing.
use native.Mathlib.Omega.{arith}
use Rattle.shown.proofs.HigherLaws.{raised_stands, raised_all}
use Rattle.shown.proofs.raise.Goals as goal

pub returns-then-x-k : goal.returns-then-x-k
returns-then-x-k c = raised_stands c.loop-k.invariant c.loop-k-test.true c.requires.0 c.requires.1 c.if-x-k.true

pub returns : goal.returns
returns c = raised_all c.loop-k.invariant (omega arith)
