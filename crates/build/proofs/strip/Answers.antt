-- The facts that are not forbidden, place by place. Assumes nothing.
use Rattle.build.proofs.BuildLaws.{strip_all}
use Rattle.build.proofs.strip.Goals as goal

pub returns : goal.returns
returns c = strip_all c.loop-k.invariant c.loop-k-test.false
