-- The flags from place 320 on: before attribute `a` those of the attributes below it are written. Assumes nothing.
use Rattle.shown.proofs.HigherLaws.{extended_more, extended-all}
use Rattle.shown.proofs.extend.Goals as goal

pub loop-a-preserved : goal.loop-a-preserved
loop-a-preserved c = extended_more c.loop-a.invariant c.loop-a-test.true c.extend_attribute.ensures

pub returns : goal.returns
returns c = extended-all c.loop-a.invariant c.loop-a-test.false
