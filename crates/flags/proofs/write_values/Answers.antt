-- Before attribute `a` those below it are written. Assumes nothing.
use Rattle.flags.proofs.FlagLaws.{values_more}
use Rattle.flags.proofs.write_values.Goals as goal

pub loop-a-preserved : goal.loop-a-preserved
loop-a-preserved c = values_more c.args.facts.now c.args.place c.loop-a.a c.loop-a.invariant c.write_set.ensures
