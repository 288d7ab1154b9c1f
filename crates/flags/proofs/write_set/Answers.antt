-- Before byte `m` from the end the numbers of the bytes behind it are written. Assumes nothing.
use Rattle.flags.proofs.FlagLaws.{set_more}
use Rattle.flags.proofs.write_set.Goals as goal

pub loop-m-preserved : goal.loop-m-preserved
loop-m-preserved c =
    set_more c.args.facts.now c.args.place c.args.at c.loop-m.m c.args.w c.loop-m-test.true c.loop-m.invariant
    (rw (c.from.ensures, c.byte_at-byte.ensures) at c.write_bits.ensures)
