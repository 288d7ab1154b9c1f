-- A crew, a crew without a place, a person, a person without a place. Assumes nothing.
use Rattle.flags.proofs.FlagLaws.{start_no_crew, start_crew, start_no_person, start_person}
use Rattle.flags.proofs.start_flags.Goals as goal

pub returns-then-k-lt32 : goal.returns-then-k-lt32
returns-then-k-lt32 c =
    start_crew c.args.facts.now c.args.crews c.args.person c.args.k c.clear_flags.ensures c.if-k-crews.true c.if-k-lt32.true
    (rw c.from.ensures at c.write_values.ensures)

pub returns-else-k-lt32 : goal.returns-else-k-lt32
returns-else-k-lt32 c =
    start_no_crew c.args.facts.now c.args.crews c.args.person c.args.k c.clear_flags.ensures c.if-k-crews.true c.if-k-lt32.false

pub returns-then-p-lt64 : goal.returns-then-p-lt64
returns-then-p-lt64 c =
    start_person c.args.facts.now c.args.crews c.args.person c.args.k c.clear_flags.ensures c.if-k-crews.false (rw c.from-p.ensures at c.if-p-lt64.true)
    (rw c.from-p.ensures at c.write_values-then-p-lt64.ensures) (rw c.from-p.ensures at c.write_set.ensures)

pub returns-else-p-lt64 : goal.returns-else-p-lt64
returns-else-p-lt64 c =
    start_no_person c.args.facts.now c.args.crews c.args.person c.args.k c.clear_flags.ensures c.if-k-crews.false
    (rw c.from-p.ensures at c.if-p-lt64.false)
