-- Mode 01, the person, a crew that is below a listed one, a crew that is not. Assumes nothing.
use Rattle.flags.proofs.BadLaws.{bad-none, bad_apart, bad_crew, bad_person}
use Rattle.flags.proofs.bad_flags.Goals as goal

pub returns-then-q-eq1 : goal.returns-then-q-eq1
returns-then-q-eq1 c = bad-none c.args.q.now c.args.crews c.args.k c.args.below c.clear_flags.ensures c.if-q-eq1.true

pub returns-then-k-crews : goal.returns-then-k-crews
returns-then-k-crews c =
    bad_person c.args.q.now c.args.crews c.args.k c.args.below c.clear_flags.ensures c.if-q-eq1.false c.if-k-crews.true
    c.add_banned.ensures c.add_lacking.ensures

pub returns-then-below : goal.returns-then-below
returns-then-below c =
    bad_crew c.args.q.now c.args.crews c.args.k c.args.below c.clear_flags.ensures c.if-q-eq1.false c.if-k-crews.false c.if-below.true
    c.add_banned-then-below.ensures

pub returns-else-below : goal.returns-else-below
returns-else-below c = bad_apart c.args.q.now c.args.crews c.args.k c.args.below c.clear_flags.ensures c.if-k-crews.false c.if-below.false
