-- `ledger::value_set` meets its contract: an absent attribute has the empty set, any other the values that are effective. Assumes nothing.
use borrow.Author.Tests.{le-ltb, lt-ltb}
use Rattle.ledger.specs.Show.{value_set}
use Rattle.facts.specs.Facts.{holds}
use Rattle.inherit.specs.Inheritance.{person_holds}
use Rattle.std.proofs.Common.{rules}
use Rattle.ledger.proofs.value_set.Goals as goal

pub returns-then-z-a : goal.returns-then-z-a
unfolding value_set
returns-then-z-a c = rw (le-ltb _ _ c.if-z-a.true)

pub returns : goal.returns
unfolding value_set
returns c =
    rw (lt-ltb _ _ c.if-z-a.false, ← c.values_of.ensures)
    (c.set_below.ensures (person_holds c.args.juniors.now (holds c.args.ledger.now) c.args.p (record { 0 = c.args.a }))
    (λ v on below gives. search rules))
