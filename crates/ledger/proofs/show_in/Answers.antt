-- `ledger::show_in` meets its contract: 11, then 12, else the effective sets and crews. Assumes nothing.
use mathlib.Core.Path.{ap, sym, ◌∙◌}
use borrow.Author.Tests.{le-ltb, lt-ltb}
use Rattle.facts.specs.Facts.{holds}
use Rattle.inherit.specs.Inheritance.{person_in}
use Rattle.frames.specs.Book.{contents_of}
use Rattle.std.proofs.Common.{rules}
use Rattle.ledger.specs.Show.{show_in, crew_set, shown}
use Rattle.ledger.proofs.show_in.Goals as goal

pub returns-then-not-is_suitable : goal.returns-then-not-is_suitable
unfolding show_in contents_of
returns-then-not-is_suitable c = rw (sym c.is_suitable.ensures ∙ c.if-not-is_suitable.true)

pub returns-then-z-p : goal.returns-then-z-p
unfolding show_in contents_of
returns-then-z-p c =
    rw (
      sym c.is_suitable.ensures ∙ c.if-not-is_suitable.false,
      le-ltb _ _ c.if-z-p.true,
    )

pub value_sets-sets-requires : goal.value_sets-sets-requires
unfolding contents_of
value_sets-sets-requires c = (c.requires.sized, c.requires.edge_room)

pub set_below-crews-requires : goal.set_below-crews-requires
unfolding contents_of
set_below-crews-requires c = record { few = c.requires.sized.crews_most; callable = search rules }

pub returns : goal.returns
unfolding show_in contents_of crew_set
returns c =
    rw (
      sym c.is_suitable.ensures ∙ c.if-not-is_suitable.false,
      lt-ltb _ _ c.if-z-p.false,
      ← c.value_sets-sets.ensures,
    ) (ap (shown c.value_sets-sets.result)
    (c.set_below-crews.ensures (person_in c.args.b.now.juniors (holds c.args.ledger.now) c.args.p)
    (λ v on below gives. search rules)))
