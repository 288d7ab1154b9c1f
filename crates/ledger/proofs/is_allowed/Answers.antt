-- `ledger::is_allowed` meets its contract: a request is permitted where some rule is found that permits it. Assumes nothing.
use mathlib.Core.Path.{ap, ◌∙◌}
use Rattle.std.specs.Option.{is_some}
use Rattle.facts.specs.Facts.{holds}
use Rattle.rules.specs.Rules.{permits, permitted}
use Rattle.quantifiers.proofs.PositionLaws.{position-any}
use Rattle.frames.specs.Book.{contents_of}
use Rattle.ledger.specs.Ledger.{allowed}
use Rattle.ledger.proofs.is_allowed.Goals as goal

pub listed-requires : goal.listed-requires
unfolding contents_of
listed-requires c = c.requires.rules_few

pub first_permitting-requires : goal.first_permitting-requires
unfolding contents_of
first_permitting-requires c = (rw c.listed.ensures c.requires.rules_short, c.requires.edge_room)

pub returns : goal.returns
unfolding allowed permitted contents_of
returns c =
    rw (← c.listed.ensures)
    (c.is_some.ensures ∙ (ap is_some c.first_permitting.ensures
    ∙ position-any (permits c.args.b.now.juniors (holds c.args.ledger.now) c.args.q) c.listed.result.now))
