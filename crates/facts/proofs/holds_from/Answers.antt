-- `facts::holds_from` meets its contract: the fact's set is looked at from the fact's number on; where the fact has no place, none with a higher number
-- has one. Assumes nothing.
use mathlib.Core.Path.{sym, ◌∙◌}
use Rattle.facts.proofs.FactLaws.{placed, unplaced, from_misfit, from_place}
use Rattle.facts.proofs.holds_from.Goals as goal

pub has_from_at-requires : goal.has_from_at-requires
has_from_at-requires c = let found = placed _ _ c.in-Some.ensures in (found.small, found.narrow)

pub returns-in-Some : goal.returns-in-Some
returns-in-Some c =
    let found = placed _ _ c.in-Some.ensures in
    c.has_from_at.ensures ∙ rw (found.at, found.width, found.number) (from_place c.args.ledger.now c.args.f _ found.fit)

pub returns-in-None : goal.returns-in-None
returns-in-None c = sym (from_misfit c.args.ledger.now c.args.f (unplaced _ c.in-None.ensures))
