-- `facts::fact_holds` meets its contract: a fact with a place is looked up there, any other holds nowhere. Assumes nothing.
use mathlib.Core.Path.{sym, ◌∙◌}
use Rattle.facts.proofs.FactLaws.{placed, unplaced, holds_misfit, holds_place}
use Rattle.facts.proofs.fact_holds.Goals as goal

pub has_at-requires : goal.has_at-requires
has_at-requires c = let found = placed _ _ c.in-Some.ensures in (found.small, (found.narrow, found.inside))

pub returns-in-Some : goal.returns-in-Some
returns-in-Some c =
    let found = placed _ _ c.in-Some.ensures in
    c.has_at.ensures ∙ rw (found.at, found.width, found.number) (sym (holds_place c.args.ledger.now c.args.f found.fit))

pub returns-in-None : goal.returns-in-None
returns-in-None c = sym (holds_misfit c.args.ledger.now c.args.f (unplaced _ c.in-None.ensures))
