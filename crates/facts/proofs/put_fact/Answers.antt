-- `facts::put_fact` meets its contract: a fact with a place is put there, any other changes nothing. Assumes nothing.
use mathlib.Core.Path.{sym, ◌∙◌}
use Rattle.facts.proofs.FactLaws.{placed, unplaced, put_misfit, put_place}
use Rattle.facts.proofs.put_fact.Goals as goal

pub put_at-requires : goal.put_at-requires
put_at-requires c = let found = placed _ _ c.in-Some.ensures in (found.small, (found.narrow, found.inside))

pub returns-in-Some : goal.returns-in-Some
returns-in-Some c =
    let found = placed _ _ c.in-Some.ensures in
    c.put_at.ensures ∙ rw (found.at, found.width, found.number) (sym (put_place c.args.ledger.now c.args.f c.args.on found.fit))

pub returns-in_default : goal.returns-in_default
returns-in_default c = sym (put_misfit c.args.ledger.now c.args.f c.args.on (unplaced _ c.in_default.ensures))
