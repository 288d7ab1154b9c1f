-- `replay::run_in` meets its contract: a run looks at a book's sizes, juniors and rules alone. Assumes nothing.
use mathlib.Core.Path.{sym, ◌∙◌}
use Rattle.frames.specs.Book.{contents_of}
use Rattle.replay.specs.Chains.{fives}
use Rattle.replay.proofs.LentLaws.{run-standing}
use Rattle.replay.proofs.run_in.Goals as goal

pub listed-requires : goal.listed-requires
unfolding contents_of
listed-requires c = c.requires.rules_few

pub run_plan-requires : goal.run_plan-requires
unfolding contents_of
run_plan-requires c = (rw c.listed.ensures c.requires.rules_short, c.requires.edge_room)

pub returns : goal.returns
unfolding contents_of
returns c =
    let b = c.args.b.now in
    rw c.listed.ensures at c.run_plan.ensures ∙ sym (run-standing (contents_of b) b.query.roles c.args.ledger.now 1 (fives c.args.plan.now))
