-- `planner::best_plan` meets its contract: where the search finds no run there is no way; else the best plan's last ledger decides.
-- Assumes nothing.
use Rattle.std.proofs.Common.{rules}
use Rattle.frames.specs.Book.{contents_of}
use Rattle.planner.proofs.AnswerLaws.{found_kept}
use Rattle.planner.proofs.best_plan.Goals as goal

pub returns : goal.returns
unfolding contents_of
returns c =
    found_kept (contents_of c.args.b.now) c.requires.leveled _ _ _ _ _ (λ e k h. search rules) c.search.ensures c.filter.ensures
