-- `planner::write_plan` meets its contract: the additions in front, the deletions behind them. Assumes nothing.
use mathlib.Core.Path.{refl}
use Rattle.planner.proofs.AnswerLaws.{both_copied}
use Rattle.planner.proofs.write_plan.Goals as goal

pub returns : goal.returns
returns c = (
  refl,
  both_copied c.args.up.now c.args.e.ups c.args.down.now c.args.e.at _ _ _
      c.requires.up_len.0 c.requires.ups_le_depot_size.0 c.requires.ups_le_depot_size.1.1 c.copy_requests.ensures
      c.copy_requests-2.ensures,
)
