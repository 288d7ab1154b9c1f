-- `planner::give` meets its contract: no way and the buffer as it was, or the plan in its front. Assumes nothing.
use Rattle.planner.proofs.AnswerLaws.{given-plan}
use Rattle.planner.proofs.give.Goals as goal

pub returns : goal.returns
returns c =
    rw c.in_ok-e.was
    (given-plan c.args.up.now c.in_ok-e.e.ups c.args.down.now c.in_ok-e.e.at c.args.out.now c.write_plan.ensures.0 c.write_plan.ensures.1)
