-- `search::fill_reach` meets its contract: row by row, from the crews below. Assumes nothing.
use Rattle.flags.proofs.FlagLaws.{filled_row}
use Rattle.search.proofs.StepLaws.{reach_next}
use Rattle.search.proofs.fill_reach.Goals as goal

pub loop-k-preserved : goal.loop-k-preserved
loop-k-preserved c = (
  reach_next c.loop-k.invariant.0
      (filled_row c.loop-k.invariant.0.size c.crew_table.ensures c.fill_row.ensures),
  c.crew_table.ensures.size,
)
