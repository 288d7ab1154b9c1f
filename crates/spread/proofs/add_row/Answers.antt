-- `spread::add_row` meets its contract: the invariant says that the first k flags of the row are set for the persons.
-- Assumes nothing.
use Rattle.spread.proofs.SpreadLaws.{row_lit_more}
use Rattle.spread.proofs.add_row.Goals as goal

pub loop-k-preserved : goal.loop-k-preserved
loop-k-preserved c =
    row_lit_more c.loop-k.invariant c.loop-k-test.true c.only.ensures c.add.ensures
