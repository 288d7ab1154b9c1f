-- `ledger::set_below` meets its contract: whatever test the calls tell, `set` has the numbers below v that pass it. Assumes nothing.
use Rattle.ledger.proofs.OperationLaws.{set_more, set-none}
use Rattle.ledger.proofs.set_below.Goals as goal

pub loop-v-init : goal.loop-v-init
loop-v-init g c p tells = set-none p

pub loop-v-preserved : goal.loop-v-preserved
loop-v-preserved g c p tells =
    set_more p c.loop-v.v _ _ _ (c.loop-v.invariant p tells)
    (tells c.loop-v.v c.passes.result c.loop-v-test.true c.passes.ensures) c.with-set.ensures
