-- `replay::run_plan` meets its contract: what is left of the requests, on the ledger as it stands, decides the run. Assumes nothing.
use mathlib.Core.Path.{◌∙◌}
use native.Mathlib.Omega.{arith}
use Rattle.std.specs.Iterator.Adapters.{enumerate_source}
use Rattle.std.specs.Slice.Iter.{chunks_exact_rest}
use Rattle.replay.proofs.LentLaws.{left_next, left_stop, left_none}
use Rattle.replay.proofs.run_plan.Goals as goal

pub loop-i-preserved : goal.loop-i-preserved
loop-i-preserved c =
    let turn = c.loop-i in
    let size = turn.invariant.0 in
    let steps = c.in-Some.ensures.steps in
    let chunk = steps.0 in (
      chunk.0 ∙ size,
      rw steps.2
          (left_next turn.invariant.1 c.in-Some.request.now (chunks_exact_rest (enumerate_source c.next.new.self)) chunk.1.0 (chunk.1.1 ∙ size) c.step.ensures.0 c.step.ensures.1 c.if-not-step.false),
    )

pub returns-then-not-step : goal.returns-then-not-step
returns-then-not-step c =
    let turn = c.loop-i in
    let steps = c.in-Some.ensures.steps in
    let chunk = steps.0 in
    rw steps.1
    (left_stop turn.invariant.1 c.in-Some.request.now (chunks_exact_rest (enumerate_source c.next.new.self)) chunk.1.0 (chunk.1.1 ∙ turn.invariant.0) c.step.ensures.0 c.if-not-step.true)

pub returns : goal.returns
returns c =
    let turn = c.loop-i in
    let none = c.in-None.ensures.steps.0 in
    left_none turn.invariant.1 (omega (arith, none.1.0, turn.invariant.0))
