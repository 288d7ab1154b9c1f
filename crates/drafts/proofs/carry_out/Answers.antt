-- `drafts::carry_out` meets its contract: the requests that are left, on the ledger as it stands, come to what all do. Assumes nothing.
use mathlib.Core.Path.{◌∙◌}
use native.Mathlib.Omega.{arith}
use Rattle.std.specs.Slice.Iter.{chunks_exact_rest}
use Rattle.drafts.proofs.DraftLaws.{carry_first, carry_more, carry_all}
use Rattle.drafts.proofs.carry_out.Goals as goal

pub loop-request-init : goal.loop-request-init
loop-request-init c =
    let items = c.chunks_exact-request-items.ensures in
    rw c.into_iter-request-iterator.ensures.into_iter_gives
    (items.size, rw items.rest (carry_first c.args.ledger.now c.args.draft.now c.args.from c.args.n c.requires (omega arith)))

pub loop-request-preserved : goal.loop-request-preserved
loop-request-preserved c =
    let steps = c.in-Some.ensures.steps in
    let size = c.loop-request.invariant.0 in (
      steps.0 ∙ size,
      carry_more c.loop-request.invariant.1 c.in-Some.request.now (chunks_exact_rest c.next.new.self) steps.1.0 (steps.1.1 ∙ size)
          (rw (← c.request_of.ensures) c.carry_out.ensures),
    )

pub returns : goal.returns
returns c = carry_all c.loop-request.invariant.1 (omega (arith, c.in-None.ensures.steps.1.0, c.loop-request.invariant.0))
