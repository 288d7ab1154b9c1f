-- `ledger::request_in` meets its contract: 11, then 12, then 13 or 15, else the one fact is set or cleared. Assumes nothing.
use mathlib.Core.Path.{sym, ap, ◌∙◌}
use Rattle.frames.specs.Book.{contents_of}
use Rattle.ledger.specs.Ledger.{reply, request_in, after}
use Rattle.ledger.specs.Ledger.{Done}
use Rattle.ledger.proofs.DeniedLaws.{denied-said}
use Rattle.ledger.proofs.request_in.Goals as goal

pub returns-then-not-is_suitable : goal.returns-then-not-is_suitable
unfolding request_in contents_of after
returns-then-not-is_suitable c = rw (sym c.is_suitable.ensures ∙ c.if-not-is_suitable.true)

pub returns-then-not-is_request : goal.returns-then-not-is_request
unfolding request_in contents_of after
returns-then-not-is_request c =
    rw (
      sym c.is_suitable.ensures ∙ c.if-not-is_suitable.false,
      sym c.is_request.ensures ∙ c.if-not-is_request.true,
    )

pub returns-then-not-is_allowed : goal.returns-then-not-is_allowed
unfolding request_in contents_of after
returns-then-not-is_allowed c =
    rw (
      sym c.is_suitable.ensures ∙ c.if-not-is_suitable.false,
      sym c.is_request.ensures ∙ c.if-not-is_request.false,
      ← c.request_of-q.ensures,
      sym c.is_allowed.ensures ∙ c.if-not-is_allowed.true,
      ← c.why_not.ensures,
    ) (denied-said c.why_not.result _)

pub returns : goal.returns
unfolding request_in contents_of after
returns c =
    rw (
      sym c.is_suitable.ensures ∙ c.if-not-is_suitable.false,
      sym c.is_request.ensures ∙ c.if-not-is_request.false,
      ← c.request_of-q.ensures,
      sym c.is_allowed.ensures ∙ c.if-not-is_allowed.false,
    ) (ap (reply Done) c.carry_out.ensures)
