-- `replay::step` meets its contract: a request that is due goes where a rule is found that permits it, and is carried out. Assumes nothing.
use mathlib.Core.Path.{refl, sym}
use Rattle.replay.proofs.LentLaws.{goes-parts}
use Rattle.replay.proofs.step.Goals as goal

pub returns-then-not-is_due : goal.returns-then-not-is_due
returns-then-not-is_due c = (
  sym (rw (
    goes-parts c.args.z c.args.juniors.now c.args.rules.now c.args.roles c.args.ledger.now c.args.bytes.now,
    ← c.is_due.ensures,
    c.if-not-is_due.true,
  ) refl),
  refl,
)

pub returns-then-is_none : goal.returns-then-is_none
returns-then-is_none c = (
  sym (rw (
    goes-parts c.args.z c.args.juniors.now c.args.rules.now c.args.roles c.args.ledger.now c.args.bytes.now,
    ← c.is_due.ensures,
    c.if-not-is_due.false,
    ← c.request_of-q.ensures,
    ← c.first_permitting-found.ensures,
    c.if-is_none.ensures,
  ) refl),
  refl,
)

pub returns : goal.returns
returns c = (
  sym (rw (
    goes-parts c.args.z c.args.juniors.now c.args.rules.now c.args.roles c.args.ledger.now c.args.bytes.now,
    ← c.is_due.ensures,
    c.if-not-is_due.false,
    ← c.request_of-q.ensures,
    ← c.first_permitting-found.ensures,
    c.if-is_none.ensures,
  ) refl),
  rw (← c.request_of-q.ensures) c.carry_out.ensures,
)
