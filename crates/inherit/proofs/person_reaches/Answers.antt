-- `inherit::person_reaches` meets its contract: a crew that the person is directly in and that passes downwards ends the search, and the
-- others are passed over.
use Rattle.std.proofs.Common.{arith, ◌≡◌, sym, ◌∙◌, true, false}
use mathlib.Core.Bool.{and-false}
use Rattle.facts.specs.Facts.{holds}
use Rattle.facts.specs.declared.Fact.TheVariants.{Member}
use Rattle.inherit.specs.Inner.Search.{sought}
use Rattle.inherit.proofs.InheritanceLaws.{tried_none}
use Rattle.quantifiers.proofs.BelowLaws.{any-zero, any_next, any_from_lem}
use Rattle.inherit.proofs.person_reaches.Goals as goal
use Rattle.inherit.proofs.person_reaches.Goals.{then-fact_holds+in-Some, else-fact_holds}
use Rattle.inherit.proofs.person_reaches.Invariants.{enters}

pub loop-d-init : goal.loop-d-init
loop-d-init c =
    let at = c.args in
    (any-zero (enters at.ledger.now at.juniors.now at.p at.w), tried_none at.juniors.now (sought (holds at.ledger.now) at.w))

pub returns-in_default : goal.returns-in_default
returns-in_default c =
    let at = c.args in
    let direct : holds at.ledger.now (Member at.p (record { 0 = c.loop-d.d })) ≡ true = sym c.fact_holds.ensures ∙ c.if-fact_holds.true in
    let below = c.in_default.ensures in
    sym (any_from_lem (enters at.ledger.now at.juniors.now at.p at.w) 32 c.loop-d.d (rw (direct, below)) (omega arith))

pub loop-d-preserved : goal.loop-d-preserved
loop-d-preserved c =
    let at = c.args in
    let through = enters at.ledger.now at.juniors.now at.p at.w in
    let is-in = holds at.ledger.now (Member at.p (record { 0 = c.loop-d.d })) in
    let none = c.loop-d.invariant.0 in
    elim c.if-fact_holds.branch [
      | then-fact_holds+in-Some w ↦
          (any_next through c.loop-d.d none (rw w.in-Some.ensures.0 (and-false is-in)), rw w.seen-is w.in-Some.ensures.1)
      | else-fact_holds w ↦
          let direct : is-in ≡ false = sym c.fact_holds.ensures ∙ w.if-fact_holds.false in
          (any_next through c.loop-d.d none (rw direct), rw w.seen-is c.loop-d.invariant.1)
    ]
