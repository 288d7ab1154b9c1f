-- `inherit::crew_tried` and `inherit::juniors_tried`, which call each other, meet their contracts: nothing is left where the crew passes
-- downwards, and else every crew of the set handed back was tried. A junior is passed over where it is no direct one, where it was tried,
-- and where it is tried now and does not pass.
use Rattle.std.proofs.Common.{◌≡◌, sym, ◌∙◌, true, false}
use Rattle.facts.specs.Facts.{holds}
use Rattle.inherit.specs.Inheritance.{is_junior, downward}
use Rattle.inherit.specs.Inner.Search.{sought}
use Rattle.inherit.proofs.InheritanceLaws.{downward_here, by_juniors, tried_more, junior_none, junior_hit, junior_fails, junior_tried, junior_other}
use Rattle.inherit.proofs.+crew_tried_juniors_tried.Goals as goal
use Rattle.inherit.proofs.+crew_tried_juniors_tried.Goals.{juniors_tried-then-direct+then-not-has+in_ok-tried, juniors_tried-else-direct, juniors_tried-else-direct-via-then-direct+else-not-has, juniors_tried-else-direct-via-else-direct}

-- ---------------------------------------------------------------- crew_tried

pub crew_tried-returns-then-is_sought : goal.crew_tried-returns-then-is_sought
crew_tried-returns-then-is_sought t c =
    let P = sought (holds c.args.ledger.now) c.args.w in
    downward_here c.args.juniors.now P c.args.c (sym c.is_sought.ensures ∙ c.if-is_sought.true)

pub crew_tried-returns-in_err-tried : goal.crew_tried-returns-in_err-tried
crew_tried-returns-in_err-tried t c =
    let P = sought (holds c.args.ledger.now) c.args.w in
    let itself : P c.args.c ≡ false = sym c.is_sought.ensures ∙ c.if-is_sought.false in
    rw c.from_residual.ensures (sym (by_juniors c.args.juniors.now P c.args.c itself) ∙ c.in_err-tried.ensures)

pub crew_tried-returns : goal.crew_tried-returns
crew_tried-returns t c =
    let js = c.args.juniors.now in
    let P = sought (holds c.args.ledger.now) c.args.w in
    let itself : P c.args.c ≡ false = sym c.is_sought.ensures ∙ c.if-is_sought.false in
    let fails : downward js P c.args.c ≡ false = sym (by_juniors js P c.args.c itself) ∙ c.in_ok-tried.ensures.0 in
    (fails, rw c.with.ensures (tried_more js P c.in_ok-tried.tried c.args.c c.in_ok-tried.ensures.1 fails))

-- ---------------------------------------------------------------- juniors_tried

pub juniors_tried-loop-j-init : goal.juniors_tried-loop-j-init
juniors_tried-loop-j-init t c = (junior_none c.args.juniors.now (sought (holds c.args.ledger.now) c.args.w) c.args.c, c.requires.tried)

pub juniors_tried-returns-in_err-tried : goal.juniors_tried-returns-in_err-tried
unfolding is_junior
juniors_tried-returns-in_err-tried t c =
    let js = c.args.juniors.now in
    let P = sought (holds c.args.ledger.now) c.args.w in
    let direct : is_junior js c.args.c c.loop-j.j ≡ true = rw c.from.ensures at (sym c.has-direct.ensures ∙ c.if-direct.true) in
    rw c.from_residual.ensures (junior_hit js P c.args.c c.loop-j.j c.args.c c.loop-j-test.true direct c.in_err-tried.ensures)

pub juniors_tried-loop-j-preserved : goal.juniors_tried-loop-j-preserved
unfolding is_junior
juniors_tried-loop-j-preserved t c =
    let js = c.args.juniors.now in
    let P = sought (holds c.args.ledger.now) c.args.w in
    let none = c.loop-j.invariant.0 in
    let tried = c.loop-j.invariant.1 in
    elim c.if-direct.branch [
      | juniors_tried-then-direct+then-not-has+in_ok-tried w ↦
          (junior_fails js P c.args.c c.loop-j.j none w.in_ok-tried.ensures.0, rw w.tried-is w.in_ok-tried.ensures.1)
      | juniors_tried-else-direct w ↦ (
        elim w.else-direct.branch [
          | juniors_tried-else-direct-via-then-direct+else-not-has w' ↦
              junior_tried js P c.args.c c.loop-j.j c.loop-j.tried none tried (sym w'.has.ensures ∙ w'.if-not-has.false)
          | juniors_tried-else-direct-via-else-direct w' ↦
              junior_other js P c.args.c c.loop-j.j none (rw c.from.ensures at (sym c.has-direct.ensures ∙ w'.if-direct.false))
        ],
        rw w.tried-is tried,
      )
    ]
