-- `replay::replay_in` meets its contract: 14 by the length, else the request that stops the run, else the query in the last ledger.
-- Assumes nothing.
use mathlib.Core.Path.{sym, ◌∙◌}
use borrow.Author.Tests.{ne_eqb}
use Rattle.frames.specs.Book.{contents_of}
use Rattle.replay.specs.Replay.{replay_in}
use Rattle.replay.proofs.ReplayLaws.{replay_reaches, replay_ends_short, replay_stops}
use Rattle.replay.proofs.replay_in.Goals as goal

pub returns-then-plan-ne0 : goal.returns-then-plan-ne0
unfolding replay_in
returns-then-plan-ne0 c = rw (ne_eqb _ _ c.if-plan-ne0.true)

pub returns-in-Some : goal.returns-in-Some
unfolding contents_of
returns-in-Some c =
    let args = c.args in
    sym (replay_stops (contents_of args.b.now) args.plan.now c.if-plan-ne0.false c.in-Some.k (sym c.in-Some.ensures))

pub returns-then-is_met : goal.returns-then-is_met
unfolding contents_of
returns-then-is_met c =
    let args = c.args in
    let is-met = sym c.is_met.ensures ∙ c.if-is_met.true in
    sym (replay_reaches (contents_of args.b.now) args.plan.now c.if-plan-ne0.false _ (record { led = sym c.in_default.ensures }) is-met)

pub returns-else-is_met : goal.returns-else-is_met
unfolding contents_of
returns-else-is_met c =
    let args = c.args in
    let unmet = sym c.is_met.ensures ∙ c.if-is_met.false in
    sym (replay_ends_short (contents_of args.b.now) args.plan.now c.if-plan-ne0.false _ (record { led = sym c.in_default.ensures }) unmet)
