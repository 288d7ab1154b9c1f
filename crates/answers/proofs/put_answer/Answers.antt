-- `answers::put_answer` meets its contract: one case for each answer. Assumes nothing.
use mathlib.Core.Path.{◌≡◌, refl, ap, ◌∙◌}
use Prim.Native.Nat.{ℕ, ◌*◌}
use native.Mathlib.Omega.{arith}
use lib.ListN.{length-take, length-drop}
use Rattle.std.specs.Prelude.{Option, Some, None, Ok}
use Rattle.planner.specs.Answer.{Planned}
use Rattle.answers.specs.Answers.{hex, hex_line}
use Rattle.answers.proofs.WrittenLaws.{room_behind, no_way-written, plan-written}
use Rattle.answers.proofs.put_answer.Goals as goal

-- What an answer is, by what the match says of it and of the value within.
within : {answer : Planned} (o p : Option ℕ) → answer ≡ Ok o → o ≡ p → answer ≡ Ok p
within o p e f = e ∙ ap Ok f

pub put_lines-requires : goal.put_lines-requires
unfolding hex_line hex
put_lines-requires c =
    let plan = c.in-Ok-Some in
    let room = c.requires.requests plan.n (within plan.field-0 (Some plan.n) plan.is (rw plan.is at plan.field-0-is)) in
    let below = room_behind 7 (11 * plan.n) c.put_line-first.ensures refl room.1 in
    simp (length-take, length-drop) (omega (arith, below, room.0))

pub returns-in-Ok-None : goal.returns-in-Ok-None
returns-in-Ok-None c =
    no_way-written c.args.plan.now (within c.in-Ok-None.field-0 None c.in-Ok-None.is (rw c.in-Ok-None.is at c.in-Ok-None.field-0-is)) c.put_line.ensures

pub returns-in-Ok-Some : goal.returns-in-Ok-Some
returns-in-Ok-Some c =
    let plan = c.in-Ok-Some in
    plan-written c.args.plan.now plan.n (within plan.field-0 (Some plan.n) plan.is (rw plan.is at plan.field-0-is)) c.pair.ensures
    c.put_line-first.ensures refl c.put_lines.ensures
