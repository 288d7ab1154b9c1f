-- `plan::answer` meets its contract: the planner's promise on a buffer of 42,560 bytes, and the text of its answer. Assumes nothing.
use Prim.Native.Nat.{ℕ}
use lib.ListN.{length-replicate}
use Rattle.answers.proofs.WrittenLaws.{end-within}
use Rattle.plan.proofs.PrintedLaws.{printed_any}
use Rattle.plan.proofs.answer.Goals as goal

pub returns : goal.returns
returns c =
    let written = c.put_answer.ensures in
    let planned = c.plan-planned in
    (end-within written, printed_any planned.result (length-replicate {A = ℕ} 42560 0) planned.ensures written.upto)
