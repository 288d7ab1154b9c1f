-- `planner::plan` meets its contract: a refused book is refused with its number and line, an accepted one planned. Assumes nothing.
use Rattle.std.proofs.lemmas.Result.{err_from_is_err_and}
use Rattle.frames.proofs.BookLaws.{into_refused, into_accepted, into_sound}
use Rattle.planner.proofs.AnswerLaws.{promise_refused, promise_accepted}
use Rattle.planner.proofs.plan.Goals as goal

pub returns-in_err-read_into : goal.returns-in_err-read_into
returns-in_err-read_into c =
    let p = err_from_is_err_and c.from_residual.result c.from_residual.ensures.1 in
    rw (p.1, p.2) (promise_refused c.args.book.now c.args.out.now (into_refused c.args.book.now _ c.in_err-read_into.ensures.told))

pub plan_in-requires : goal.plan_in-requires
plan_in-requires c = into_sound c.args.book.now _ c.in_ok-read_into.ensures.told

pub returns : goal.returns
returns c =
    promise_accepted c.args.book.now _ _ _
    (into_accepted c.args.book.now _ c.in_ok-read_into.ensures.told) c.plan_in.ensures
