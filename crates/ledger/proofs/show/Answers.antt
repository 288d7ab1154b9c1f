-- `ledger::show` meets its contract: a refused book is refused with its number and line, else the person is shown. Assumes nothing.
use Rattle.std.proofs.lemmas.Result.{err_from_is_err_and}
use Rattle.frames.proofs.BookLaws.{into_refused, into_accepted, into_sound}
use Rattle.ledger.specs.Show.{show_view}
use Rattle.ledger.proofs.show.Goals as goal

pub returns-in_err-read_into : goal.returns-in_err-read_into
unfolding show_view
returns-in_err-read_into c =
    let p = err_from_is_err_and c.from_residual.result c.from_residual.ensures.1 in
    rw (p.1, p.2, into_refused c.args.book.now c.in_err-read_into.field-0.0 c.in_err-read_into.ensures.told)

pub show_in-requires : goal.show_in-requires
show_in-requires c = into_sound c.args.book.now _ c.in_ok-read_into.ensures.told

pub returns : goal.returns
unfolding show_view
returns c = rw (into_accepted c.args.book.now _ c.in_ok-read_into.ensures.told) c.show_in.ensures
