-- `page::page_in` meets its contract: a table of another length is refused; else the rows are those of the book with nothing asked, and so the page of
-- the book (`rows_given`). Assumes nothing.
use mathlib.Core.Path.{sym, subst}
use native.Mathlib.Omega.{arith}
use Rattle.frames.specs.Book.{Contents, with_query, contents_of}
use Rattle.reach.specs.Inner.Leveled.{Leveled}
use Rattle.page.specs.Inner.Rows.{Roams}
use Rattle.page.proofs.PageLaws.{roams_itself}
use Rattle.page.proofs.PersonLaws.{nothing-asked, nothing_accepted}
use Rattle.page.proofs.RowLaws.{rows_same, rows_given, answered_filled}
use Rattle.page.proofs.page_in.Goals as goal

pub fill-requires : goal.fill-requires
unfolding contents_of with_query
fill-requires c =
    record {
      leveled = subst (λ (t : Contents). Leveled t × Roams t) (sym (nothing-asked (contents_of c.args.b.now) c.asked_nothing-b.ensures))
          (nothing_accepted (contents_of c.args.b.now) c.requires.0 c.requires.1, roams_itself (contents_of c.args.b.now));
      out_len = (omega arith);
    }

pub returns : goal.returns
unfolding contents_of with_query
returns c =
    let rows = rows_same (nothing-asked (contents_of c.args.b.now) c.asked_nothing-b.ensures)
    c.fill.ensures in
    answered_filled (contents_of c.args.b.now) _ (omega arith)
    (rows_given (contents_of c.args.b.now) rows)
