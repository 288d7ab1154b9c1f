-- `ledger::why_not` meets its contract: what the book's rules and hierarchy say of the request in the ledger. Assumes nothing.
use Rattle.frames.specs.Book.{contents_of}
use Rattle.ledger.proofs.why_not.Goals as goal

pub listed-requires : goal.listed-requires
unfolding contents_of
listed-requires c = c.requires.rules_few

pub why_not-requires : goal.why_not-requires
unfolding contents_of
why_not-requires c =
    let book = c.requires in
    record { count_bound = rw c.listed.ensures (rw book.rules_counted book.rules_few, book.rules_short); juniors_len = book.edge_room }
