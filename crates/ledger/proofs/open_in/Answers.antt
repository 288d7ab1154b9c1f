-- `ledger::open_in` meets its contract: 11 by the length alone, else the starting facts are copied. Assumes nothing.
use mathlib.Core.Path.{ap}
use borrow.Author.Tests.{eq-eqb, ne_eqb}
use Rattle.frames.specs.Book.{contents_of}
use Rattle.ledger.specs.Ledger.{Done}
use Rattle.ledger.specs.Ledger.{reply, open_in}
use Rattle.ledger.proofs.open_in.Goals as goal

pub returns-then-ledger-ne-LEDGER_SIZE : goal.returns-then-ledger-ne-LEDGER_SIZE
unfolding open_in contents_of
returns-then-ledger-ne-LEDGER_SIZE c = rw (ne_eqb _ _ c.if-ledger-ne-LEDGER_SIZE.true)

pub returns : goal.returns
unfolding open_in contents_of
returns c =
    rw (eq-eqb _ _ c.if-ledger-ne-LEDGER_SIZE.false) (ap (reply Done) c.copy_from_slice.ensures.after)
