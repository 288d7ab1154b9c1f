-- `own::find_by` meets its contract: the tables have the book's rules, the flags its starting and its wanted facts, and what `grow` answers of
-- these is so of the book. Assumes nothing.
use mathlib.Core.Path.{refl}
use native.Mathlib.Omega.{arith}
use Rattle.frames.specs.Book.{contents_of}
use Rattle.flags.proofs.FlagLaws.{small_wants}
use Rattle.own.proofs.FoundLaws.{fresh_tables, found_none, found_ready, found_way}
use Rattle.own.proofs.find_by.Goals as goal

pub fill_tables-requires : goal.fill_tables-requires
fill_tables-requires c = (c.requires.1.0.sound, fresh_tables)

pub wanted-requires : goal.wanted-requires
unfolding contents_of
wanted-requires c = (small_wants c.requires.0.book, refl)

pub returns-in_err-n : goal.returns-in_err-n
unfolding contents_of
returns-in_err-n c =
    rw c.from_residual.ensures
    (found_none c.args.b.now c.requires.0 c.requires.1.0 c.fill_tables.ensures c.start_flags.ensures
    c.wanted.ensures c.in_err-n.ensures _ refl)

pub write_requests-requires : goal.write_requests-requires
unfolding contents_of
write_requests-requires c =
    found_ready c.args.b.now c.requires.0 c.requires.1.0 c.fill_tables.ensures c.start_flags.ensures
    c.wanted.ensures c.in_ok-n.ensures (omega arith) c.requires.1.1 refl

pub returns : goal.returns
unfolding contents_of
returns c =
    found_way c.args.b.now c.requires.0 c.requires.1.0 c.fill_tables.ensures c.start_flags.ensures
    c.wanted.ensures c.in_ok-n.ensures c.write_requests.ensures refl
