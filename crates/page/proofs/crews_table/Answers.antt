-- `page::crews_table` meets its contract: the crews are settled for every person (`scanned_of`, `crews_settled`). Assumes nothing.
use Rattle.frames.specs.Book.{contents_of}
use Rattle.search.proofs.PartLaws.{scanned_of}
use Rattle.page.proofs.PersonLaws.{crews_settled}
use Rattle.page.proofs.crews_table.Goals as goal

pub new-parts-requires : goal.new-parts-requires
unfolding contents_of
new-parts-requires c = (c.requires.leveled.0.book.facts_room, c.requires.leveled.0.book.edge_room)

pub returns : goal.returns
unfolding contents_of
returns c =
    let pre = c.requires in
    let e = c.new-parts.ensures in
    let scanned =
    scanned_of c.args.b.now pre.leveled.0 e.query e.crews e.facts e.juniors (rw e.sides pre.side_moves.0) c.settle_crews.ensures in
    crews_settled pre.leveled.0 pre.leveled.1 (rw e.crews at scanned) c.person_table.ensures
