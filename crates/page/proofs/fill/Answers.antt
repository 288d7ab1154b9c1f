-- `page::fill` meets its contract: the moves of all four sides in one buffer, then the rows with a part of it for each side but the last: the moves
-- that delete from a person are there, and not used. Assumes nothing.
use mathlib.Core.Path.{refl}
use Rattle.level.specs.Inner.Moves.{moves_in}
use Rattle.moves.specs.Inner.Listed.{part_of}
use Rattle.level.proofs.RuleLaws.{book_good}
use Rattle.search.proofs.StepLaws.{side_moves}
use Rattle.page.proofs.fill.Goals as goal

pub moves_listed-sides-requires : goal.moves_listed-sides-requires
moves_listed-sides-requires c =
    (book_good c.args.b.now c.requires.leveled.0.book, refl)

pub fill_by-requires : goal.fill_by-requires
fill_by-requires c =
    let sides = c.moves_listed-sides.ensures.sides in
    let pre = c.requires in
    let room = c.moves_listed-sides.ensures.room in
    let good = book_good c.args.b.now pre.leveled.0.book in
    let n = c.moves_listed-sides.result in
    let dels = moves_in (part_of n.adds n.dels c.moves_listed-sides.new.ms) in
    record {
      leveled = pre.leveled;
      side_moves = (
        rw (c.gains_in.ensures, c.losses_in.ensures) (side_moves good room sides.crew_more sides.crew_less),
        record { dels = dels; sides = rw c.adds_in.ensures (side_moves good room sides.more sides.less) },
      );
      out_len = pre.out_len;
    }
