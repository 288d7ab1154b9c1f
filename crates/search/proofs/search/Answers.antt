-- `search::search` meets its contract: the moves of all four sides in one buffer, then the levels with a part of it for each side.
-- Assumes nothing.
use mathlib.Core.Path.{refl}
use Rattle.level.proofs.RuleLaws.{book_good}
use Rattle.search.proofs.StepLaws.{side_moves}
use Rattle.search.proofs.search.Goals as goal

pub moves_listed-n-requires : goal.moves_listed-n-requires
moves_listed-n-requires c =
    (book_good c.args.b.now c.requires.leveled.book, refl)

pub all_levels-requires : goal.all_levels-requires
all_levels-requires c =
    let sides = c.moves_listed-n.ensures.sides in
    let pre = c.requires in
    let room = c.moves_listed-n.ensures.room in
    let good = book_good c.args.b.now pre.leveled.book in
    let crews = side_moves good room sides.crew_more sides.crew_less in
    let person = side_moves good room sides.more sides.less in
    record {
      leveled = (
        pre.leveled,
        (
          rw (c.gains_in.ensures, c.losses_in.ensures) crews,
          rw (c.adds_in.ensures, c.dels_in.ensures) person,
        ),
      );
      up_len = (pre.up_len.0, pre.up_len.1);
    }
