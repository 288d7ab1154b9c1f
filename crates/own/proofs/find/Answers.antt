-- `own::find` meets its contract: the moves of the rules, and of them those that add to a person. Assumes nothing.
use mathlib.Core.Path.{refl}
use Rattle.frames.specs.Book.{contents_of}
use Rattle.level.proofs.RuleLaws.{book_good}
use Rattle.own.proofs.FoundLaws.{own_moves}
use Rattle.own.proofs.find.Goals as goal

pub moves_listed-sides-requires : goal.moves_listed-sides-requires
moves_listed-sides-requires c = (book_good c.args.b.now c.requires.0.book, refl)

pub find_by-requires : goal.find_by-requires
unfolding contents_of
find_by-requires c =
    let told = c.moves_listed-sides.ensures in (
      c.requires.0,
      (
        rw c.adds_in.ensures (own_moves c.args.b.now c.requires.0.book told.room told.sides.more),
        c.requires.1,
      ),
    )
