-- `persons::fires` meets its contract: those who lack the move's fact, which is one of the level's, and meet its terms (`firing`). Assumes nothing.
use Prim.Native.Nat.{◌*◌, ◌<◌}
use native.Mathlib.Omega.{arith}
use Rattle.level.proofs.MoveLaws.{listed_room, listed_stands, fact_fits}
use Rattle.level.specs.Inner.Moves.{move_at}
use Rattle.persons.proofs.FiringLaws.{firing}
use Rattle.persons.proofs.fires.Goals as goal
use Rattle.persons.proofs.fires.Goals.{After-from-f}

fits : (c : After-from-f) → c.from-f.result < 160
fits c =
    fact_fits c.args.ms.now (14 * c.args.i) (listed_stands c.requires.0 c.requires.1.0) c.from-f.ensures

pub bounds-held-f : goal.bounds-held-f
bounds-held-f c = omega (arith, fits (goal.at.bounds-held-f c).After-from-f, c.requires.1.1)

pub meets-requires : goal.meets-requires
meets-requires c = let pre = c.requires in (listed_room pre.0 pre.1.0, (listed_stands pre.0 pre.1.0, pre.1.1))

pub returns : goal.returns
unfolding move_at
returns c =
    firing c.args.ms.now (14 * c.args.i) c.args.all c.args.held.now
    (listed_stands c.requires.0 c.requires.1.0) c.from-f.ensures c.meets.ensures
