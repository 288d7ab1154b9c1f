-- Whether a move puts a fact back: three tests, the last with the fact put in. Its numbers are read where they stand. Assumes nothing.
use mathlib.Core.Path.{sym, ◌∙◌}
use Prim.Native.Nat.{◌*◌}
use native.Mathlib.Omega.{arith}
use Rattle.level.specs.Inner.Moves.{move_at}
use Rattle.level.specs.Inner.BackSweep.{backs_in}
use Rattle.level.proofs.MoveLaws.{listed_room, listed_stands, fact_fits, fact_flag}
use Rattle.level.proofs.backs.Goals as goal
use Rattle.level.proofs.backs.Goals.{then-not-y-f, else-not-y-f}

pub bounds-y-f : goal.bounds-y-f
bounds-y-f c =
    omega (arith, c.requires.x_len.1.0, fact_fits c.args.ms.now (14 * c.args.i) (listed_stands c.requires.sound.0 c.requires.sound.1) c.from-f.ensures)

pub bounds-x-f : goal.bounds-x-f
bounds-x-f c =
    omega (arith, c.requires.x_len.0, fact_fits c.args.ms.now (14 * c.args.i) (listed_stands c.requires.sound.0 c.requires.sound.1) c.from-f.ensures)

pub meets_with-requires-clause-move_size_in_bounds : goal.meets_with-requires-clause-move_size_in_bounds
meets_with-requires-clause-move_size_in_bounds c =
    (listed_room c.requires.sound.0 c.requires.sound.1, listed_stands c.requires.sound.0 c.requires.sound.1)

pub returns-then-x-f : goal.returns-then-x-f
unfolding backs_in move_at
returns-then-x-f c =
    elim c.if-not-y-f.branch [
      | then-not-y-f w ↦ rw (
        fact_flag c.args.ms.now (14 * c.args.i) c.args.y.now c.from-f.ensures w.if-not-y-f.true,
        fact_flag c.args.ms.now (14 * c.args.i) c.args.x.now c.from-f.ensures (sym w.value-is ∙ c.if-x-f.true),
      ) c.meets_with.ensures
      | else-not-y-f w ↦ cc
    ]

pub returns-else-x-f : goal.returns-else-x-f
unfolding backs_in move_at
returns-else-x-f c =
    elim c.if-not-y-f.branch [
      | then-not-y-f w ↦ rw (
        c.if-x-f.false,
        fact_flag c.args.ms.now (14 * c.args.i) c.args.y.now c.from-f.ensures w.if-not-y-f.true,
        fact_flag c.args.ms.now (14 * c.args.i) c.args.x.now c.from-f.ensures (sym w.value-is ∙ c.if-x-f.false),
      )
      | else-not-y-f w ↦ rw (c.if-x-f.false, fact_flag c.args.ms.now (14 * c.args.i) c.args.y.now c.from-f.ensures w.if-not-y-f.false)
    ]
