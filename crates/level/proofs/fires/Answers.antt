-- Whether a move adds a fact: it is lacking, it is allowed, and the terms hold. Its numbers are read where they stand. Assumes nothing.
use mathlib.Core.Path.{sym, ◌∙◌}
use Prim.Native.Nat.{◌*◌}
use native.Mathlib.Omega.{arith}
use Rattle.level.specs.Inner.Moves.{move_at}
use Rattle.level.specs.Inner.Sweep.{fires_in}
use Rattle.level.proofs.MoveLaws.{listed_room, listed_stands, fact_fits, fact_flag}
use Rattle.level.proofs.fires.Goals as goal
use Rattle.level.proofs.fires.Goals.{then-not-x-f, else-not-x-f}

pub bounds-x-f : goal.bounds-x-f
bounds-x-f c =
    omega (arith, c.requires.x_len.0, fact_fits c.args.ms.now (14 * c.args.i) (listed_stands c.requires.sound.0 c.requires.sound.1) c.from-f.ensures)

pub bounds-allowed-f : goal.bounds-allowed-f
bounds-allowed-f c =
    omega (arith, c.requires.x_len.1, fact_fits c.args.ms.now (14 * c.args.i) (listed_stands c.requires.sound.0 c.requires.sound.1) c.from-f.ensures)

pub meets-requires : goal.meets-requires
meets-requires c =
    (listed_room c.requires.sound.0 c.requires.sound.1, (listed_stands c.requires.sound.0 c.requires.sound.1, c.requires.x_len.0))

pub returns-then-allowed-f : goal.returns-then-allowed-f
unfolding fires_in move_at
returns-then-allowed-f c =
    elim c.if-not-x-f.branch [
      | then-not-x-f w ↦ rw (
        fact_flag c.args.ms.now (14 * c.args.i) c.args.x.now c.from-f.ensures w.if-not-x-f.true,
        fact_flag c.args.ms.now (14 * c.args.i) c.args.allowed.now c.from-f.ensures (sym w.value-is ∙ c.if-allowed-f.true),
      ) c.meets.ensures
      | else-not-x-f w ↦ cc
    ]

pub returns-else-allowed-f : goal.returns-else-allowed-f
unfolding fires_in move_at
returns-else-allowed-f c =
    elim c.if-not-x-f.branch [
      | then-not-x-f w ↦ rw (
        c.if-allowed-f.false,
        fact_flag c.args.ms.now (14 * c.args.i) c.args.x.now c.from-f.ensures w.if-not-x-f.true,
        fact_flag c.args.ms.now (14 * c.args.i) c.args.allowed.now c.from-f.ensures (sym w.value-is ∙ c.if-allowed-f.false),
      )
      | else-not-x-f w ↦ rw (c.if-allowed-f.false, fact_flag c.args.ms.now (14 * c.args.i) c.args.x.now c.from-f.ensures w.if-not-x-f.false)
    ]
