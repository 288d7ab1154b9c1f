-- `sets::number_at` meets its contract: a byte more is worth as its definition says, and the number of four fits a word.
-- Assumes nothing.
use mathlib.Core.Path.{refl}
use Prim.Native.Nat.{◌<◌, ◌+◌}
use native.Mathlib.Omega.{arith}
use Rattle.sets.specs.Sets.{number_at}
use Rattle.sets.proofs.SetLaws.{number_room, number_more, slice_length, slice_byte}
use Rattle.sets.proofs.number_at.Goals as goal
use Rattle.sets.proofs.number_at.Goals.{In-loop-byte}

pub loop-byte-init : goal.loop-byte-init
unfolding number_at
loop-byte-init c = refl

-- The turn is one of w.
turn : (c : In-loop-byte) → c.loop-byte.byte-index < c.args.w
turn c = omega (arith, c.loop-byte-test.true, slice_length c.args.s.now c.args.at c.args.w c.requires.1)

room : (c : In-loop-byte) → number_at c.args.s.now c.args.at c.loop-byte.byte-index < 16777216
room c = number_room c.args.s.now (λ i. omega (arith, c.type_inv.s i)) c.args.at c.loop-byte.byte-index c.args.w (turn c) c.requires.0

pub overflow_mul-number : goal.overflow_mul-number
overflow_mul-number c = omega (arith, room c)

pub overflow_add-number : goal.overflow_add-number
overflow_add-number c =
    let at-turn = (goal.at.overflow_add-number c).In-loop-byte in
    omega (
      arith,
      room at-turn,
      c.from.ensures,
      slice_byte c.args.s.now c.args.at c.args.w c.requires.1 c.loop-byte.byte-index (turn at-turn),
      c.type_inv.s (c.args.at + c.loop-byte.byte-index),
    )

pub loop-byte-preserved : goal.loop-byte-preserved
loop-byte-preserved c =
    let at-turn = (goal.at.loop-byte-preserved c).In-loop-byte in
    let more = number_more c.args.s.now c.args.at c.loop-byte.byte-index in
    let is = slice_byte c.args.s.now c.args.at c.args.w c.requires.1 c.loop-byte.byte-index (turn at-turn) in
    cc
