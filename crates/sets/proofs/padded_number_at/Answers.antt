-- `sets::padded_number_at` meets its contract: a byte more is worth as its definition says, and the number of four fits a word.
-- Assumes nothing.
use mathlib.Core.Path.{◌≡◌, refl}
use Prim.Native.Nat.{◌-◌, ◌+◌}
use native.Mathlib.Omega.{arith}
use lib.ListN.{get_or}
use Rattle.std.proofs.lemmas.Grind.{common_steps}
use Rattle.sets.specs.Sets.{number_at}
use Rattle.sets.proofs.SetLaws.{number_room, number_more}
use Rattle.sets.proofs.padded_number_at.Goals as goal

pub loop-i-init : goal.loop-i-init
unfolding number_at
loop-i-init c = let e : c.args.at - c.args.at ≡ 0 = omega arith in rw e refl

pub overflow_mul-number : goal.overflow_mul-number
overflow_mul-number c =
    let room = number_room c.args.s.now (λ i. omega (arith, c.type_inv.s i)) c.args.at (c.loop-i.i - c.args.at) c.args.w (omega arith) (omega arith) in
    omega (arith, room)

pub overflow_add-number : goal.overflow_add-number
overflow_add-number c =
    let room = number_room c.args.s.now (λ i. omega (arith, c.type_inv.s i)) c.args.at (c.loop-i.i - c.args.at) c.args.w (omega arith) (omega arith) in
    omega (arith, room, c.from.ensures)

pub loop-i-preserved : goal.loop-i-preserved
loop-i-preserved c =
    let is : c.from.result ≡ get_or c.args.s.now c.loop-i.i 0 = grind (arith, common_steps) in
    let more = number_more c.args.s.now c.args.at (c.loop-i.i - c.args.at) in
    let here : c.args.at + (c.loop-i.i - c.args.at) ≡ c.loop-i.i = omega arith in
    let next : c.loop-i.i + 1 - c.args.at ≡ c.loop-i.i - c.args.at + 1 = omega arith in
    cc
