-- `lines::fill_characters` meets its contract: each character that is a digit has its entry, and no other character is one's.
-- Assumes nothing.
use native.Mathlib.Omega.{arith}
use Prim.Native.Nat.{◌≤◌}
use Rattle.lines.proofs.FillLaws.{encode_none, encode_digit, encode_other, encode_all}
use Rattle.lines.proofs.fill_characters.Goals as goal
use Rattle.lines.proofs.fill_characters.Goals.{then-v-lt16, else-v-lt16}

pub loop-c-init : goal.loop-c-init
loop-c-init c = encode_none _ c.requires

pub loop-c-preserved : goal.loop-c-preserved
loop-c-preserved c =
    let last : c.loop-c.c ≤ 70 = omega (arith, c.loop-c-test.true) in
    let is = c.digit_of-v.ensures in
    elim c.if-v-lt16.branch [
      | then-v-lt16 w ↦ rw (w.table-is, w.from.ensures) (encode_digit _ _ c.loop-c.invariant last _ is w.if-v-lt16.true)
      | else-v-lt16 w ↦ rw w.table-is (encode_other _ _ c.loop-c.invariant last _ is w.if-v-lt16.false)
    ]

pub returns : goal.returns
returns c = encode_all _ _ c.loop-c.invariant (omega (arith, c.loop-c-test.false))
