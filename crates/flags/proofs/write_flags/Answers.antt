-- Whatever the calls of `flag` tell, before number `v` the first `v` flags are written, and the others are as they were. Assumes nothing.
use mathlib.Core.Path.{refl, ap, ◌∙◌}
use Prim.Native.Nat.{◌+◌}
use native.Mathlib.Omega.{arith}
use Rattle.flags.proofs.FlagLaws.{written_more}
use Rattle.flags.proofs.write_flags.Goals as goal

pub loop-v-preserved : goal.loop-v-preserved
loop-v-preserved g c p tells =
    let next = c.args.at + c.loop-v.v in
    let written = c.loop-v.invariant p tells in
    rw c.from.ensures
    (written_more _ next written refl (omega arith)
    (tells c.loop-v.v _ _ c.loop-v-test.true (rw c.from.ensures at c.flag.ensures) ∙ ap (p c.loop-v.v) (written.above next (omega arith))))
