-- Before attribute `a` those below it are written. Assumes nothing.
use Prim.Native.Nat.{◌*◌}
use Rattle.flags.specs.Inner.Flags.{FlagsWritten, value_at}
use Rattle.flags.proofs.write_values.Given as goal

abbrev pub invariant-loop-a : goal.invariant-loop-a
invariant-loop-a l = FlagsWritten l.initial.s 0 (value_at l.facts l.place) (16 * l.a) l.s
