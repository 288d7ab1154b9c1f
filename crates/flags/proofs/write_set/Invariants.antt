-- Before byte `m` from the end the numbers of the bytes behind it are written. Assumes nothing.
use Prim.Native.Nat.{◌*◌}
use Rattle.sets.specs.Sets.{member_at}
use Rattle.flags.specs.Inner.Flags.{FlagsWritten}
use Rattle.flags.proofs.write_set.Given as goal

abbrev pub invariant-loop-m : goal.invariant-loop-m
invariant-loop-m l = FlagsWritten l.initial.s l.at (member_at l.facts l.place l.w) (8 * l.m) l.s
