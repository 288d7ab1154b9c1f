-- Before a set what the sets before it lack is added. Assumes nothing.
use Rattle.flags.specs.Inner.Flags.{FlagsWritten, banned_flag}
use Rattle.flags.proofs.add_banned.Given as goal

abbrev pub invariant-loop-w : goal.invariant-loop-w
invariant-loop-w l = FlagsWritten l.initial.bad 0 (banned_flag l.initial.bad l.fn.q l.w-index) 128 l.bad
