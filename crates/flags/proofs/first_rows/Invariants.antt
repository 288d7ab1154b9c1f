-- All is cleared; before row `c` the rows below it have their own crew and nothing else. Assumes nothing.
use Rattle.flags.specs.Inner.Flags.{FlagsWritten}
use Rattle.flags.proofs.FlagLaws.{is_own_below}
use Rattle.flags.proofs.first_rows.Given as goal

abbrev pub invariant-loop-c : goal.invariant-loop-c
invariant-loop-c l = FlagsWritten l.initial.rows 0 (is_own_below l.c) 5120 l.rows
