-- Before junior `j` the last row has what the juniors below `j` give. Assumes nothing.
use Rattle.flags.specs.Inner.Flags.{FlagsWritten}
use Rattle.flags.proofs.FlagLaws.{juniors_below}
use Rattle.flags.proofs.crew_table.Given as goal

abbrev pub invariant-loop-j : goal.invariant-loop-j
invariant-loop-j l = FlagsWritten l.initial.table 5120 (juniors_below l.juniors l.k l.rows l.j) 160 l.table
