-- `lines::fill_characters` meets its contract: the values whose characters stand before c have their entries.
use Rattle.lines.proofs.FillLaws.{Encoded}
use Rattle.lines.proofs.fill_characters.Given as goal

abbrev pub invariant-loop-c : goal.invariant-loop-c
invariant-loop-c l = Encoded l.table l.c
