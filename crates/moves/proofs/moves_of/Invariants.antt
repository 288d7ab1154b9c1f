-- The contract for the rules before `r`: their moves stand in the buffer from move `from` on to before move `k`, and what stood before them is
-- as it was. Assumes nothing.
use Rattle.moves.specs.Inner.Listed.{of_list, Gathered}
use Rattle.moves.proofs.moves_of.Given as goal

abbrev pub invariant-loop-r : goal.invariant-loop-r
invariant-loop-r l = Gathered (of_list l.rules) l.one l.two l.roles l.from l.initial.ms l.r-index l.k l.ms
