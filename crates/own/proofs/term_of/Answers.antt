-- `own::term_of` meets its contract: a term that the move has, and one that it does not have. Assumes nothing.
use Rattle.own.proofs.EnteredLaws.{term-own, term-none}
use Rattle.own.proofs.term_of.Goals as goal

pub returns-then-j-m : goal.returns-then-j-m
returns-then-j-m c = term-own _ _ c.if-j-m.true

pub returns-else-j-m : goal.returns-else-j-m
returns-else-j-m c = term-none _ _ c.if-j-m.false
