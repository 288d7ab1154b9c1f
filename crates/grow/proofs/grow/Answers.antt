-- `grow::grow` meets its contract: with a needed fact left over there is no way, else the additions are one. Assumes nothing.
use Rattle.grow.proofs.TableLaws.{answer_none, answer_way}
use native.Mathlib.Omega.{arith}
use Rattle.grow.proofs.grow.Goals as goal

pub returns-in-Some : goal.returns-in-Some
returns-in-Some c =
    answer_none _ _ _ _ c.gather.ensures c.add_all-n.ensures c.in-Some.ensures.first c.in-Some.ensures.within

pub returns-in-None : goal.returns-in-None
returns-in-None c =
    answer_way _ _ _ _ c.gather.ensures c.add_all-n.ensures c.in-None.ensures.first (omega arith)
