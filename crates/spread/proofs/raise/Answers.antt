-- `spread::raise` meets its contract: the invariant says that the flags of the attribute's values below k are set for the persons. Assumes
-- nothing.
use native.Mathlib.Omega.{arith}
use Rattle.spread.proofs.SpreadLaws.{raised_lit_all}
use Rattle.spread.proofs.raise.Goals as goal

pub returns : goal.returns
returns c = raised_lit_all c.loop-k.invariant (omega arith)
