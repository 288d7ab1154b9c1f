-- `sets::has_at` meets its contract: it is `has` of the member's byte, which past the slice's end counts as 0, the empty set.
-- Assumes nothing.
use Rattle.std.proofs.Common.{arith}
use Rattle.std.proofs.lemmas.Grind.{common_steps}
use Rattle.sets.specs.Sets.{member_at}
use Rattle.sets.proofs.has_at.Goals as goal

pub returns : goal.returns
unfolding member_at
returns c = grind (arith, common_steps)
