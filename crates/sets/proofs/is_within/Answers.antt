-- `sets::is_within` meets its contract: the code is the definition where n is below 32, and every word is within 32.
-- Assumes nothing.
use mathlib.Core.Path.{refl, sym, ◌∙◌}
use borrow.Author.Tests.{le-leb}
use Rattle.sets.specs.Sets.{within}
use Rattle.sets.proofs.SetLaws.{within_beyond}
use Rattle.sets.proofs.is_within.Goals as goal

pub returns-then-n-ge32 : goal.returns-then-n-ge32
returns-then-n-ge32 c = le-leb _ _ c.if-n-ge32.true ∙ sym (within_beyond c.args.x c.args.n 32 c.ranges.x.fits c.if-n-ge32.true)

pub returns-else-n-ge32 : goal.returns-else-n-ge32
unfolding within
returns-else-n-ge32 c = refl
