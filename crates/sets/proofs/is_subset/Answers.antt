-- `sets::is_subset` meets its contract: the code is the definition. Assumes nothing.
use mathlib.Core.Path.{refl}
use Rattle.sets.specs.Sets.{subset}
use Rattle.sets.proofs.is_subset.Goals as goal

pub returns : goal.returns
unfolding subset
returns c = refl
