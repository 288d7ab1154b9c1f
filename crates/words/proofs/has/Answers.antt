-- `words::has` meets its contract: the bit is read as the definition of a member says. Assumes nothing.
use mathlib.Core.Path.{sym}
use Rattle.sets.specs.Sets.{member, bit}
use Rattle.words.proofs.WordLaws.{column_at}
use Rattle.words.proofs.has.Goals as goal

pub returns : goal.returns
unfolding member bit
returns c =
    sym (column_at c.args.held.now c.args.p c.args.k)
