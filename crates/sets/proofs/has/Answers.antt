-- `sets::has` meets its contract: the code is the definition where v is below 32, and from 32 on a word has no member.
-- Assumes nothing.
use mathlib.Core.Path.{refl, sym, ◌∙◌}
use borrow.Author.Tests.{le-ltb}
use Rattle.sets.specs.Sets.{member, bit}
use Rattle.sets.proofs.SetLaws.{member_beyond}
use Rattle.sets.proofs.has.Goals as goal

pub returns-then-v-lt32 : goal.returns-then-v-lt32
unfolding member bit
returns-then-v-lt32 c = refl

pub returns-else-v-lt32 : goal.returns-else-v-lt32
returns-else-v-lt32 c = le-ltb _ _ c.if-v-lt32.false ∙ sym (member_beyond c.args.x c.args.v 32 c.ranges.x.fits c.if-v-lt32.false)
