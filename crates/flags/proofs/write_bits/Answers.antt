-- The closure gives each flag by its number alone: whether that is a member. Assumes nothing.
use Rattle.std.proofs.Common.{rules}
use Rattle.sets.specs.Sets.{member}
use Rattle.flags.proofs.write_bits.Goals as goal

pub returns : goal.returns
returns c = c.write_flags.ensures (λ v was. member c.args.x v) (λ v was b low gives. search rules)
