-- The closure adds each number that the set lacks to the flag that stands there. Assumes nothing.
use Rattle.std.proofs.Common.{rules, not, ◌||◌}
use Rattle.sets.specs.Sets.{member}
use Rattle.flags.proofs.add_lacking.Goals as goal

pub returns : goal.returns
returns c = c.write_flags.ensures (λ v was. was || not (member c.args.x v)) (λ v was b low gives. search rules)
