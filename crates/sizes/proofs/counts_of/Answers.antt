-- `sizes::counts_of` meets its contract: std fills the eight places one by one. Assumes nothing.
use Rattle.std.proofs.Common.{rules, tests}
use Rattle.quantifiers.proofs.FilledLaws.{filled}
use Rattle.sizes.specs.Sizes.{count_at, counts_of}
use Rattle.sizes.proofs.counts_of.Goals as goal

pub returns : goal.returns
unfolding counts_of
returns c = filled _ (count_at c.args.x.now) _ _ 8 (λ i y q h e. search (rules, tests)) 0 c.from_fn.ensures.items
