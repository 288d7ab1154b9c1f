-- `sizes::are_counts` meets its contract: the closure tests a count. Assumes nothing.
use Rattle.std.proofs.Common.{rules, tests}
use Rattle.quantifiers.proofs.RangeLaws.{all_of_range}
use Rattle.sizes.specs.Sizes.{count_good_at}
use Rattle.sizes.proofs.are_counts.Goals as goal

pub returns : goal.returns
returns c = all_of_range (count_good_at c.args.x.now) c.args.n c.all.ensures.ran (cc) (λ x b q k. search (rules, tests))
