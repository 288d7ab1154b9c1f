-- `requests::are_value_sets` meets its contract: the closure tests a set. Assumes nothing.
use Rattle.std.proofs.Common.{rules, tests}
use Rattle.quantifiers.proofs.RangeLaws.{all_of_range}
use Rattle.requests.specs.Suitable.{value_set_good}
use Rattle.requests.proofs.are_value_sets.Goals as goal

pub returns : goal.returns
returns c = all_of_range (value_set_good c.args.z c.args.ledger.now c.args.start c.args.subjects) c.args.count c.all.ensures.ran (cc) (λ x b q k. search (rules, tests))
