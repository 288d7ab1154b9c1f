-- `requests::are_member_sets` meets its contract: the closure tests a person's set. Assumes nothing.
use Rattle.std.proofs.Common.{rules, tests}
use Rattle.quantifiers.proofs.RangeLaws.{all_of_range}
use Rattle.requests.specs.Suitable.{member_set_good}
use Rattle.requests.proofs.are_member_sets.Goals as goal

pub returns : goal.returns
returns c = all_of_range (member_set_good c.args.z c.args.ledger.now) 64 c.all.ensures.ran (cc) (λ x b q k. search (rules, tests))
