-- `gate::are_wants` meets its contract: the closure tests an attribute and its set. Assumes nothing.
use Rattle.std.proofs.Common.{rules, tests}
use Rattle.quantifiers.proofs.RangeLaws.{all_of_range}
use Rattle.gate.specs.Gate.{want_good_at}
use Rattle.gate.proofs.are_wants.Goals as goal

pub returns : goal.returns
returns c = all_of_range (want_good_at c.args.z c.args.x.now) c.args.q c.all.ensures.ran (cc) (λ x b q k. search (rules, tests))
