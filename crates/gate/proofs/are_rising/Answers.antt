-- `gate::are_rising` meets its contract: the closure tests an attribute and the next one. Assumes nothing.
use Rattle.std.proofs.Common.{rules, tests, ◌-◌}
use Rattle.quantifiers.proofs.RangeLaws.{all_of_range}
use Rattle.gate.specs.Gate.{rises_at}
use Rattle.gate.proofs.are_rising.Goals as goal

pub returns : goal.returns
returns c = all_of_range (rises_at c.args.x.now) (c.args.q - 1) c.all.ensures.ran (cc) (λ x b q k. search (rules, tests))
