-- `gate::are_value_terms` meets its contract: the closure tests a term. Assumes nothing.
use Rattle.std.proofs.Common.{rules, tests}
use Rattle.quantifiers.proofs.RangeLaws.{all_of_range}
use Rattle.gate.specs.Gate.{value_term_at}
use Rattle.gate.proofs.are_value_terms.Goals as goal

pub returns : goal.returns
returns c = all_of_range (value_term_at c.args.x.now) c.args.n c.all.ensures.ran (cc) (λ x b q k. search (rules, tests))
