-- `gate::are_terms` meets its contract: the closure tests a term. Assumes nothing.
use Rattle.std.proofs.Common.{rules, tests}
use Rattle.quantifiers.proofs.RangeLaws.{all_of_range}
use Rattle.gate.specs.Gate.{term_good_at}
use Rattle.gate.proofs.are_terms.Goals as goal

pub returns : goal.returns
returns c = all_of_range (term_good_at c.args.z c.args.x.now) c.args.n c.all.ensures.ran (cc) (λ x b q k. search (rules, tests))
