-- The first fact that is lacking: the closure tests a fact. Assumes nothing.
use Rattle.std.proofs.Common.{rules, tests}
use Rattle.quantifiers.proofs.RangeLaws.{IsFirstFrom, find_of_range}
use Rattle.build.proofs.BuildLaws.{lacking, lacks_first}
use Rattle.build.proofs.lacks.Goals as goal

found : (c : goal.After-find) → IsFirstFrom (lacking c.args.a.now c.args.b.now) 0 160 c.find.result
found c = find_of_range (lacking c.args.a.now c.args.b.now) 160 _ _ c.find.ensures.ran (cc) (λ x b q k. search (rules, tests))

pub returns-clause-first : goal.returns-clause-first
returns-clause-first c = lacks_first c.args.a.now c.args.b.now c.find.result (found c)
