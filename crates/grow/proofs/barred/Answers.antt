-- `grow::barred` meets its contract: the closure tests a fact. Assumes nothing.
use Rattle.grow.specs.Inner.Tables.{bars_at}
use Rattle.std.proofs.Common.{rules, tests}
use Rattle.quantifiers.proofs.RangeLaws.{any_of_range}
use Rattle.grow.proofs.barred.Goals as goal

pub returns : goal.returns
returns c = any_of_range (bars_at c.args.ts.now c.args.d.now c.args.x.now c.args.f) 160 c.any.ensures.ran (cc) (λ x b q k. search (rules, tests))
