-- `grow::unmet` meets its contract: the closure tests a term. Assumes nothing.
use Prim.Native.Nat.{◌+◌, ◌*◌}
use Rattle.grow.specs.Inner.Tables.{fails_at}
use Rattle.std.proofs.Common.{rules, tests}
use Rattle.quantifiers.proofs.RangeLaws.{any_of_range}
use Rattle.grow.proofs.unmet.Goals as goal

pub returns : goal.returns
returns c = any_of_range (λ j. fails_at c.args.ts.now c.args.x.now (8 * c.args.f + j)) 8 c.any.ensures.ran (cc) (λ x b q k. search (rules, tests))
