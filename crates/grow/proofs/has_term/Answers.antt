-- `grow::has_term` meets its contract: the closure tests a term. Assumes nothing.
use Prim.Native.Nat.{◌+◌, ◌*◌}
use lib.Dec.{eqb}
use Rattle.grow.specs.Inner.Tables.{says, term}
use Rattle.std.proofs.Common.{rules, tests}
use Rattle.quantifiers.proofs.RangeLaws.{any_of_range}
use Rattle.grow.proofs.has_term.Goals as goal

pub returns : goal.returns
unfolding says
returns c = any_of_range (λ j. eqb (term c.args.ts.now (8 * c.args.f + j)) c.args.k) 8 c.any.ensures.ran (cc) (λ x b q k. search (rules, tests))
