-- The closure tests a crew: whether it is listed and its row reaches `c`. Assumes nothing.
use Rattle.std.proofs.Common.{rules, tests}
use Rattle.quantifiers.proofs.RangeLaws.{any_of_range}
use Rattle.flags.specs.Inner.Flags.{listed_reaches}
use Rattle.flags.proofs.do_listed_reach.Goals as goal

pub returns : goal.returns
returns c = any_of_range (listed_reaches c.args.listed c.args.rows.now c.args.c) 32 c.any.ensures.ran (cc) (λ x b q k. search (rules, tests))
