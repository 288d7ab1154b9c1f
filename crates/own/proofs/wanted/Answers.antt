-- `own::wanted` meets its contract: the closure gives each flag by its number alone, whether that fact is wanted. Assumes nothing.
use Rattle.std.proofs.Common.{rules}
use Rattle.own.specs.Inner.Wanted.{wanted_at}
use Rattle.own.proofs.wanted.Goals as goal

pub returns : goal.returns
returns c = c.write_flags.ensures (λ f was. wanted_at c.args.q.now f) (λ f was b low gives. search rules)
