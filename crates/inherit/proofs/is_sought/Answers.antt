-- `inherit::is_sought` meets its contract: each arm is the definition at its variant; a ledger's values from one on are at most 15.
use Rattle.std.proofs.Common.{◌∙◌}
use Rattle.facts.proofs.FactLaws.{crew_from}
use Rattle.inherit.specs.Inner.Search.{sought}
use Rattle.inherit.proofs.is_sought.Goals as goal

pub returns-in-AtLeast : goal.returns-in-AtLeast
unfolding sought
returns-in-AtLeast c = rw c.in-AtLeast.is (c.holds_from.ensures ∙ crew_from c.args.ledger.now _ _ _)
