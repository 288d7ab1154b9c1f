-- `ledger::value_sets` meets its contract: std fills the eight places one by one. Assumes nothing.
use Rattle.std.proofs.Common.{rules, tests}
use Rattle.facts.specs.Facts.{holds}
use Rattle.ledger.specs.Show.{value_set, value_sets}
use Rattle.quantifiers.proofs.FilledLaws.{filled}
use Rattle.ledger.proofs.value_sets.Goals as goal

pub returns : goal.returns
unfolding value_sets
returns c =
    filled _ (value_set c.args.z c.args.juniors.now (holds c.args.ledger.now) c.args.p) _ _ 8 (λ i y q h e. search (rules, tests)) 0
    c.from_fn.ensures.items
