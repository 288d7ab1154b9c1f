-- `readings::facts_in` meets its contract: as many sizes as a ledger has bytes fit, and the chain's sum of them is the total. Assumes nothing.
use Rattle.std.proofs.Common.{rules, arith}
use Rattle.std.proofs.lemmas.Iterator.{YieldsList-from_slice}
use Rattle.std.proofs.lemmas.Iterator.Adapters.{fits_from_length, at_most_from_yields_List}
use Rattle.facts.specs.declared.TheConstants.{LEDGER_SIZE}
use Rattle.answers.proofs.AnswerLaws.{total_sum}
use Rattle.readings.proofs.facts_in.Goals as goal

pub sum-requires-clause-fits : goal.sum-requires-clause-fits
sum-requires-clause-fits c =
    fits_from_length _ _ LEDGER_SIZE _ (at_most_from_yields_List (YieldsList-from_slice c.args.ledger.now cc) (omega arith)) c.map.ensures.closure
    (omega arith) (λ x r q k. search rules)

pub returns : goal.returns
returns c = rw total_sum (search rules)
