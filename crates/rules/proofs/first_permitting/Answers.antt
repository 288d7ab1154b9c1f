-- `rules::first_permitting` meets its contract: std's search for the first that passes; each rule of the list is short.
use Rattle.std.proofs.Common.{rules}
use Rattle.std.proofs.lemmas.Iterator.{YieldsList-from_slice}
use Rattle.std.proofs.lemmas.Iterator.Adapters.{serves_from_places}
use Rattle.frames.specs.Inner.Fits.{Short}
use Rattle.rules.proofs.RuleLaws.{at_place}
use Rattle.rules.proofs.first_permitting.Goals as goal

pub position-requires-clause-callable : goal.position-requires-clause-callable
position-requires-clause-callable c =
    serves_from_places (YieldsList-from_slice c.args.rules.now (cc)) (λ x q k. search rules)
    (λ x k l e. let short : Short x.now = rw e (at_place Short c.args.rules.now k x.now l c.requires.0) in search rules)
