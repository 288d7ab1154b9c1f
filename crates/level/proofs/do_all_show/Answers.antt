-- std's `all` over the part of the numbers that has the terms, which is the places that the move asks. Assumes nothing.
use mathlib.Core.Path.{◌∙◌, ap}
use native.Mathlib.Omega.{arith}
use Rattle.std.proofs.Common.{rules}
use Rattle.std.proofs.lemmas.Iterator.{YieldsList-from_slice}
use Rattle.std.proofs.lemmas.Iterator.Adapters.{serves_from_places}
use Rattle.std.proofs.lemmas.Iterator.Search.{all_from_yields_List}
use Rattle.quantifiers.specs.Quantifiers.{all}
use Rattle.quantifiers.proofs.ListLaws.{within-any}
use Rattle.quantifiers.proofs.PositionLaws.{all_list}
use Rattle.level.proofs.MoveLaws.{reading, few_terms, part_read, part_places, term_fits}
use Rattle.level.proofs.do_all_show.Goals as goal

pub slice_bounds-iter-end : goal.slice_bounds-iter-end
slice_bounds-iter-end g c =
    omega (arith, c.requires.stands.0, few_terms (reading c.requires.stands.1 c.from-n.ensures))

pub all-requires-clause-callable : goal.all-requires-clause-callable
all-requires-clause-callable g c =
    let r = reading c.requires.stands.1 c.from-n.ensures in
    serves_from_places (YieldsList-from_slice _ c.iter.ensures.rest) (λ x q k. search rules)
    (λ x k l e.
    let (h, is_term) = part_read r c.requires.stands.0 k l in
    c.requires.callable x.now (term_fits r k h (e ∙ within-any _ k x.now 0 l ∙ is_term)))

pub returns : goal.returns
returns g c = λ p computes.
    let r = reading c.requires.stands.1 c.from-n.ensures in
    all_from_yields_List p _ _ c.all.result c.all.ensures.ran
    (YieldsList-from_slice _ c.iter.ensures.rest) (λ x b q k. search (rules, computes))
    ∙ all_list p _ ∙ ap (all p) (part_places r c.requires.stands.0)
