-- `inherit::crew_holds_at_least` meets its contract: one search finds whichever of the values there is.
use Rattle.std.proofs.Common.{rules, ◌≡◌, ◌∙◌}
use Rattle.std.specs.Option.{is_none}
use Rattle.facts.specs.Facts.{holds}
use Rattle.inherit.specs.Inner.Search.{sought}
use Rattle.inherit.specs.declared.Sought.TheVariants.{AtLeast}
use Rattle.inherit.proofs.InheritanceLaws.{leaves_nothing}
use Rattle.inherit.proofs.AtLeastLaws.{crew_at_least}
use Rattle.inherit.proofs.crew_holds_at_least.Goals as goal

pub returns : goal.returns
unfolding sought
returns c =
    let at = c.args in
    let S = holds at.ledger.now in
    let none : c.is_none.result ≡ is_none c.crew_tried.result = search rules in
    none
    ∙ leaves_nothing at.juniors.now (sought S (AtLeast at.a at.v)) _ _ c.crew_tried.ensures
    ∙ crew_at_least at.juniors.now S at.a at.v 16 at.c.0
