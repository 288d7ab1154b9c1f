-- `inherit::person_holds_at_least` meets its contract: where the person directly holds none of the values, one search from the person's
-- crews decides.
use Rattle.std.proofs.Common.{◌≡◌, sym, ◌∙◌, true, false}
use Rattle.quantifiers.specs.Quantifiers.{any_from}
use Rattle.facts.specs.Facts.{holds}
use Rattle.facts.specs.declared.Fact.TheVariants.{Holds}
use Rattle.facts.proofs.FactLaws.{person_from}
use Rattle.inherit.specs.Inner.Search.{sought}
use Rattle.inherit.proofs.AtLeastLaws.{person_at_least-direct, at_least_by_crews}
use Rattle.inherit.proofs.person_holds_at_least.Goals as goal

pub returns-then-holds_from : goal.returns-then-holds_from
returns-then-holds_from c =
    let at = c.args in
    let S = holds at.ledger.now in
    let direct : any_from (λ w. S (Holds at.p at.a w)) at.v 16 ≡ true = sym (c.holds_from.ensures ∙ person_from at.ledger.now at.p at.a at.v) ∙ c.if-holds_from.true in
    c.if-holds_from.true ∙ sym (person_at_least-direct at.juniors.now S at.a at.v 16 at.p direct)

pub returns-else-holds_from : goal.returns-else-holds_from
unfolding sought
returns-else-holds_from c =
    let at = c.args in
    let S = holds at.ledger.now in
    let direct : any_from (λ w. S (Holds at.p at.a w)) at.v 16 ≡ false = sym (c.holds_from.ensures ∙ person_from at.ledger.now at.p at.a at.v) ∙ c.if-holds_from.false in
    c.person_reaches.ensures ∙ at_least_by_crews at.juniors.now S at.a at.v 16 at.p direct
