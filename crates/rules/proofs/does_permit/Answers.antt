-- `rules::does_permit` meets its contract: the rule names the request, and std's `all` over its terms.
use Rattle.std.proofs.Common.{rules, tests, ◌≡◌, sym, ◌∙◌, true, false}
use Rattle.std.proofs.lemmas.Iterator.{YieldsList-from_slice}
use Rattle.std.proofs.lemmas.Iterator.Search.{all_from_yields_List}
use Rattle.facts.specs.Facts.{holds}
use Rattle.quantifiers.proofs.PositionLaws.{all_list}
use Rattle.rules.specs.Rules.{term_holds, names}
use Rattle.rules.proofs.RuleLaws.{unnamed, decided}
use Rattle.rules.proofs.does_permit.Goals as goal

pub returns-then-is_named : goal.returns-then-is_named
returns-then-is_named c =
    let js = c.args.juniors.now in
    let S = holds c.args.ledger.now in
    let q = c.args.q in
    let r = c.args.r.now in
    let named : names q r ≡ true = sym c.is_named.ensures ∙ c.if-is_named.true in
    let every =
    all_from_yields_List (term_holds js S c.subject_of-s.result) _ _ c.all.result c.all.ensures.ran
    (YieldsList-from_slice c.terms_of.result.now (cc)) (λ x b k e. search (rules, tests)) in
    every ∙ rw (c.subject_of-s.ensures, c.terms_of.ensures) (all_list _ _) ∙ sym (decided js S q r named)

pub returns-else-is_named : goal.returns-else-is_named
returns-else-is_named c =
    let no : names c.args.q c.args.r.now ≡ false = sym c.is_named.ensures ∙ c.if-is_named.false in
    c.is_named.ensures ∙ no ∙ sym (unnamed c.args.juniors.now (holds c.args.ledger.now) c.args.q c.args.r.now no)
