-- `denials::why_not` meets its contract: std's searches find the first rule that has the request's op, role, a and v, and its first unmet
-- term; each place is counted from 1 and fits, since there are at most 512 rules and a rule has at most eight terms.
use Rattle.std.proofs.Common.{arith, sym, ◌∙◌}
use Rattle.facts.specs.Facts.{holds}
use Rattle.denials.proofs.DenialLaws.{told_none, told_some, found-short, unmet_place, unmet_few}
use Rattle.denials.proofs.why_not.Goals as goal

pub returns-in_default : goal.returns-in_default
returns-in_default c =
    told_none c.args.juniors.now (holds c.args.ledger.now) c.args.q c.args.rules.now (sym c.first_named.ensures ∙ c.in_default.is)

pub first_unmet-requires : goal.first_unmet-requires
first_unmet-requires c =
    let at = c.args in
    let short =
    found-short at.juniors.now (holds at.ledger.now) at.q at.rules.now c.in-Some.i c.in-Some.ensures _ c.requires.count_bound.1 in
    (short, c.requires.juniors_len)

pub overflow_cast-result-2 : goal.overflow_cast-result-2
overflow_cast-result-2 c =
    let at = c.args in
    let S = holds at.ledger.now in
    let short = found-short at.juniors.now S at.q at.rules.now c.in-Some.i c.in-Some.ensures _ c.requires.count_bound.1 in
    let few = unmet_few at.juniors.now S at.q _ short _ c.first_unmet.ensures _ (rw c.from.ensures at c.unwrap_or-j.ensures) in
    record { fits = omega (arith, few) }

pub returns : goal.returns
returns c =
    let at = c.args in
    let S = holds at.ledger.now in
    let short = found-short at.juniors.now S at.q at.rules.now c.in-Some.i c.in-Some.ensures _ c.requires.count_bound.1 in
    told_some at.juniors.now S at.q at.rules.now c.in-Some.i c.in-Some.ensures _ c.unwrap_or-j.result
    (unmet_place at.juniors.now S at.q _ short _ c.first_unmet.ensures _ (rw c.from.ensures at c.unwrap_or-j.ensures))
