-- `persons::meets` meets its contract: the invariant says that the terms from the one at hand on decide, of those left. What a term
-- asks is a flag (`term_fits`). Assumes nothing.
use mathlib.Core.Path.{◌∙◌}
use Prim.Native.Nat.{◌≤◌, ◌<◌}
use native.Mathlib.Omega.{arith}
use Rattle.level.proofs.MoveLaws.{Reading, few_terms, part_count, part_read, term_fits}
use Rattle.persons.proofs.FiringLaws.{meeting_first, meeting_more, meeting_nobody, meeting_all}
use Rattle.persons.proofs.meets.Goals as goal
use Rattle.persons.proofs.meets.Goals.{After-from, After-from-n}

-- What was read of the move before its terms.
abbrev reading : (c : After-from-n) → Reading c.args.ms.now c.args.at c.from-n.result
reading c = record { fine = c.requires.1.0; count = c.from-n.ensures }

-- A move has eight terms at most, and what a term asks is a flag.
few : (c : After-from-n) → c.from-n.result ≤ 8
few c = few_terms (reading c)

fits : (c : After-from) → Reading c.args.ms.now c.args.at c.from-n.result → c.from.result < 448
fits c r =
    let (l, is_term) = part_read r c.requires.0 c.loop-k.k-index c.loop-k-test.true in
    term_fits r c.loop-k.k-index l (c.from.ensures ∙ is_term)

pub slice_bounds-k-items-end : goal.slice_bounds-k-items-end
slice_bounds-k-items-end c = omega (arith, c.requires.0, few (goal.at.slice_bounds-k-items-end c).After-from-n)

pub loop-k-init : goal.loop-k-init
loop-k-init c =
    meeting_first c.args.ms.now c.args.at c.args.all c.args.held.now

pub returns-then-who-eq0 : goal.returns-then-who-eq0
returns-then-who-eq0 c =
    meeting_nobody (reading (goal.at.returns-then-who-eq0 c).After-from-n) c.loop-k.invariant c.if-who-eq0.true

pub bounds-held-from : goal.bounds-held-from
bounds-held-from c = omega (arith, fits (goal.at.bounds-held-from c).After-from (reading (goal.at.bounds-held-from c).After-from-n), c.requires.1.1)

pub loop-k-preserved : goal.loop-k-preserved
loop-k-preserved c =
    let r = reading (goal.at.loop-k-preserved c).After-from-n in
    let (l, is_term) = part_read r c.requires.0 c.loop-k.k-index c.loop-k-test.true in
    meeting_more r c.loop-k.invariant l (c.from.ensures ∙ is_term)

pub returns : goal.returns
returns c =
    let r = reading (goal.at.returns c).After-from-n in
    meeting_all r c.loop-k.invariant (omega (arith, c.loop-k-test.false, part_count r c.requires.0))
