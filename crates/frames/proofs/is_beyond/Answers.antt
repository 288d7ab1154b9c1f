-- `frames::is_beyond` meets its contract: some rule is none of such a book's, or two have one key. Assumes nothing.
use Rattle.std.proofs.Common.{rules, tests, ◌≡◌, refl, sym, ◌∙◌}
use Rattle.std.proofs.lemmas.Iterator.{YieldsList-from_slice}
use Rattle.std.proofs.lemmas.Iterator.Search.{all_from_yields_List}
use Rattle.quantifiers.specs.Quantifiers.{all}
use Rattle.quantifiers.proofs.PositionLaws.{all_list}
use Rattle.frames.specs.Limits.{growing}
use Rattle.frames.proofs.is_beyond.Goals as goal
use Rattle.frames.proofs.is_beyond.Goals.{After-all}

are : (c : After-all) → c.all.result ≡ all growing c.args.rs.now
are c =
    all_from_yields_List growing _ _ c.all.result c.all.ensures.ran (YieldsList-from_slice c.args.rs.now cc) (λ x b q k. search (rules, tests))
    ∙ all_list growing _

pub returns-then-not-all : goal.returns-then-not-all
returns-then-not-all c = let e = are (goal.at.returns-then-not-all c).After-all in rw (sym e, c.if-not-all.true) refl

pub returns-else-not-all : goal.returns-else-not-all
returns-else-not-all c =
    let e = are (goal.at.returns-else-not-all c).After-all in c.is_twice.ensures ∙ sym (rw (sym e, c.if-not-all.false) refl)
