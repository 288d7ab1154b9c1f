-- `frames::is_plain` meets its contract: each of the first n terms is looked at. Assumes nothing.
use Rattle.std.proofs.Common.{rules, tests, ◌∙◌}
use Rattle.std.proofs.lemmas.Iterator.{YieldsList-from_slice, YieldsList-from_take}
use Rattle.std.proofs.lemmas.Iterator.Search.{all_from_yields_List}
use mathlib.Core.Bool.{not}
use Rattle.quantifiers.proofs.PositionLaws.{all_list}
use Rattle.frames.specs.Limits.{plain, is_not}
use Rattle.frames.proofs.is_plain.Goals as goal

pub returns : goal.returns
unfolding plain
returns c =
    all_from_yields_List (λ t. not (is_not t)) _ _ _ c.all.ensures.ran
    (YieldsList-from_take c.args.r.now.n (YieldsList-from_slice c.args.r.now.terms cc) cc) (λ x b q k. search (rules, tests))
    ∙ all_list (λ t. not (is_not t)) _
