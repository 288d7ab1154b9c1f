-- `own::wants_value` meets its contract: std's `any` over the first q sets, each of which is judged as `has_value` judges it. Assumes nothing.
use Rattle.std.proofs.Common.{rules, tests, ◌&&◌, take, ◌∙◌}
use lib.Dec.{eqb}
use Rattle.std.proofs.lemmas.Iterator.{YieldsList-from_slice}
use Rattle.std.proofs.lemmas.Iterator.Search.{any_from_yields_List}
use Rattle.quantifiers.proofs.ListLaws.{any-front}
use Rattle.sets.specs.Sets.{member}
use Rattle.frames.specs.Book.{no_want}
use Rattle.frames.specs.Inner.Fits.{want_of}
use Rattle.quantifiers.proofs.PositionLaws.{any_list}
use native.Mathlib.Omega.{arith}
use Rattle.own.proofs.wants_value.Goals as goal

pub returns : goal.returns
unfolding want_of
returns c =
    let q = c.args.q.now in
    any_from_yields_List (λ w. eqb w.attr.0 c.args.a.0 && member w.set c.args.v) _ _ _ c.any.ensures.ran
    (YieldsList-from_slice (take q.q q.wants) (cc)) (λ x b q k. search (rules, tests))
    ∙ any_list _ _ ∙ any-front (λ w. eqb w.attr.0 c.args.a.0 && member w.set c.args.v) no_want q.wants q.q (omega (arith, c.requires.few, c.requires.room))
