-- `frames::is_growing` meets its contract: the op, and each of the first n terms, is one that such a book may have. Assumes nothing.
use Rattle.std.proofs.Common.{rules, tests, Bool, ◌||◌, ◌≡◌, eqb, refl, sym, ◌∙◌}
use Rattle.std.proofs.lemmas.Iterator.{YieldsList-from_slice, YieldsList-from_take}
use Rattle.std.proofs.lemmas.Iterator.Search.{all_from_yields_List}
use lib.ListN.{take}
use Rattle.quantifiers.specs.Quantifiers.{all}
use Rattle.quantifiers.proofs.PositionLaws.{all_list}
use Rattle.frames.specs.declared.Term.{Term}
use Rattle.frames.specs.Limits.{growing, is_not}
use Rattle.frames.proofs.is_growing.Goals as goal

abbrev allowed : Term → Bool
allowed t = is_not t || (eqb t.kind 1 || eqb t.kind 3)

pub returns-then-is_growing_op : goal.returns-then-is_growing_op
unfolding growing
returns-then-is_growing_op c =
    let r = c.args.r.now in
    let terms : c.all.result ≡ all allowed (take r.n r.terms) =
    all_from_yields_List allowed _ _ c.all.result c.all.ensures.ran
    (YieldsList-from_take r.n (YieldsList-from_slice r.terms cc) cc) (λ x b q k. search (rules, tests))
    ∙ all_list allowed _ in
    rw (sym c.is_growing_op.ensures ∙ c.if-is_growing_op.true) terms

pub returns-else-is_growing_op : goal.returns-else-is_growing_op
unfolding growing
returns-else-is_growing_op c =
    c.if-is_growing_op.false ∙ sym (rw (sym c.is_growing_op.ensures ∙ c.if-is_growing_op.false) refl)
