-- `grow::is_free` meets its contract: a fact that is not to come, one with a term that fails, and one that the other facts decide. Assumes nothing.
use mathlib.Core.Path.{sym, ◌∙◌}
use borrow.Author.Tests.{not-true, not-false}
use Rattle.grow.proofs.TableLaws.{free_idle, free-unmet, free-met}
use Rattle.grow.proofs.is_free.Goals as goal
use Rattle.grow.proofs.is_free.Goals.{then-d-f, else-d-f}

pub returns-then-not-unmet : goal.returns-then-not-unmet
returns-then-not-unmet c =
    elim c.if-d-f.branch [
      | then-d-f w ↦ free-met _ _ _ _ _ w.if-d-f.true
          (sym w.unmet.ensures ∙ not-true _ (sym w.value-is ∙ c.if-not-unmet.true)) c.barred.ensures
      | else-d-f w ↦ cc (w.value-is, c.if-not-unmet.true, w.if-d-f.false)
    ]

pub returns-else-not-unmet : goal.returns-else-not-unmet
returns-else-not-unmet c =
    elim c.if-d-f.branch [
      | then-d-f w ↦ c.if-not-unmet.false ∙ free-unmet _ _ _ _ _ w.if-d-f.true
          (sym w.unmet.ensures ∙ not-false _ (sym w.value-is ∙ c.if-not-unmet.false))
      | else-d-f w ↦ c.if-not-unmet.false ∙ free_idle _ _ _ _ _ w.if-d-f.false
    ]
