-- `sizes::value_count` meets its contract: one count more is added, and the sums are small. Assumes nothing.
use mathlib.Core.Path.{◌∙◌}
use native.Mathlib.Omega.{arith}
use Rattle.quantifiers.proofs.BelowLaws.{sum_more, sum-none}
use Rattle.sizes.specs.Sizes.{values_of}
use Rattle.sizes.proofs.SizeLaws.{counts_few}
use Rattle.sizes.proofs.value_count.Goals as goal

pub loop-a-init : goal.loop-a-init
loop-a-init c = sum-none _

pub overflow_add-n : goal.overflow_add-n
overflow_add-n c =
    let at-loop = c.loop-a in
    rw c.from-n.ensures (omega (arith, at-loop.invariant, counts_few c.args.z c.requires at-loop.a, c.requires.attrs_most))

pub loop-a-preserved : goal.loop-a-preserved
loop-a-preserved c = sum_more (values_of c.args.z) c.loop-a.a _ _ c.loop-a.invariant (c.from-n.ensures ∙ c.values_of.ensures)
