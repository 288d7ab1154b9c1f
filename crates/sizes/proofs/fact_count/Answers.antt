-- `sizes::fact_count` meets its contract: the paper's formula, all of it small. Assumes nothing.
use Rattle.sizes.proofs.SizeLaws.{facts_are, values_few}
use native.Mathlib.Omega.{arith}
use Rattle.sizes.proofs.fact_count.Goals as goal

pub overflow_mul-result : goal.overflow_mul-result
overflow_mul-result c = rw (c.from-crews.ensures, c.value_count-values.ensures) (omega (arith, values_few c.args.z c.requires))

pub overflow_add-result-2 : goal.overflow_add-result-2
overflow_add-result-2 c = rw (c.from-crews.ensures, c.value_count-values.ensures) (omega (arith, values_few c.args.z c.requires))

pub returns : goal.returns
returns c = rw (facts_are c.args.z, c.from-crews.ensures, c.value_count-values.ensures)
