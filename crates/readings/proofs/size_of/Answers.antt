-- `readings::size_of` meets its contract. The invariant: n is how many numbers below v are members, at most v. Assumes nothing.
use mathlib.Core.Path.{refl, sym, ◌∙◌}
use native.Mathlib.Omega.{arith}
use Rattle.answers.specs.Answers.{size}
use Rattle.answers.proofs.AnswerLaws.{size_in, size_out}
use Rattle.readings.proofs.size_of.Goals as goal
use Rattle.readings.proofs.size_of.Goals.{then-has, else-has}

pub loop-v-init : goal.loop-v-init
unfolding size
loop-v-init c = (refl, omega arith)

pub loop-v-preserved : goal.loop-v-preserved
loop-v-preserved c =
    let x = c.args.x in
    let v = c.loop-v.v in
    let is = sym c.has.ensures in
    elim c.if-has.branch [
      | then-has w ↦ let more = size_in x v (is ∙ w.if-has.true) in (omega arith, omega arith)
      | else-has w ↦ let same = size_out x v (is ∙ w.if-has.false) in (omega arith, omega arith)
    ]
