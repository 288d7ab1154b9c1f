-- `bixorgun::code_of` meets its contract. Assumes nothing.
use mathlib.Core.Path.{refl}
use Rattle.bixorgun.specs.Codes.{code}
use Rattle.bixorgun.proofs.code_of.Goals as goal

pub returns : goal.returns
unfolding code
returns c = rw (c.from.ensures, c.from-2.ensures) refl
