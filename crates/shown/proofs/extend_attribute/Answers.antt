-- The flags of an attribute, from its highest value downwards: those from `v` on are written, and `on` is the last of them. Assumes nothing.
use mathlib.Core.Path.{refl}
use native.Mathlib.Omega.{arith}
use Rattle.shown.proofs.HigherLaws.{attribute_none, attribute_more, attribute_all}
use Rattle.shown.proofs.extend_attribute.Goals as goal

pub loop-v-init : goal.loop-v-init
loop-v-init c = attribute_none _ _

pub loop-v-preserved : goal.loop-v-preserved
loop-v-preserved c = attribute_more c.loop-v.invariant c.loop-v-test.true c.requires.0 c.requires.1 _ refl

pub returns : goal.returns
returns c = attribute_all c.loop-v.invariant (omega arith)
