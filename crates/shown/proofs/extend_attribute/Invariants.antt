-- The flags of an attribute, from its highest value downwards: those from `v` on are written, and `on` is the last of them. Assumes nothing.
use Rattle.shown.proofs.HigherLaws.{AttributeFrom}
use Rattle.shown.proofs.extend_attribute.Given as goal

abbrev pub invariant-loop-v : goal.invariant-loop-v
invariant-loop-v l = AttributeFrom l.a l.initial.x l.x l.v l.on
