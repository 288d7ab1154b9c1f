-- `inherit::person_reaches` meets its contract. The loop's invariant: no crew below `d` that the person is directly in passes downwards,
-- and the crews of `seen` were tried.
use Prim.Native.Nat.{ℕ}
use mathlib.Core.Path.{◌≡◌}
use mathlib.Core.Bool.{Bool, false, ◌&&◌}
use mathlib.Core.List.{List}
use Rattle.facts.specs.Facts.{holds}
use Rattle.facts.specs.declared.Person.{Person}
use Rattle.facts.specs.declared.Fact.TheVariants.{Member}
use Rattle.inherit.specs.Inheritance.{downward}
use Rattle.quantifiers.specs.Quantifiers.{any_below}
use Rattle.inherit.specs.Inner.Search.{sought, Tried}
use Rattle.inherit.specs.declared.Sought.{Sought}
use Rattle.inherit.proofs.person_reaches.Given as goal

-- The person is directly in crew d, and d passes downwards.
abbrev pub enters : List ℕ → List ℕ → Person → Sought → ℕ → Bool
enters ledger juniors p w d = holds ledger (Member p (record { 0 = d })) && downward juniors (sought (holds ledger) w) d

abbrev pub invariant-loop-d : goal.invariant-loop-d
invariant-loop-d l = (any_below (enters l.ledger l.juniors l.p l.w) l.d ≡ false) × Tried l.juniors (sought (holds l.ledger) l.w) l.seen
