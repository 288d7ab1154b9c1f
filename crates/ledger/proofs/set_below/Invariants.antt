-- `ledger::set_below` meets its contract: whatever test the calls tell, `set` has the numbers below v that pass it. Assumes nothing.
use mathlib.Core.Path.{◌≡◌}
use mathlib.Core.Bool.{Bool}
use Prim.Native.Nat.{ℕ}
use Rattle.ledger.specs.Show.{set_below, Tells}
use Rattle.ledger.proofs.set_below.Given as goal

abbrev pub invariant-loop-v : goal.invariant-loop-v
invariant-loop-v g l = (p : ℕ → Bool) → Tells (λ v. g.F.Fn.post l.passes (v, tt {0})) p l.n → l.set ≡ set_below p l.v
