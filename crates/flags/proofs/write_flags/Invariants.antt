-- Whatever the calls of `flag` tell, before number `v` the first `v` flags are written, and the others are as they were. Assumes nothing.
use mathlib.Core.Path.{◌≡◌}
use mathlib.Core.Bool.{Bool, false}
use Prim.Native.Nat.{ℕ, ◌+◌, ◌<◌}
use lib.ListN.{get_or}
use Rattle.flags.specs.Inner.Flags.{FlagsWritten}
use Rattle.flags.proofs.write_flags.Given as goal

abbrev pub invariant-loop-v : goal.invariant-loop-v
invariant-loop-v g l = (p : ℕ → Bool → Bool) → ((v : ℕ) (was b : Bool) → v < l.n → goal.F-post g l.flag v was b → b ≡ p v was)
    → FlagsWritten l.initial.s l.at (λ v. p v (get_or l.initial.s (l.at + v) false)) l.v l.s
