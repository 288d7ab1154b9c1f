-- `plan::values_asked` is safe: the invariant bounds the sum by 4,335 for each count. Assumes nothing.
use Prim.Native.Nat.{◌*◌, ◌≤◌}
use Rattle.plan.proofs.values_asked.Given as goal

abbrev pub invariant-loop-a : goal.invariant-loop-a
invariant-loop-a l = l.n ≤ 4335 * l.a
