-- The number of facts that the sizes in a book's first line ask for is small, whatever stands there.
use Prim.Native.Nat.{ℕ, ◌+◌, ◌*◌, ◌≤◌}
use native.Mathlib.Nat.{mul-le-mul_right}
use native.Mathlib.Omega.{arith}

pub values_fit : (c v : ℕ) → c ≤ 4335 → v ≤ 34680 → (1 + c) * v ≤ 150372480
values_fit c v hc hv =
    let most : 1 + c ≤ 4336 = omega arith in
    omega (arith, mul-le-mul_right v most)
