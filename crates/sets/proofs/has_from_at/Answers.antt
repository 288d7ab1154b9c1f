-- `sets::has_from_at` meets its contract: the set has a member from v on where the number that its bytes write is not within v.
-- Assumes nothing.
use mathlib.Core.Path.{ap, sym, ◌∙◌}
use mathlib.Core.Bool.{not}
use Prim.Native.Nat.{ℕ}
use native.Mathlib.Omega.{arith}
use Rattle.sets.specs.Sets.{within}
use Rattle.sets.proofs.SetLaws.{from_within_at}
use Rattle.sets.proofs.has_from_at.Goals as goal

pub returns : goal.returns
returns c =
    let args = c.args in
    ap not (c.is_within.ensures ∙ ap (λ (x : ℕ). within x args.v) c.padded_number_at.ensures)
    ∙ sym (from_within_at args.s.now (λ i. omega (arith, c.type_inv.s i)) args.at args.w args.v)
