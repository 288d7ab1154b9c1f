-- std's `array::from_fn`: an array filled by a function that answers by the index alone.
use mathlib.Core.Path.{◌≡◌, subst, ◌∙◌}
use mathlib.Core.List.{List, map}
use Prim.Native.Nat.{ℕ, zero, suc, ◌+◌, ◌<◌}
use native.Mathlib.Omega.{arith}
use lib.ListN.{get_or}
use denote.Param.Members.{Mut, Called}
use Rattle.std.specs.List.{range_with_len}
use Rattle.std.specs.Array.{IsFromFnResultFrom, IsFromFnResult}
use Rattle.std.proofs.lemmas.List.FromFn.{fill_by_all}

module _ {F B : Type 0} (g : Mut F (ℕ × Unit {0}) B) (of : ℕ → B) (f : F) (ys : List B) (n : ℕ)
    (gives : (i : ℕ) (y : B) (q : F) → i < n → Called g f (i, tt) y q → (q ≡ f) × (y ≡ of i)) where
  -- Each of the m places from place i on.
  each : (m i k : ℕ) (d : B) → i + m ≡ n → IsFromFnResultFrom g f ys i m → k < m → get_or ys (i + k) d ≡ of (i + k)
  each zero i k d e c h = absurd (omega arith)
  each (suc m) i zero d e (q, y, at, called, rest) h =
      let same : i + 0 ≡ i = omega arith in rw same (at.1 d ∙ (gives i y q (omega arith) called).1)
  each (suc m) i (suc k) d e (q, y, at, called, rest) h =
      let same : i + suc k ≡ (i + 1) + k = omega arith in
      let told = (gives i y q (omega arith) called).0 in
      rw same (each m (i + 1) k d (omega arith) (subst (λ (x : F). IsFromFnResultFrom g x ys (i + 1) m) told rest) (omega arith))

  pub filled : (d : B) → IsFromFnResult g f ys n → ys ≡ map of (range_with_len 0 n)
  filled d c =
      let at : (k : ℕ) → k < n → get_or ys k d ≡ of k =
      λ k l. let same : 0 + k ≡ k = omega arith in subst (λ (j : ℕ). get_or ys j d ≡ of j) same (each n 0 k d (omega arith) c.each l) in
      fill_by_all of ys n d c.long at
