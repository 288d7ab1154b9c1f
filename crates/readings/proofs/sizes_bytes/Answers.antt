-- `readings::sizes_bytes` meets its contract: the sizes, then the eight counts in order. Assumes nothing.
use Rattle.std.proofs.Common.{◌≡◌, ℕ, zero, suc, ◌<◌, ◌+◌, List, length, get_or, arith}
use Rattle.std.proofs.lemmas.List.FromFn.{fill_by_all}
use Rattle.sizes.specs.declared.Sizes.{Sizes}
use Rattle.sizes.specs.Sizes.{values_of}
use Rattle.answers.specs.Answers.{sizes_bytes}
use Rattle.readings.proofs.sizes_bytes.Goals as goal

module _ (z : Sizes) (bytes : List ℕ)
    (head : (get_or bytes 0 0 ≡ 1) × ((get_or bytes 1 0 ≡ z.persons) × ((get_or bytes 2 0 ≡ z.crews) × (get_or bytes 3 0 ≡ z.attrs))))
    (written : (k : ℕ) → k < 8 → get_or bytes (4 + k) 0 ≡ values_of z k) where
  each : (k : ℕ) → k < 12 → get_or bytes k 0 ≡ get_or (sizes_bytes z) k 0
  each zero h = head.0
  each (suc zero) h = head.1.0
  each (suc (suc zero)) h = head.1.1.0
  each (suc (suc (suc zero))) h = head.1.1.1
  each (suc (suc (suc (suc zero)))) h = written 0 (omega arith)
  each (suc (suc (suc (suc (suc zero))))) h = written 1 (omega arith)
  each (suc (suc (suc (suc (suc (suc zero)))))) h = written 2 (omega arith)
  each (suc (suc (suc (suc (suc (suc (suc zero))))))) h = written 3 (omega arith)
  each (suc (suc (suc (suc (suc (suc (suc (suc zero)))))))) h = written 4 (omega arith)
  each (suc (suc (suc (suc (suc (suc (suc (suc (suc zero))))))))) h = written 5 (omega arith)
  each (suc (suc (suc (suc (suc (suc (suc (suc (suc (suc zero)))))))))) h = written 6 (omega arith)
  each (suc (suc (suc (suc (suc (suc (suc (suc (suc (suc (suc zero))))))))))) h = written 7 (omega arith)
  each (suc (suc (suc (suc (suc (suc (suc (suc (suc (suc (suc (suc k)))))))))))) h = absurd (omega arith)

  whole : length bytes ≡ 12 → bytes ≡ sizes_bytes z
  whole size = fill_by_all (λ k. get_or (sizes_bytes z) k 0) bytes 12 0 size each

pub returns : goal.returns
returns c =
    let inv = c.loop-a.invariant in
    whole c.args.z c.loop-a.bytes inv.head (λ k h. inv.written k (omega arith)) inv.size
