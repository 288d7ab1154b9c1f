-- `readings::sizes_bytes` meets its contract: the counts of the attributes before a are written. Assumes nothing.
use Rattle.std.proofs.Common.{◌≡◌, ℕ, ◌<◌, ◌+◌, length, get_or}
use Rattle.sizes.specs.Sizes.{values_of}
use Rattle.readings.proofs.sizes_bytes.Given as goal

abbrev pub invariant-loop-a : goal.invariant-loop-a
invariant-loop-a l = record {
  size : length l.bytes ≡ 12;
  head : (get_or l.bytes 0 0 ≡ 1) × ((get_or l.bytes 1 0 ≡ l.z.persons) × ((get_or l.bytes 2 0 ≡ l.z.crews) × (get_or l.bytes 3 0 ≡ l.z.attrs)));
  written : (k : ℕ) → k < l.a → get_or l.bytes (4 + k) 0 ≡ values_of l.z k;
}
