-- `lines::fill_digits` meets its contract: the entries before the turn are filled.
use Rattle.std.proofs.Common.{◌≡◌, ℕ, ◌<◌, get_or, length}
use Rattle.lines.specs.Digits.{digit}
use Rattle.lines.proofs.fill_digits.Given as goal

abbrev pub invariant-loop-c : goal.invariant-loop-c
invariant-loop-c l = record { size : length l.table ≡ 256; entry : (k : ℕ) → k < l.c → get_or l.table k 0 ≡ digit k }
