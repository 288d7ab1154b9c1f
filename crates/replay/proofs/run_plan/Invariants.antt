-- `replay::run_plan` meets its contract: what is left of the requests, on the ledger as it stands, decides the run. Assumes nothing.
use mathlib.Core.Path.{◌≡◌}
use Rattle.std.specs.Iterator.Adapters.{enumerate_source, enumerate_count}
use Rattle.std.specs.Slice.Iter.{chunks_exact_rest, chunks_exact_size}
use Rattle.replay.specs.Inner.Lent.{standing}
use Rattle.replay.proofs.LentLaws.{Left}
use Rattle.replay.proofs.run_plan.Given as goal

abbrev pub invariant-loop-i : goal.invariant-loop-i
invariant-loop-i l =
    (chunks_exact_size (enumerate_source l.i-iterator) ≡ 5)
    × Left (standing l.z l.juniors l.rules) l.roles l.plan l.initial.ledger
    (enumerate_count l.i-iterator) (chunks_exact_rest (enumerate_source l.i-iterator)) l.ledger
