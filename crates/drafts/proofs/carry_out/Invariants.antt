-- `drafts::carry_out` meets its contract: the requests that are left, on the ledger as it stands, come to what all do. Assumes nothing.
use mathlib.Core.Path.{◌≡◌}
use mathlib.Core.List.{map}
use Rattle.std.specs.Slice.Iter.{chunks_exact_rest, chunks_exact_size}
use Rattle.level.specs.Inner.Notes.{asks}
use Rattle.reach.specs.Inner.Tracked.{bytes_of}
use Rattle.drafts.proofs.DraftLaws.{Carrying}
use Rattle.drafts.proofs.carry_out.Given as goal

abbrev pub invariant-loop-request : goal.invariant-loop-request
invariant-loop-request l =
    (chunks_exact_size l.request-iterator ≡ 5)
    × Carrying l.initial.ledger (map bytes_of (asks l.draft l.from l.n)) (chunks_exact_rest l.request-iterator) l.ledger
