-- `persons::start` meets its contract: the invariant says that the first p persons begin with their starting facts and that nobody else shows anything.
-- Assumes nothing.
use mathlib.Core.Path.{◌≡◌}
use lib.ListN.{length}
use Rattle.persons.proofs.BeginLaws.{BegunSoFar}
use Rattle.persons.proofs.start.Given as goal

abbrev pub invariant-loop-p : goal.invariant-loop-p
invariant-loop-p l = (length l.first ≡ 160) × ((length l.s ≡ 448) × BegunSoFar l.facts l.crews l.table l.p l.all l.held)
