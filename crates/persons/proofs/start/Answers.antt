-- `persons::start` meets its contract: the invariant says that the first p persons begin with their starting facts and that nobody else shows anything.
-- Assumes nothing.
use Prim.Native.Nat.{◌<◌}
use native.Mathlib.Omega.{arith}
use Rattle.persons.proofs.BeginLaws.{begun_first, begun_more}
use borrow.Author.Rules.{rules}
use Rattle.persons.proofs.start.Goals as goal
use Rattle.persons.proofs.start.Goals.{After-build}

-- A person's number is below 64.
few : (c : After-build) → c.loop-p.p < 64
few c = omega (arith, c.loop-p-test.true, c.requires.0)

pub loop-p-init : goal.loop-p-init
loop-p-init c = (search rules, (search rules, begun_first c.args.facts.now c.args.crews c.args.table.now c.requires.1.1))

pub loop-p-preserved : goal.loop-p-preserved
loop-p-preserved c = (
  omega arith,
  (
    omega arith,
    begun_more c.loop-p.invariant.1.1 (few (goal.at.loop-p-preserved c).After-build)
        (record { blank = _; first = _; started = c.start_flags.ensures; built = c.build.ensures })
        c.put_column.ensures,
  ),
)
