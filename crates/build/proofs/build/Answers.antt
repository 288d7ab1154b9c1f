-- Flags built fact by fact: before fact `f` those below it are put in. Assumes nothing.
use native.Mathlib.Omega.{arith}
use Rattle.build.proofs.BuildLaws.{build_put, build_skip, build_all}
use Rattle.build.proofs.build.Goals as goal
use Rattle.build.proofs.build.Goals.{then-holds, else-holds}

pub loop-f-preserved : goal.loop-f-preserved
loop-f-preserved c =
    elim c.if-holds.branch [
      | then-holds w ↦ rw w.x-is (build_put c.loop-f.invariant (omega arith) w.if-holds.true w.put.ensures)
      | else-holds w ↦ rw w.x-is (build_skip c.loop-f.invariant (omega arith) w.if-holds.false)
    ]

pub returns : goal.returns
returns c = build_all c.loop-f.invariant (omega arith) c.extend.ensures
