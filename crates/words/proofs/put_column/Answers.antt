-- `words::put_column` meets its contract: the invariant says that the first k flags of the person are written, and that all other persons' stand. Assumes
-- nothing.
use native.Mathlib.Omega.{arith}
use Rattle.words.proofs.WordLaws.{member_one, put_more, put_skip, put_all}
use Rattle.words.proofs.put_column.Goals as goal
use Rattle.words.proofs.put_column.Goals.{then-on, else-on}

pub loop-k-preserved : goal.loop-k-preserved
loop-k-preserved c =
    elim c.if-on.branch [
      | then-on w ↦ rw w.held-is
          (put_more (omega arith) c.loop-k.invariant _ (member_one c.args.p c.requires.p_bound.0)
          w.if-on.true w.add.ensures)
      | else-on w ↦ rw w.held-is (put_skip (omega arith) c.loop-k.invariant w.if-on.false)
    ]

pub returns : goal.returns
returns c =
    put_all c.loop-k.invariant (omega (arith, c.loop-k-test.false)) c.requires.p_bound.1.0 c.requires.p_bound.1.1
