-- The numbers of the move are written in their place. Assumes nothing.
use native.Mathlib.Omega.{arith}
use Rattle.level.proofs.MoveLaws.{put_made}
use Rattle.level.proofs.put_move.Goals as goal

pub returns : goal.returns
returns c =
    rw c.copy_from_slice.ensures.after
    (put_made c.args.ms.now c.args.k _ (omega arith) (omega (arith, c.requires.1.0, c.requires.1.1)) c.numbers_of.ensures)
