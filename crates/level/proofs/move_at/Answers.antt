-- The 14 numbers of move `i`. Assumes nothing.
use mathlib.Core.Path.{refl, ◌∙◌}
use Prim.Native.Nat.{◌*◌}
use native.Mathlib.Omega.{arith}
use Rattle.level.specs.Inner.Moves.{move_from, move_at}
use Rattle.level.proofs.MoveLaws.{terms_read}
use Rattle.level.proofs.move_at.Goals as goal

pub returns : goal.returns
unfolding move_at move_from
returns c =
    rw (c.from.ensures, c.from-2.ensures, c.copy_from_slice.ensures.after ∙ terms_read c.args.ms.now (14 * c.args.i) _ (omega arith) (omega (arith, c.requires.1))) refl
