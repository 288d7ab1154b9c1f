-- Before a set what the sets before it lack is added. Assumes nothing.
use native.Mathlib.Omega.{arith}
use Prim.Native.Nat.{◌<◌}
use Rattle.std.proofs.lemmas.List.{get_or-take}
use Rattle.frames.specs.Book.{no_want}
use Rattle.frames.specs.Inner.Fits.{want_of}
use Rattle.flags.proofs.BadLaws.{banned-none, banned_more}
use Rattle.flags.proofs.add_banned.Goals as goal

pub loop-w-init : goal.loop-w-init
loop-w-init c = banned-none c.args.bad.now c.args.q.now

pub loop-w-preserved : goal.loop-w-preserved
unfolding want_of
loop-w-preserved c =
    let l : c.loop-w.w-index < c.args.q.now.q = omega arith in
    banned_more c.args.q.now c.loop-w.w-index c.loop-w.invariant
    (rw (c.from.ensures, get_or-take c.args.q.now.q c.args.q.now.wants c.loop-w.w-index no_want l) at c.add_want.ensures)
