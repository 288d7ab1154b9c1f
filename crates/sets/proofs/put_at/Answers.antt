-- `sets::put_at` meets its contract: within the slice the member's byte is written by `with`, and stays a byte; past its end nothing is.
-- Assumes nothing.
use mathlib.Core.Path.{sym}
use Prim.Native.Nat.{◌%◌, ◌<◌}
use native.Mathlib.Omega.{arith}
use lib.ListN.{get_or}
use Rattle.sets.specs.Sets.{put_at}
use Rattle.sets.proofs.SetLaws.{put_lt, put_at_out}
use Rattle.sets.proofs.put_at.Goals as goal

pub overflow_cast-s : goal.overflow_cast-s
overflow_cast-s c =
    let byte : get_or c.args.s.now c.byte_of-i.result 0 < 256 = grind arith in
    let small = put_lt (get_or c.args.s.now c.byte_of-i.result 0) (c.args.v % 8) 8 c.args.on byte (omega arith) in
    omega (arith, rw c.from.ensures at c.with.ensures)

pub returns-then-i-s : goal.returns-then-i-s
unfolding put_at
returns-then-i-s c = rw (c.with.ensures, c.from.ensures, c.byte_of-i.ensures)

pub returns-else-i-s : goal.returns-else-i-s
returns-else-i-s c = sym (put_at_out c.args.s.now c.args.at c.args.w c.args.v c.args.on (omega arith))
