-- `frames::read_lines` meets its contract. The invariant `Held` says that what is left of the book decides the answer; the
-- measure is what is left of its length. Assumes nothing.
use mathlib.Core.Path.{◌≡◌}
use Prim.Native.Nat.{◌-◌}
use lib.ListN.{length}
use Rattle.frames.proofs.WalkLaws.{Held}
use Rattle.frames.proofs.read_lines.Given as goal

abbrev pub invariant-loop-cursor : goal.invariant-loop-cursor
invariant-loop-cursor l = Held l.paged l.book l.known l.b.query l.b.juniors l.b.facts l.b.rules.rules l.unmarked l.cursor.at l.cursor.line × (length l.frame ≡ 64)

abbrev pub decreases-loop-cursor : goal.decreases-loop-cursor
decreases-loop-cursor l = length l.book - l.cursor.at
