-- The sweep of the additions. Its invariant is `Kept`, and `Adding`: the last `quiet` moves before `i` do not fire. A turn may take it to a move that `added`
-- names; nothing is claimed of the names but that there are 160. The measure counts the additions that may follow, the names that are left and the
-- moves that are not quiet. Assumes nothing.
use Prim.Native.Nat.{◌<◌}
use native.Mathlib.Omega.{arith}
use mathlib.Core.Path.{subst}
use lib.ListN.{length-set}
use Rattle.level.specs.declared.Turn.{Turn}
use Rattle.level.specs.Inner.Moves.{moves_in}
use Rattle.level.specs.Inner.Sweep.{Next}
use Rattle.level.proofs.TurnLaws.{sweeping_anew, sweeping-quiet, sweeping_ended, fired_less, quiet_less}
use Rattle.level.proofs.SweepLaws.{kept_first, listed_fine, room_left, kept_add, kept_closed}
use Rattle.level.proofs.close.Goals as goal
use Rattle.level.proofs.close.Goals.{Then-fires, then-fires, else-fires}

pub loop-turn-init : goal.loop-turn-init
loop-turn-init c = (
  kept_first (moves_in c.args.sweep.now.moves.now) c.args.sweep.now.subject c.args.out.now c.requires.ready,
  sweeping_anew _ c.requires.added_len (omega arith) (λ h. h),
)

-- A move fires only where there is room for its request.
room : (c : Then-fires) → c.loop-turn.n < 160
room c =
    room_left c.loop-turn.invariant.0 c.requires.sound c.turn_at-turn.ensures.fits c.fires.ensures c.if-fires.true

pub overflow_add-start : goal.overflow_add-start
overflow_add-start c =
    omega (arith, room (goal.at.overflow_add-start c).Then-fires, c.requires.ready.room)

pub note-requires : goal.note-requires
note-requires c =
    let kept = c.loop-turn.invariant.0 in (
      listed_fine c.requires.sound c.turn_at-turn.ensures.fits c.move_at-m.ensures,
      omega (arith, room (goal.at.note-requires c).Then-fires, kept.size, c.requires.ready.room),
    )

pub offset_bounds-added-n : goal.offset_bounds-added-n
offset_bounds-added-n c = omega (arith, room (goal.at.offset_bounds-added-n c).Then-fires)

pub bounds-added-n : goal.bounds-added-n
bounds-added-n c =
    omega (arith, room (goal.at.bounds-added-n c).Then-fires, c.loop-turn.invariant.1.named)

pub overflow_add-n : goal.overflow_add-n
overflow_add-n c = omega (arith, room (goal.at.overflow_add-n c).Then-fires)

pub loop-turn-smaller : goal.loop-turn-smaller
loop-turn-smaller c =
    elim c.if-fires.branch [
      | then-fires w ↦ rw (w.n-is, w.turn-is) (fired_less _ _ _ _
          (omega (arith, room_left c.loop-turn.invariant.0 c.requires.sound c.turn_at-turn.ensures.fits c.fires.ensures w.if-fires.true)))
      | else-fires w ↦ rw (w.n-is, w.turn-is) (quiet_less _ c.turn_at-turn.ensures c.loop-turn-test.true)
    ]

pub loop-turn-preserved : goal.loop-turn-preserved
loop-turn-preserved c =
    let inv = c.loop-turn.invariant in
    elim c.if-fires.branch [
      | then-fires w ↦ rw (w.x-is, w.out-is, w.n-is, w.turn-is, w.added-is) (
        kept_add inv.0 c.requires.sound c.turn_at-turn.ensures.fits c.fires.ensures w.if-fires.true
            w.move_at-m.ensures w.put_whole.ensures w.note.ensures,
        sweeping_anew _ (simp length-set inv.1.named) c.turn_at-turn.ensures.names (λ _. c.next.ensures.fits),
      )
      | else-fires w ↦ rw (w.x-is, w.out-is, w.n-is, w.turn-is, w.added-is) (
        inv.0,
        sweeping-quiet inv.1 c.turn_at-turn.ensures c.fires.ensures w.if-fires.false
            (subst (λ (t : Turn). Next t.i (moves_in c.args.sweep.now.moves.now).count c.next.result) w.turn-is c.next.ensures),
      )
    ]

pub returns : goal.returns
returns c = kept_closed c.loop-turn.invariant.0 c.requires.sound (sweeping_ended c.loop-turn.invariant.1 c.loop-turn-test.false)
