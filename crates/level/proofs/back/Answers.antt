-- The sweep that puts deletions back. Its invariant is `KeptBack`, and `Backing`: the last `quiet` moves before `i` put nothing back. Its turns and its
-- measure are those of `close`; its notes go downwards from `end`. Assumes nothing.
use Prim.Native.Nat.{◌+◌, ◌<◌}
use native.Mathlib.Omega.{arith}
use mathlib.Core.Path.{subst}
use lib.ListN.{length-set}
use Rattle.level.specs.declared.Turn.{Turn}
use Rattle.level.specs.Inner.Moves.{moves_in}
use Rattle.level.specs.Inner.Sweep.{Next}
use Rattle.level.proofs.MoveLaws.{listed_room}
use Rattle.level.proofs.TurnLaws.{sweeping_anew, turn_ready, turn_quiet, sweeping-quiet, sweeping_ended, fired_less, quiet_less}
use Rattle.level.proofs.SweepLaws.{listed_fine}
use Rattle.level.proofs.BackSweepLaws.{back_first, back_left, back_add, back_closed}
use Rattle.level.proofs.back.Goals as goal
use Rattle.level.proofs.back.Goals.{Then-backs, then-backs, else-backs}

pub loop-turn-init : goal.loop-turn-init
loop-turn-init c = (
  back_first (moves_in c.args.sweep.now.moves.now) c.args.sweep.now.subject c.args.out.now c.requires.ready_back,
  sweeping_anew _ c.requires.deleted_len (omega arith) (λ h. h),
)

pub turn_at-turn-requires : goal.turn_at-turn-requires
turn_at-turn-requires c = turn_ready c.loop-turn.invariant.1 c.loop-turn-test.true

pub backs-requires : goal.backs-requires
backs-requires c =
    let whole = c.loop-turn.invariant.0.whole in
    record {
      sound = (c.requires.sound, c.turn_at-turn.ensures.fits);
      x_len = (c.requires.ready_back.length_x, (whole.size, whole.rows));
    }

pub move_at-m-requires : goal.move_at-m-requires
move_at-m-requires c =
    let sound = c.requires.sound in
    (omega (arith, c.turn_at-turn.ensures.fits, sound.few), listed_room sound c.turn_at-turn.ensures.fits)

pub put_whole-requires : goal.put_whole-requires
put_whole-requires c =
    let whole = c.loop-turn.invariant.0.whole in
    ((listed_fine c.requires.sound c.turn_at-turn.ensures.fits c.move_at-m.ensures).fact, whole)

-- A move fires only where there is room for its request.
room : (c : Then-backs) → c.args.end < c.loop-turn.at + 160
room c =
    back_left c.loop-turn.invariant.0 c.requires.sound c.turn_at-turn.ensures.fits c.backs.ensures c.if-backs.true

pub overflow_cast-deleted : goal.overflow_cast-deleted
overflow_cast-deleted c =
    omega (arith, c.turn_at-turn.ensures.fits, c.requires.sound.few)

pub overflow_sub-deleted : goal.overflow_sub-deleted
overflow_sub-deleted c = omega (arith, c.loop-turn.invariant.0.down)

pub offset_bounds-deleted-end : goal.offset_bounds-deleted-end
offset_bounds-deleted-end c = omega (arith, room (goal.at.offset_bounds-deleted-end c).Then-backs)

pub bounds-deleted-end : goal.bounds-deleted-end
bounds-deleted-end c =
    omega (arith, room (goal.at.bounds-deleted-end c).Then-backs, c.loop-turn.invariant.1.named)

pub overflow_sub-at : goal.overflow_sub-at
overflow_sub-at c = omega (arith, room (goal.at.overflow_sub-at c).Then-backs, c.requires.ready_back.below)

pub note-requires : goal.note-requires
note-requires c =
    let kept = c.loop-turn.invariant.0 in (
      listed_fine c.requires.sound c.turn_at-turn.ensures.fits c.move_at-m.ensures,
      omega (arith, room (goal.at.note-requires c).Then-backs, kept.size, kept.down, c.requires.ready_back.below, c.requires.ready_back.room),
    )

pub overflow_add-turn : goal.overflow_add-turn
overflow_add-turn c =
    omega (arith, turn_quiet c.turn_at-turn.ensures c.loop-turn-test.true, c.requires.sound.few)

pub next-requires : goal.next-requires
next-requires c =
    elim c.if-backs.branch [
      | then-backs w ↦ rw w.turn-is c.turn_at-turn.ensures.fits
      | else-backs w ↦ rw w.turn-is c.turn_at-turn.ensures.fits
    ]

pub loop-turn-smaller : goal.loop-turn-smaller
loop-turn-smaller c =
    elim c.if-backs.branch [
      | then-backs w ↦
          let left = back_left c.loop-turn.invariant.0 c.requires.sound c.turn_at-turn.ensures.fits c.backs.ensures w.if-backs.true in
          rw (w.at-is, w.turn-is) (fired_less _ _ _ _ (omega (arith, left, c.requires.ready_back.below)))
      | else-backs w ↦ rw (w.at-is, w.turn-is) (quiet_less _ c.turn_at-turn.ensures c.loop-turn-test.true)
    ]

pub loop-turn-preserved : goal.loop-turn-preserved
loop-turn-preserved c =
    let inv = c.loop-turn.invariant in
    elim c.if-backs.branch [
      | then-backs w ↦ rw (w.y-is, w.out-is, w.at-is, w.turn-is, w.deleted-is) (
        back_add inv.0 c.requires.sound c.requires.ready_back.below c.turn_at-turn.ensures.fits c.backs.ensures w.if-backs.true
            w.move_at-m.ensures w.put_whole.ensures w.note.ensures,
        sweeping_anew _ (simp length-set inv.1.named) c.turn_at-turn.ensures.names (λ _. c.next.ensures.fits),
      )
      | else-backs w ↦ rw (w.y-is, w.out-is, w.at-is, w.turn-is, w.deleted-is) (
        inv.0,
        sweeping-quiet inv.1 c.turn_at-turn.ensures c.backs.ensures w.if-backs.false
            (subst (λ (t : Turn). Next t.i (moves_in c.args.sweep.now.moves.now).count c.next.result) w.turn-is c.next.ensures),
      )
    ]

pub returns : goal.returns
returns c = back_closed c.loop-turn.invariant.0 c.requires.sound (sweeping_ended c.loop-turn.invariant.1 c.loop-turn-test.false)
