-- `persons::close` meets its contract: the invariant says that additions lead each person from what the person began with (`Growing`), and that the last
-- `quiet` moves before i fire for nobody. The measure counts the facts that the 64 persons lack, and the moves that are not quiet. Assumes nothing.
use mathlib.Core.Path.{refl, sym}
use Prim.Native.Nat.{◌*◌, ◌-◌, ◌<◌}
use native.Mathlib.Omega.{arith}
use Rattle.level.specs.Inner.Moves.{moves_in}
use Rattle.level.specs.Inner.Sweep.{TurnAt}
use Rattle.level.proofs.MoveLaws.{listed_stands, fact_fits}
use Rattle.level.proofs.TurnLaws.{sweeping_anew, sweeping-quiet, sweeping_ended, turn_stays, fired_less, quiet_less}
use Rattle.persons.proofs.EndLaws.{growing-first, growing-more, growing_ended, nobody_fires, fact_read, all_facts_lem, fewer-left}
use Rattle.persons.proofs.close.Goals as goal
use Rattle.persons.proofs.close.Goals.{After-fires-who, then-who-eq0, else-who-eq0}

-- The sweep looks at a move of the list, whose numbers stand there.
listed : (c : After-fires-who) → c.loop-quiet.i < (moves_in c.args.adds.now).count
listed c = c.loop-quiet.invariant.1.within (omega (arith, c.loop-quiet-test.true))

-- No names are tried: the sweep goes on where it stands.
still : (c : After-fires-who)
    → TurnAt (moves_in c.args.adds.now).count 160 c.loop-quiet.i c.loop-quiet.quiet 160 c.loop-quiet.i
    c.loop-quiet.quiet
still c = turn_stays c.loop-quiet.quiet (listed c) (omega arith) (omega arith)

pub loop-quiet-init : goal.loop-quiet-init
loop-quiet-init c = (
  growing-first (moves_in c.args.adds.now) c.requires.1,
  sweeping_anew _ refl (omega arith) (λ h. h),
)

pub put_whole-requires : goal.put_whole-requires
put_whole-requires c = (
  fact_fits c.args.adds.now (14 * c.loop-quiet.i) (listed_stands c.requires.0 (listed (goal.at.put_whole-requires c).After-fires-who)) c.from-f.ensures,
  (c.requires.1.rows, c.loop-quiet.invariant.0.size),
)

pub loop-quiet-smaller : goal.loop-quiet-smaller
loop-quiet-smaller c =
    let after = (goal.at.loop-quiet-smaller c).After-fires-who in
    elim c.if-who-eq0.branch [
      | then-who-eq0 w ↦
          rw (w.quiet-is, w.held-is) (quiet_less (10240 - all_facts_lem c.loop-quiet.held) (still after) c.loop-quiet-test.true)
      | else-who-eq0 w ↦
          rw (w.quiet-is, w.held-is)
          (fired_less (moves_in c.args.adds.now).count c.loop-quiet.quiet 160 160
          (fewer-left c.requires.0 c.loop-quiet.invariant.0 (listed after) c.fires-who.ensures
          (fact_read c.args.adds.now c.loop-quiet.i w.from-f.ensures) w.put_whole.ensures c.ranges.all.fits w.if-who-eq0.false))
    ]

pub loop-quiet-preserved : goal.loop-quiet-preserved
loop-quiet-preserved c =
    let after = (goal.at.loop-quiet-preserved c).After-fires-who in
    let ms = moves_in c.args.adds.now in
    elim c.if-who-eq0.branch [
      | then-who-eq0 w ↦
          let none = nobody_fires ms c.loop-quiet.i c.fires-who.ensures w.if-who-eq0.true in
          rw (w.quiet-is, w.held-is)
          (c.loop-quiet.invariant.0, sweeping-quiet c.loop-quiet.invariant.1 (still after) (sym none) refl c.next-i.ensures)
      | else-who-eq0 w ↦
          rw (w.quiet-is, w.held-is) (
            growing-more c.requires.0 c.loop-quiet.invariant.0 (listed after) c.fires-who.ensures
                (fact_read c.args.adds.now c.loop-quiet.i w.from-f.ensures) w.put_whole.ensures,
            sweeping_anew _ refl (omega arith) (λ h. c.next-i.ensures.fits),
          )
    ]

pub returns : goal.returns
returns c =
    growing_ended c.requires.0 c.loop-quiet.invariant.0 c.ranges.all.fits (sweeping_ended c.loop-quiet.invariant.1 c.loop-quiet-test.false)
