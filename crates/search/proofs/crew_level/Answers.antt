-- `search::crew_level` meets its contract: the table is the crew's, the level comes to a settled set or is stuck, and the crew's row is filled from
-- what was settled; for every book of these parts, and every person of it (`parts_scanned`). Assumes nothing.
use mathlib.Core.Path.{ap, ◌∙◌}
use lib.ListN.{length}
use Rattle.level.specs.declared.Work.{Work}
use Prim.Native.Nat.{◌≤◌}
use native.Mathlib.Omega.{arith}
use Rattle.flags.proofs.FlagLaws.{filled_row}
use Rattle.search.proofs.StepLaws.{room_up, room_below, room_down}
use Rattle.search.proofs.PartLaws.{crews_few, juniors_room, wants_small, own_drive, parts_scanned}
use Rattle.search.proofs.crew_level.Goals as goal

pub do_listed_reach-requires : goal.do_listed_reach-requires
do_listed_reach-requires c =
    let pre = c.requires.crews_given in
    (omega (arith, pre.1, crews_few pre.0.parts), pre.0.reach_size)

pub crew_table-requires : goal.crew_table-requires
crew_table-requires c =
    let pre = c.requires in
    let parts = pre.crews_given.0.parts in (
      omega (arith, pre.crews_given.1, crews_few parts),
      (juniors_room parts, ((own_drive parts pre.serves_of).rows_right.size, pre.names.1.size)),
    )

pub settle_level-r-requires : goal.settle_level-r-requires
settle_level-r-requires c =
    let pre = c.requires in
    let parts = pre.crews_given.0.parts in
    let drive = own_drive parts pre.serves_of in
    let low : c.args.k ≤ 32 = omega (arith, crews_few parts, pre.crews_given.1) in
    let begun = c.new-work.ensures in
    record {
      level_given = record {
        wants = wants_small parts;
        sound_adds = parts.moves.sound_adds;
        sound_dels = parts.moves.sound_dels;
        names = pre.names.0;
        rows = c.crew_table.ensures.size;
        size_x = ap (λ (w : Work). length w.x) begun;
        room_up = room_up drive.few_up low drive.size_up;
        room_below = room_below drive.few_down low;
        room_down = room_down drive.most_down drive.size_down;
      };
      begun = begun;
    }

pub fill_row-requires : goal.fill_row-requires
fill_row-requires c =
    let pre = c.requires in
    let parts = pre.crews_given.0.parts in (
      omega (arith, pre.crews_given.1, crews_few parts),
      (omega arith, (c.crew_table.ensures.size, (own_drive parts pre.serves_of).rows_right.size)),
    )

pub returns : goal.returns
returns c =
    let pre = c.requires in
    let given = pre.crews_given.0 in
    let drive = own_drive given.parts pre.serves_of in
    let made = c.crew_table.ensures in
    let lent = c.settle_level-r.ensures.lent.buffers in
    record {
      scanned =
          parts_scanned c.args.k pre.crews_given.1 pre.serves_of pre.names.1 given.reaching c.do_listed_reach.ensures made
          c.settle_level-r.ensures.settled (filled_row drive.rows_right.size made c.fill_row.ensures)
          (lent.length_up ∙ drive.size_up) (lent.length_down ∙ drive.size_down);
      lent = c.settle_level-r.ensures.lent;
      names = (c.settle_level-r.ensures.names, record { size = made.size; blank = λ j h. made.kept j h ∙ pre.names.1.blank j h });
    }
