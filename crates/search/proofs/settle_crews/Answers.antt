-- `search::settle_crews` meets its contract: nothing is settled at first, for any book of these parts and any person (`parts_first`), and the crews'
-- levels carry it on. Assumes nothing.
use mathlib.Core.Path.{refl, ap}
use lib.ListN.{length}
use Rattle.level.specs.declared.Fired.{Fired}
use Rattle.search.proofs.PartLaws.{juniors_room, parts_first}
use Rattle.search.proofs.settle_crews.Goals as goal

pub fill_reach-requires : goal.fill_reach-requires
fill_reach-requires c = (juniors_room c.requires.crew_parts, refl)

pub crew_levels-requires : goal.crew_levels-requires
crew_levels-requires c =
    let pre = c.requires in
    let reached = c.fill_reach.ensures in
    let none = c.new-fired.ensures in
    record {
      crews_given = record { parts = pre.crew_parts; reach_size = reached.0; reaching = reached.1 };
      names = (record { room_added = ap (λ (f : Fired). length f.added) none; room_deleted = ap (λ (f : Fired). length f.deleted) none }, pre.rows_len.1);
      serves_of = parts_first c.first_rows.ensures pre.up_len.0 pre.up_len.1;
    }
