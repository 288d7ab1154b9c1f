-- A round: additions closed, forbidden facts left out, deletions closed backwards (`rounded`). Assumes nothing.
use mathlib.Core.Path.{refl}
use Rattle.level.proofs.SettleLaws.{ready, ready_back, rounded}
use Rattle.level.proofs.round.Goals as goal

pub close-ups-requires : goal.close-ups-requires
close-ups-requires c =
    record {
      sound = c.requires.sound_adds;
      ready = ready c.requires.lengths c.requires.whole_s c.copy_from_slice.ensures.after c.requires.allowed;
      added_len = c.requires.names_added;
    }

pub build_rest-requires : goal.build_rest-requires
build_rest-requires c = (c.close-ups.ensures.whole, (c.strip.ensures, c.requires.lengths.size_y))

pub back-at-requires : goal.back-at-requires
back-at-requires c =
    record {
      sound = c.requires.sound_dels;
      ready_back = ready_back c.requires.lengths c.close-ups.ensures.whole c.strip.ensures c.build_rest.ensures;
      deleted_len = c.requires.names_deleted;
    }

pub returns-clause-rounded : goal.returns-clause-rounded
returns-clause-rounded c =
    rounded c.requires.lengths c.copy_from_slice.ensures.after c.close-ups.ensures c.strip.ensures c.back-at.ensures

pub returns-clause-lent : goal.returns-clause-lent
returns-clause-lent c =
    record {
      buffers = record { up = refl; down = refl; length_up = c.close-ups.ensures.size; length_down = c.back-at.ensures.size };
      ends = refl;
    }
