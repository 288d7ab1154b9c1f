-- `search::settle_level` meets its contract: the flags written are those of the query and of the facts, and the rounds come to what `settle` says
-- of them. Assumes nothing.
use mathlib.Core.Path.{refl, ap, sym, subst}
use lib.ListN.{length}
use Rattle.level.specs.declared.Work.{Work}
use Rattle.search.specs.Inner.Scan.{AllAllowed}
use Rattle.search.proofs.StepLaws.{all_allowed, starts-allowed}
use Rattle.search.proofs.settle_level.Goals as goal
use Rattle.search.proofs.settle_level.Goals.{Start}

-- Leave is given to add every fact.
allowed : (c : Start) → AllAllowed c.args.work.now.u
allowed c = subst (λ (w : Work). AllAllowed w.u) (sym c.requires.begun) all_allowed

pub settle-requires : goal.settle-requires
settle-requires c =
    let given = c.requires.level_given in
    let begun = c.requires.begun in
    record {
      sound_adds = given.sound_adds;
      sound_dels = given.sound_dels;
      lengths = record {
        rows = given.rows;
        size_bad = c.bad_flags.ensures.size;
        size_s = c.build.ensures.whole.size;
        size_u = ap (λ (w : Work). length w.u) begun;
        size_x = given.size_x;
        size_y = ap (λ (w : Work). length w.y) begun;
        size_d = ap (λ (w : Work). length w.d) begun;
        room_up = given.room_up;
        below = given.room_below;
        room_down = given.room_down;
      };
      whole_s = c.build.ensures.whole;
      allowed = starts-allowed _ (allowed (goal.at.settle-requires c).Start);
      names_added = given.names.room_added;
      names_deleted = given.names.room_deleted;
    }

pub returns : goal.returns
returns c =
    let names = c.settle.ensures.names in
    record {
      settled = record {
        blank = _;
        bads = _;
        first = _;
        s = _;
        u = _;
        size = refl;
        forbidden = c.bad_flags.ensures;
        started = c.start_flags.ensures;
        built = c.build.ensures;
        allowed = allowed (goal.at.returns c).Start;
        result = c.settle.ensures.result;
      };
      names = record { room_added = names.0; room_deleted = names.1 };
      lent = c.settle.ensures.lent;
    }
