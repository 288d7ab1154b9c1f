-- `search::person_level` meets its contract: the table is the person's, and the level comes to the best plan or is stuck (`person-searched`).
-- Assumes nothing.
use mathlib.Core.Path.{refl, ap, ◌∙◌}
use lib.ListN.{length}
use Rattle.level.specs.declared.Fired.{Fired}
use Rattle.level.specs.declared.Work.{Work}
use mathlib.Core.Bool.{false}
use native.Mathlib.Omega.{arith}
use Rattle.frames.specs.Book.{contents_of}
use Rattle.flags.proofs.FlagLaws.{small_wants, start_flags}
use Rattle.flags.proofs.BadLaws.{bad-all}
use Rattle.search.proofs.StepLaws.{room_up, room_below, room_down, person-searched, starts_built}
use Rattle.search.proofs.person_level.Goals as goal

pub settle_level-requires : goal.settle_level-requires
unfolding contents_of
settle_level-requires c =
    let pre = c.requires in
    let given = pre.person_given in
    let drive = pre.driving in
    let low = given.accepted.book.sized.crews_most in
    let none = c.new-fired.ensures in
    let begun = c.new-work.ensures in
    let e = c.new-parts.ensures in
    record {
      level_given = record {
        wants = rw e.query (small_wants given.accepted.book);
        sound_adds = rw e.sides given.moves.sound_adds;
        sound_dels = rw e.sides given.moves.sound_dels;
        names = record { room_added = ap (λ (f : Fired). length f.added) none; room_deleted = ap (λ (f : Fired). length f.deleted) none };
        rows = c.person_table.ensures.size;
        size_x = ap (λ (w : Work). length w.x) begun;
        room_up = room_up drive.few_up low drive.size_up;
        room_below = room_below drive.few_down low;
        room_down = room_down drive.most_down drive.size_down;
      };
      begun = begun;
    }

pub returns-clause-searched : goal.returns-clause-searched
unfolding contents_of
returns-clause-searched c =
    let given = c.requires.person_given in
    let drive = c.requires.driving in
    let e = c.new-parts.ensures in
    let of_parts = c.settle_level.ensures.settled in
    let level = rw (e.query, e.crews, e.facts, e.sides) at of_parts in
    let lent = c.settle_level.ensures.lent.buffers in
    let bads = bad-all (contents_of c.args.b.now) (small_wants given.accepted.book) c.args.b.now.sizes.crews false (omega arith)
    (λ h. absurd (omega arith)) level.size level.forbidden in
    let begun = starts_built (start_flags (contents_of c.args.b.now) given.same_facts (omega arith) level.started) level.built in
    person-searched (contents_of c.args.b.now) given.accepted c.args.b.now.rules refl given.accepted.book.rules_few given.moves
    drive c.person_table.ensures
    bads begun level.allowed level.result
    (lent.length_up ∙ drive.size_up) (lent.length_down ∙ drive.size_down)
