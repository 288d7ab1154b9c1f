-- `search::all_levels` meets its contract: the crews' levels, which serve the query's own person among all, then the person's. Assumes nothing.
use mathlib.Core.Path.{◌≡◌, refl, sym, subst, ◌∙◌}
use mathlib.Core.Bool.{Bool, true≢false, false}
use mathlib.Core.List.{List}
use Prim.Native.Nat.{ℕ}
use native.Mathlib.Omega.{arith}
use lib.ListN.{get_or-replicate}
use Rattle.frames.specs.Book.{Contents, contents_of}
use Rattle.reach.specs.Inner.Leveled.{Leveled}
use Rattle.search.specs.Inner.Scan.{NoRun, Scanned, Searched}
use Rattle.search.proofs.PersonLaws.{to_self, serves_own}
use Rattle.search.proofs.PartLaws.{parts_of, scanned_of}
use Rattle.search.proofs.all_levels.Goals as goal

none_found : {b : Contents} {up down : List ℕ} {found : Bool} {ups at : ℕ} → found ≡ false → NoRun b → Searched b up down found ups at
none_found e never = record { written = λ f. absurd (true≢false (sym f ∙ e)); stuck = λ f. never }

-- Where no run ends clear for any person, none does for the query's own.
own_stuck : {b : Contents} → Leveled b → {k : ℕ} {rows : List Bool} {up down : List ℕ} {found : Bool} {ups at : ℕ} → Scanned b k rows up down found ups at
    → found ≡ false → NoRun b
own_stuck {b} ok s e = subst NoRun (to_self b) (s.stuck e b.query.person.0 ok.book.query_in.person)

pub new-parts-requires : goal.new-parts-requires
unfolding contents_of
new-parts-requires c = (c.requires.leveled.0.book.facts_room, c.requires.leveled.0.book.edge_room)

pub settle_crews-requires : goal.settle_crews-requires
settle_crews-requires c =
    let pre = c.requires in
    let e = c.new-parts.ensures in
    record {
      crew_parts = parts_of c.args.b.now pre.leveled.0 e.query e.crews e.facts e.juniors (rw e.sides pre.leveled.1.0);
      rows_len = (refl, record { size = refl; blank = λ j h. get_or-replicate 5280 j false false (omega arith) });
      up_len = pre.up_len;
    }

pub returns-in_err-r : goal.returns-in_err-r
returns-in_err-r c =
    let e = c.new-parts.ensures in
    let scanned =
    scanned_of c.args.b.now c.requires.leveled.0 e.query e.crews e.facts e.juniors (rw e.sides c.requires.leveled.1.0) c.in_err-r.ensures in
    rw c.from_residual.ensures (none_found refl (own_stuck c.requires.leveled.0 scanned refl))

pub person_level-requires : goal.person_level-requires
person_level-requires c =
    let pre = c.requires in
    let e = c.new-parts.ensures in
    let scanned =
    scanned_of c.args.b.now pre.leveled.0 e.query e.crews e.facts e.juniors (rw e.sides pre.leveled.1.0) c.in_ok-r.ensures in
    let serves = scanned.settled refl in
    record {
      person_given = record {
        accepted = pre.leveled.0;
        moves = pre.leveled.1.1;
        rows = omega arith;
        same_facts = refl;
      };
      driving = serves_own pre.leveled.0 (rw e.crews at serves);
    }
