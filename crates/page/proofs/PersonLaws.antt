-- One person's level, above crews that are settled for every person: its flags are what the person effectively holds at the end of the best plan.
-- So the rows that the flags of all persons show are right.
use mathlib.Core.Path.{◌≡◌, refl, ap, sym, subst, ◌∙◌}
use mathlib.Core.Logic.{dite}
use mathlib.Core.Bool.{Bool, true, false}
use mathlib.Core.List.{List}
use Prim.Native.Nat.{ℕ, ◌+◌, ◌*◌, ◌<◌}
use native.Mathlib.Decide.{dec_lt}
use native.Mathlib.Omega.{arith}
use lib.ListN.{replicate, get_or-replicate}
use borrow.Author.Tests.{lt-ltb}
use Rattle.sizes.specs.Sizes.{is_person}
use Rattle.frames.specs.declared.Query.{Query}
use Rattle.frames.specs.declared.Book.{Book}
use Rattle.frames.specs.Book.{Contents, with_query, contents_of}
use Rattle.frames.specs.Limits.{all_plain}
use Rattle.frames.specs.Inner.Fits.{Admitted}
use Rattle.shown.specs.Inner.Shown.{direct}
use Rattle.shown.proofs.ShownLaws.{direct_low, direct_high}
use Rattle.level.specs.Inner.Moves.{Moves}
use Rattle.reach.specs.Inner.Goal.{bad}
use Rattle.reach.specs.Inner.Leveled.{Leveled}
use Rattle.flags.specs.Inner.Flags.{PersonTable, BadFlags}
use Rattle.flags.proofs.FlagLaws.{start_flags}
use Rattle.search.specs.Inner.Drive.{Driving}
use Rattle.search.specs.Inner.Scan.{Scanned}
use Rattle.search.proofs.DriveLaws.{closed_ends}
use Rattle.search.proofs.StepLaws.{PersonEnds, all_allowed, starts_built, person-ends, free_serves}
use Rattle.words.specs.Inner.Words.{column}
use Rattle.persons.specs.Inner.Persons.{Begins, Ends, PersonsEnd}
use Rattle.rows.specs.Inner.Rows.{RowsShown}
use Rattle.page.specs.Inner.Rows.{asked_nothing, roaming, Roams, CrewsSettled, PersonMoves, RowsRight}
use Rattle.page.proofs.PageLaws.{to_roaming, roaming_leveled, roaming_free, flag-set, flag_clear}
use Rattle.page.proofs.RowLaws.{rows_right}

-- A book with such a query in the place of its own.
pub nothing-asked : (b : Contents) {q : Query} → q ≡ asked_nothing 1 b.query.roles 0 → with_query b q ≡ roaming b 0
unfolding roaming
nothing-asked b e = ap (with_query b) e

pub nothing_accepted : (b : Contents) → Admitted b → all_plain b.rules ≡ true → Leveled (roaming b 0)
nothing_accepted b ok no-not = roaming_leveled b 0 ok no-not (lt-ltb 0 b.sizes.persons (omega (arith, ok.sized.persons_some)))

-- With nothing asked the crews' levels are found settled.
pub crews_settled : {b : Contents} → Leveled b → Roams b → {rows : List Bool} {up down : List ℕ} {found : Bool} {ups at : ℕ} {table : List Bool}
    → Scanned b b.sizes.crews rows up down found ups at → PersonTable rows table → CrewsSettled b table
crews_settled {b} ok roams scanned made =
    record {
      rows = _;
      ups = _;
      up = _;
      at = _;
      down = _;
      serves = free_serves ok (λ g. ap (λ (t : Contents). bad t g) (to_roaming b 0 roams) ∙ roaming_free b 0 g) scanned;
      made = made;
    }

-- Flags that are all false forbid nothing.
none-set : (f : ℕ) → direct (replicate 160 false) f ≡ false
none-set f = dite (dec_lt f 160)
    (λ (l : f < 160). direct_low (replicate 160 false) f l ∙ get_or-replicate 160 f false false l)
    (λ (h : f < 160 → ⊥). direct_high (replicate 160 false) f (omega arith))

module _ (bk : Book) (ok : Leveled (contents_of bk)) (roams : Roams (contents_of bk)) {adds : Moves}
    (mv : PersonMoves bk.rules bk.query.roles adds) {table : List Bool} (crews : CrewsSettled (contents_of bk) table)
    (p : ℕ) (is : is_person bk.sizes p ≡ true) where
  -- The book accepted with the person's query.
  accepted_for : Leveled (roaming (contents_of bk) p)
  unfolding contents_of
  accepted_for = roaming_leveled (contents_of bk) p ok.book ok.plain is

  -- The crews' levels serve it.
  served : Driving (roaming (contents_of bk) p) (contents_of bk).sizes.crews crews.rows crews.ups crews.up crews.at crews.down
  unfolding contents_of
  served =
      subst (λ (t : Contents). Driving t (contents_of bk).sizes.crews crews.rows crews.ups crews.up crews.at crews.down)
      (to_roaming (contents_of bk) p roams) (crews.serves.each p is)

  -- Nothing is forbidden.
  no_bad : BadFlags (roaming (contents_of bk) p) bk.sizes.crews (replicate 160 false)
  no_bad =
      record {
        size = refl;
        at = λ f l. get_or-replicate 160 f false false l ∙ sym (roaming_free (contents_of bk) p (160 * bk.sizes.crews + f));
      }

  person_level_ends : {s x : List Bool} → Begins bk.facts bk.sizes.crews p table s → Ends adds table p s x
      → PersonEnds (roaming (contents_of bk) p) x
  unfolding contents_of roaming with_query
  person_level_ends begins ends =
      let begun = starts_built (start_flags (roaming (contents_of bk) p) refl (omega arith) begins.started) begins.built in
      person-ends (roaming (contents_of bk) p) accepted_for bk.rules refl ok.book.rules_few mv.sides served crews.made no_bad begun all_allowed
      (roaming_free (contents_of bk) p) ends.grown.whole (closed_ends mv.dels none-set ends.grown.added ends.closed)

-- The rows that the flags of all persons show.
module _ (bk : Book) (ok : Leveled (contents_of bk)) (roams : Roams (contents_of bk)) {adds : Moves}
    (mv : PersonMoves bk.rules bk.query.roles adds) {table : List Bool} (crews : CrewsSettled (contents_of bk) table) {ws : List ℕ}
    (ended : PersonsEnd adds bk.facts bk.sizes.crews table bk.sizes.persons ws) where
  person_held : (p : ℕ) → p < bk.sizes.persons → PersonEnds (roaming (contents_of bk) p) (column ws p)
  person_held p l = person_level_ends bk ok roams mv crews p (lt-ltb p bk.sizes.persons l) (ended.begins p l) (ended.ends p l)

  person_accepted : (p : ℕ) → p < bk.sizes.persons → Admitted (roaming (contents_of bk) p)
  person_accepted p l = (accepted_for bk ok roams mv crews p (lt-ltb p bk.sizes.persons l)).book

  pub persons_right : {out : List ℕ} → RowsShown bk.sizes ws bk.sizes.persons out → RowsRight (contents_of bk) bk.sizes.persons out
  unfolding contents_of
  persons_right rows =
      rows_right ok.book rows
      (λ p l. flag-set (contents_of bk) p (person_accepted p l) (person_held p l))
      (λ p l. flag_clear (contents_of bk) p (person_accepted p l) (person_held p l))
