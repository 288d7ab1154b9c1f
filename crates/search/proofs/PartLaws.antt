-- The levels of the crews, for whichever book has the parts that they are given.
use mathlib.Core.Path.{◌≡◌, refl, ap, sym, subst, ◌∙◌}
use mathlib.Core.Bool.{Bool}
use mathlib.Core.List.{List}
use Prim.Native.Nat.{ℕ, ◌+◌, ◌≤◌, ◌<◌}
use native.Mathlib.Omega.{arith}
use lib.ListN.{length}
use Rattle.frames.specs.declared.Query.{Query}
use Rattle.frames.specs.declared.Book.{Book}
use Rattle.frames.specs.Book.{contents_of}
use Rattle.level.specs.Inner.Moves.{moves_in}
use Rattle.reach.specs.Inner.Leveled.{Leveled}
use Rattle.flags.specs.Inner.Flags as flags
use Rattle.flags.proofs.FlagLaws.{small_wants, start_flags}
use Rattle.flags.proofs.BadLaws.{bad-all, below_same}
use Rattle.search.specs.Inner.Drive.{Driving}
use Rattle.search.specs.Inner.Scan.{SideMoves, BlankTable, Scanned}
use Rattle.search.specs.Inner.Given.{CrewParts, ServesOf, ScannedOf, LevelSettled}
use Rattle.search.proofs.PersonLaws.{serves_own}
use Rattle.search.proofs.StepLaws.{crew_scanned, serves_first, starts_built, table_same, row_same}

module _ {q : Query} {crews : ℕ} {facts juniors adds dels : List ℕ} (g : CrewParts q crews facts juniors adds dels) where
  pub crews_few : crews ≤ 32
  unfolding contents_of
  crews_few = omega (arith, g.same_crews, g.accepted.book.sized.crews_most)

  pub juniors_room : length juniors ≡ 32
  unfolding contents_of
  juniors_room = ap length g.same_juniors ∙ g.accepted.book.edge_room

  pub wants_small : flags.SmallWants q
  unfolding contents_of
  wants_small = subst flags.SmallWants (sym g.same_query) (small_wants g.accepted.book)

  -- What is settled, for the query's own person.
  pub own_drive : {k : ℕ} {rows : List Bool} {ups : ℕ} {up : List ℕ} {at : ℕ} {down : List ℕ}
      → ServesOf q crews facts juniors adds dels k rows ups up at down → Driving (contents_of g.book) k rows ups up at down
  own_drive s = serves_own g.accepted (s.each g)

-- The parts of a book, and what is said of all books that have them, of that one.
module _ (bk : Book) (ok : Leveled (contents_of bk)) {q : Query} {crews : ℕ} {facts juniors adds dels : List ℕ} (same_query : q ≡ bk.query)
    (same_crews : crews ≡ bk.sizes.crews) (same_facts : facts ≡ bk.facts) (same_juniors : juniors ≡ bk.juniors)
    (moves : SideMoves bk.rules bk.query.roles 3 3 4 4 (moves_in adds) (moves_in dels)) where
  pub parts_of : CrewParts q crews facts juniors adds dels
  parts_of = record {
    book = bk;
    accepted = ok;
    same_query = same_query;
    same_crews = same_crews;
    same_facts = same_facts;
    same_juniors = same_juniors;
    moves = moves;
  }

  pub scanned_of : {k : ℕ} {rows : List Bool} {up down : List ℕ} {found : Bool} {ups at : ℕ}
      → ScannedOf q crews facts juniors adds dels k rows up down found ups at
      → Scanned (contents_of bk) k rows up down found ups at
  unfolding parts_of
  scanned_of s = s.each parts_of

-- Before the first level.
pub parts_first : {q : Query} {crews : ℕ} {facts juniors adds dels : List ℕ} {rows : List Bool} {up down : List ℕ} → flags.FirstRows rows
    → length up ≡ 26400 → length down ≡ 26400 → ServesOf q crews facts juniors adds dels 0 rows 0 up 5280 down
parts_first first size_up size_down = record { each = λ g. serves_first g.accepted first size_up size_down }

-- One crew's level more.
module _ {q : Query} {crews : ℕ} {facts juniors adds dels : List ℕ} (k : ℕ) (is-crew : k < crews) {reach rows before table x rows' : List Bool} {ups : ℕ}
    {up₀ : List ℕ} {at : ℕ} {down₀ : List ℕ} {below found : Bool} {n at' : ℕ} {up down : List ℕ}
    (serves : ServesOf q crews facts juniors adds dels k rows ups up₀ at down₀) (blank : BlankTable before)
    (reaching : flags.Reaching juniors reach) (told : below ≡ flags.listed_reach q.crews reach k)
    (made : flags.CrewTable juniors k rows before table)
    (settled : LevelSettled q crews facts k below (moves_in adds) (moves_in dels) k table x ups up₀ up at down₀ down found n at')
    (filled : flags.FilledRow juniors k x rows rows') (size_up : length up ≡ 26400) (size_down : length down ≡ 26400) where
  of_book : (g : CrewParts q crews facts juniors adds dels) → Scanned (contents_of g.book) (k + 1) rows' up down found (ups + n) at'
  unfolding contents_of
  of_book g =
      let low : k < g.book.sizes.crews = omega (arith, g.same_crews) in
      let own : LevelSettled g.book.query g.book.sizes.crews g.book.facts k below (moves_in adds) (moves_in dels) k table x ups up₀ up at down₀
      down found n at' =
      subst (λ (f : List ℕ). LevelSettled g.book.query g.book.sizes.crews f k below (moves_in adds) (moves_in dels) k table x ups up₀ up at down₀
      down found n at') g.same_facts
      (subst (λ (c : ℕ). LevelSettled g.book.query c facts k below (moves_in adds) (moves_in dels) k table x ups up₀ up at down₀ down found n at')
      g.same_crews
      (subst (λ (t : Query). LevelSettled t crews facts k below (moves_in adds) (moves_in dels) k table x ups up₀ up at down₀ down found n at')
      g.same_query settled)) in
      let reaches = subst (λ (js : List ℕ). flags.Reaching js reach) g.same_juniors reaching in
      let is_below = told ∙ ap (λ (t : Query). flags.listed_reach t.crews reach k) g.same_query
      ∙ below_same (contents_of g.book) reach k (omega (arith, low, g.accepted.book.sized.crews_most)) reaches in
      let bads = bad-all (contents_of g.book) (small_wants g.accepted.book) k below (omega (arith, low)) (λ h. is_below) own.size own.forbidden in
      let begun = starts_built (start_flags (contents_of g.book) refl (omega (arith, low)) own.started) own.built in
      crew_scanned g.book g.accepted k low g.moves (serves.each g) blank (table_same g.same_juniors made) bads begun own.allowed
      own.result (row_same g.same_juniors filled) size_up size_down

  pub parts_scanned : ScannedOf q crews facts juniors adds dels (k + 1) rows' up down found (ups + n) at'
  parts_scanned = record { each = of_book }
