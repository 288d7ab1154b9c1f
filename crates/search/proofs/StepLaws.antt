-- One level's step, for any query over plain values: the same rules serve the query of every person.
use mathlib.Core.Path.{◌≡◌, refl, ap, sym, subst, fun_ext, ◌∙◌}
use mathlib.Core.Logic.{dite}
use mathlib.Core.Bool.{Bool, true, false, not, ◌&&◌, ◌||◌, and-true}
use mathlib.Core.List.{List, [], map, ◌++◌}
use Prim.Native.Nat.{ℕ, ◌+◌, ◌*◌, ◌-◌, ◌≤◌, ◌<◌}
use native.Mathlib.Numerals.{add-one}
use native.Mathlib.Decide.{ℕ_discrete}
use native.Mathlib.Omega.{arith}
use lib.Dec.{eqb}
use lib.ListN.{length, get_or, replicate, get_or-replicate}
use borrow.Author.Tests.{lt-ltb}
use Rattle.sizes.specs.Sizes.{is_person}
use Rattle.inherit.specs.Inheritance.{is_junior, downward, person_holds}
use Rattle.inherit.proofs.InheritanceLaws.{downward_step}
use Rattle.quantifiers.proofs.BelowLaws.{any_same}
use Rattle.frames.specs.declared.Rules.{Rules}
use Rattle.frames.specs.declared.Book.{Book}
use Rattle.frames.specs.Book.{Contents, with_query, contents_of, listed}
use Rattle.theory.specs.Inner.Facts.{State, ◌⊆◌, minus}
use Rattle.theory.specs.Inner.Plan.{Ask, end, add_then_delete, Best}
use Rattle.level.specs.Inner.Moves.{Moves, moves_in}
use Rattle.shown.specs.Inner.Shown.{direct, Whole}
use Rattle.level.specs.Inner.World.{world}
use Rattle.level.specs.Inner.Chosen.{GoodRules, MovesOf}
use Rattle.level.proofs.Levels.{on_level, to_whole, Within}
use Rattle.level.specs.Inner.Notes.{asks}
use Rattle.build.specs.Inner.Build.{Built}
use Rattle.level.specs.Inner.Settle.{Result}
use Rattle.shown.proofs.ShownLaws.{direct_low, direct_in}
use Rattle.level.proofs.ChosenLaws.{moves_sound}
use Rattle.level.proofs.TermLaws.{visible-effective}
use Rattle.reach.specs.Inner.Leveled.{Leveled}
use Rattle.reach.specs.Inner.Tracked.{person_level, lift}
use Rattle.reach.specs.Inner.Goal.{bad}
use Rattle.reach.specs.Inner.Depot.{depot}
use Rattle.flags.specs.Inner.Flags as flags
use Rattle.search.specs.Inner.Drive.{starts, Driving}
use Rattle.search.specs.Inner.Scan.{SideMoves, NoRun, AllAllowed, BlankTable, to_person, Serves, Scanned, Searched}
use Rattle.search.proofs.Tables.{CrewTableRight, PersonTableRight}
use Rattle.search.proofs.TermBridge.{person-effective}
use Rattle.search.proofs.WithinLaws.{within}
use Rattle.search.proofs.SubjectLaws.{crew-level, crew-terms, crew_adds, crew_dels, person_level_lem, person_terms, person_adds, person_dels}
use Rattle.search.proofs.PersonLaws.{to_leveled, start_for, bad_for}
use Rattle.search.proofs.DriveLaws.{Handed, drive_first, crew_table, person_table, rows_next, drive-stuck, drive-next}
use Rattle.search.proofs.DriveLaws.{LevelEnds, settled_ends, drive-best, drive-ends, up_next, down-next}

-- Room for a level's requests in the two buffers.
pub room_up : {ups k n : ℕ} → ups ≤ 160 * k → k ≤ 32 → n ≡ 26400 → 5 * (ups + 160) ≤ n
room_up a b e = omega arith

pub room_below : {at k : ℕ} → 5280 ≤ at + 160 * k → k ≤ 32 → 160 ≤ at
room_below a b = omega arith

pub room_down : {at n : ℕ} → at ≤ 5280 → n ≡ 26400 → 5 * at ≤ n
room_down a e = omega arith

-- Leave to add every fact of a level.
pub all_allowed : AllAllowed (replicate 160 true)
all_allowed = record { size = refl; at = λ f l. get_or-replicate 160 f true false l }

-- What a level may start with it may have.
pub starts-allowed : (s : List Bool) {u : List Bool} → AllAllowed u → direct s ⊆ direct u
starts-allowed s {u} all f e = let h : f < 160 = direct_in s f e in direct_low u f h ∙ all.at f h

-- The flags built from a level's starting facts have the same direct facts.
pub starts_built : {b : Contents} {k : ℕ} {T first s : List Bool} → flags.StartFlags b k first → Built T first s → flags.StartFlags b k s
starts_built {first = first} {s = s} start built = record {
  at = λ f l. sym (direct_low s f l) ∙ ap (λ (S : State). S f) built.same ∙ direct_low first f l ∙ start.at f l;
}

-- The table and the row of a crew, by juniors that are the book's.
pub table_same : {js js' : List ℕ} {k : ℕ} {rows before table : List Bool} → js ≡ js' → flags.CrewTable js k rows before table
    → flags.CrewTable js' k rows before table
table_same {k = k} {rows} {before} {table} e made = subst (λ (js : List ℕ). flags.CrewTable js k rows before table) e made

pub row_same : {js js' : List ℕ} {k : ℕ} {x rows rows' : List Bool} → js ≡ js' → flags.FilledRow js k x rows rows' → flags.FilledRow js' k x rows rows'
row_same {k = k} {x} {rows} {rows'} e filled = subst (λ (js : List ℕ). flags.FilledRow js k x rows rows') e filled

pub side_moves : {rs : Rules} {roles : ℕ} → GoodRules rs → length rs.rules ≡ 512 → {adds dels : List ℕ} {add₁ add₂ del₁ del₂ : ℕ}
    → MovesOf rs add₁ add₂ roles (moves_in adds) rs.count → MovesOf rs del₁ del₂ roles (moves_in dels) rs.count
    → SideMoves rs roles add₁ add₂ del₁ del₂ (moves_in adds) (moves_in dels)
side_moves good room more less =
    record { room = room; more = more; less = less; sound_adds = moves_sound good more; sound_dels = moves_sound good less }

-- The best plan of a query, and flags that are what its person effectively holds at the plan's end.
pub record PersonEnds (b : Contents) (x : List Bool) : Type 0 where
  pub us : List Ask
  pub ds : List Ask
  pub best : Best (depot b) (bad b) (starts b) us ds
  pub shows : (a v : ℕ) → a < 8 → v < 16 → get_or x (160 + (16 * a + v)) false
      ≡ person_holds b.juniors (lift b (end (starts b) (add_then_delete us ds))) b.query.person (record { 0 = a }) v

-- One query's level: settled, or no run ends clear.
pub record Stepped (b : Contents) (k : ℕ) (rows : List Bool) (up down : List ℕ) (found : Bool) (ups at : ℕ) : Type 0 where
  pub settled : found ≡ true → Driving b k rows ups up at down
  pub stuck : found ≡ false → NoRun b

module _ (b : Contents) (ok : Leveled b) (rs : Rules) (same-rules : b.rules ≡ listed rs) (few : rs.count ≤ 512) where
  -- ---------------------------------------------------------------- a crew's level

  module _ (k : ℕ) (is-crew : k < b.sizes.crews) {adds dels : Moves} (mv : SideMoves rs b.query.roles 3 3 4 4 adds dels)
      {rows before table bads s u : List Bool} {ups : ℕ} {up₀ : List ℕ} {at : ℕ} {down₀ : List ℕ}
      (drive : Driving b k rows ups up₀ at down₀) (blank : BlankTable before) (made : flags.CrewTable b.juniors k rows before table)
      (badf : flags.BadFlags b k bads) (start : flags.StartFlags b k s) (all : AllAllowed u) where
    table-right : CrewTableRight b drive.R k table
    table-right = crew_table b ok drive.rows_right is-crew made blank.blank

    inside : Within (depot b) (world table adds dels k) k drive.R
    inside =
        within b ok rs same-rules few mv.room table drive.R
        (crew-level b ok rs same-rules few mv.room k is-crew)
        (crew-terms b ok rs same-rules few mv.room k is-crew table drive.R table-right)
        adds dels
        (crew_adds b ok rs same-rules few mv.room)
        (crew_dels b ok rs same-rules few mv.room)
        mv.more mv.less

    handed : Handed b ok rs same-rules few mv.room k bads s u
    handed = record { bad_at = badf.at; start-at = start.at; all_at = all.at }

    pub crew-stepped : {x rows' : List Bool} {up down : List ℕ} {found : Bool} {n at' : ℕ}
        → Result adds dels k table bads s u x ups up₀ up at down₀ down found n at'
        → flags.FilledRow b.juniors k x rows rows' → length up ≡ 26400 → length down ≡ 26400
        → Stepped b (k + 1) rows' up down found (ups + n) at'
    crew-stepped {x} {rows'} {up} {down} {found} {n} {at'} result filled size_up size_down =
        record {
          settled = λ e.
              let done = result.found e in
              subst (λ (i : ℕ). Driving b i rows' (ups + n) up at' down) (sym (add-one k))
              (drive-next b ok rs same-rules few mv.room drive (omega (arith, is-crew)) inside handed done
              (rows_next b ok drive.rows_right is-crew table-right done.whole filled) size_up size_down);
          stuck = λ e. record {
            never = drive-stuck b ok rs same-rules few mv.room drive (omega (arith, is-crew)) inside handed (result.none e);
          };
        }

-- Before the first level nothing is settled, whoever the person is.
pub serves_first : {b : Contents} → Leveled b → {rows : List Bool} {up down : List ℕ} → flags.FirstRows rows → length up ≡ 26400 → length down ≡ 26400
    → Serves b 0 rows 0 up 5280 down
serves_first {b} ok {rows} {up} {down} first size_up size_down =
    record { each = λ p is. drive_first (to_person b p) (to_leveled b p ok is) rows up down first size_up size_down }

-- Made once with the book's own query, a crew's level serves every person's: table, flags and row are the same for all.
module _ (bk : Book) (ok : Leveled (contents_of bk)) (k : ℕ) (is-crew : k < bk.sizes.crews) {adds dels : Moves}
    (mv : SideMoves bk.rules bk.query.roles 3 3 4 4 adds dels)
    {rows before table bads s u : List Bool} {ups : ℕ} {up₀ : List ℕ} {at : ℕ} {down₀ : List ℕ}
    (serves : Serves (contents_of bk) k rows ups up₀ at down₀) (blank : BlankTable before) (made : flags.CrewTable bk.juniors k rows before table)
    (badf : flags.BadFlags (contents_of bk) k bads) (start : flags.StartFlags (contents_of bk) k s) (all : AllAllowed u)
    {x rows' : List Bool} {up down : List ℕ} {found : Bool} {n at' : ℕ} (result : Result adds dels k table bads s u x ups up₀ up at down₀ down found n at')
    (filled : flags.FilledRow bk.juniors k x rows rows') (size_up : length up ≡ 26400) (size_down : length down ≡ 26400) where
  for_each : (p : ℕ) → is_person (contents_of bk).sizes p ≡ true → Stepped (to_person (contents_of bk) p) (k + 1) rows' up down found (ups + n) at'
  unfolding contents_of to_person with_query
  for_each p is =
      crew-stepped (to_person (contents_of bk) p) (to_leveled (contents_of bk) p ok is) bk.rules refl ok.book.rules_few k is-crew mv
      (serves.each p is) blank made (bad_for (contents_of bk) p k is-crew badf) (start_for (contents_of bk) p k is-crew start) all result filled size_up size_down

  pub crew_scanned : Scanned (contents_of bk) (k + 1) rows' up down found (ups + n) at'
  crew_scanned = record { settled = λ e. record { each = λ p is. (for_each p is).settled e }; stuck = λ e p is. (for_each p is).stuck e }

module _ (b : Contents) (ok : Leveled b) (rs : Rules) (same-rules : b.rules ≡ listed rs) (few : rs.count ≤ 512) where
  -- ---------------------------------------------------------------- the query's person's level

  module _ {adds dels : Moves} (mv : SideMoves rs b.query.roles 1 5 2 6 adds dels)
      {rows table bads s u : List Bool} {ups : ℕ} {up₀ : List ℕ} {at : ℕ} {down₀ : List ℕ}
      (drive : Driving b b.sizes.crews rows ups up₀ at down₀) (made : flags.PersonTable rows table)
      (badf : flags.BadFlags b b.sizes.crews bads) (start : flags.StartFlags b b.sizes.crews s) (all : AllAllowed u) where
    person-right : PersonTableRight b drive.R table
    person-right = person_table b ok drive.rows_right made

    person-inside : Within (depot b) (world table adds dels b.query.person.0) b.sizes.crews drive.R
    person-inside =
        within b ok rs same-rules few mv.room table drive.R
        (person_level_lem b ok rs same-rules few mv.room)
        (person_terms b ok rs same-rules few mv.room table drive.R person-right)
        adds dels
        (person_adds b ok rs same-rules few mv.room)
        (person_dels b ok rs same-rules few mv.room)
        mv.more mv.less

    person-handed : Handed b ok rs same-rules few mv.room b.sizes.crews bads s u
    person-handed = record { bad_at = badf.at; start-at = start.at; all_at = all.at }

    at_last : b.sizes.crews ≤ person_level b
    at_last = omega arith

    pub person-searched : {x : List Bool} {up down : List ℕ} {found : Bool} {n at' : ℕ}
        → Result adds dels b.query.person.0 table bads s u x ups up₀ up at down₀ down found n at'
        → length up ≡ 26400 → length down ≡ 26400 → Searched b up down found (ups + n) at'
    person-searched {x} {up} {down} {found} {n} {at'} result size_up size_down =
        record {
          written = λ e.
              let done = result.found e in
              record {
                us = drive.us ++ map (to_whole b.sizes.crews) (asks up ups n);
                ds = map (to_whole b.sizes.crews) (asks down at' (at - at')) ++ drive.ds;
                best = drive-best b ok rs same-rules few mv.room drive at_last person-inside person-handed (settled_ends done) refl;
                bytes_up = up_next b ok rs same-rules few mv.room drive at_last person-inside person-handed done;
                bytes_down = down-next b ok rs same-rules few mv.room drive at_last person-inside person-handed done;
                few_up = omega (arith, drive.few_up, done.few_up, ok.book.sized.crews_most);
                most_down = omega (arith, drive.most_down, done.down_to);
                size_up = size_up;
                size_down = size_down;
              };
          stuck = λ e. record {
            never = drive-stuck b ok rs same-rules few mv.room drive at_last person-inside person-handed (result.none e);
          };
        }

    -- Where nothing is forbidden the level's end is the best plan's: its flags are what the person effectively holds there.
    pub person-ends : ((g : ℕ) → bad b g ≡ false) → {x : List Bool} {vs es : List Ask} → Whole table x
        → LevelEnds adds dels b.query.person.0 table bads s u x vs es → PersonEnds b x
    person-ends free {x} {vs} {es} whole ends =
        record {
          us = drive.us ++ map (to_whole b.sizes.crews) vs;
          ds = map (to_whole b.sizes.crews) es ++ drive.ds;
          best = drive-best b ok rs same-rules few mv.room drive at_last person-inside person-handed ends refl;
          shows = λ a v l h.
              whole.shows (160 + (16 * a + v)) (omega arith)
              ∙ visible-effective table (direct x) (16 * a + v) (omega arith)
              ∙ person-effective b drive.R (direct x) table person-right (record { 0 = a }) v l h
              ∙ ap (λ (S : State). person_holds b.juniors (lift b S) b.query.person (record { 0 = a }) v) (sym (last-state ∙ same_end));
        }
      where
        last-state : end (starts b) (add_then_delete (drive.us ++ map (to_whole b.sizes.crews) vs) (map (to_whole b.sizes.crews) es ++ drive.ds))
            ≡ minus (on_level b.sizes.crews drive.R (direct x)) (bad b)
        last-state = drive-ends b ok rs same-rules few mv.room drive at_last person-inside person-handed ends refl

        same_end : minus (on_level b.sizes.crews drive.R (direct x)) (bad b) ≡ on_level b.sizes.crews drive.R (direct x)
        same_end = fun_ext λ g. ap (λ (t : Bool). on_level b.sizes.crews drive.R (direct x) g && not t) (free g) ∙ and-true _

-- Where nothing is forbidden for person 0 no crew is stuck: the empty chain ends clear.
pub free_serves : {b : Contents} → Leveled b → ((g : ℕ) → bad (to_person b 0) g ≡ false)
    → {k : ℕ} {rows : List Bool} {up down : List ℕ} {found : Bool} {ups at : ℕ}
    → Scanned b k rows up down found ups at → Serves b k rows ups up at down
free_serves {b} ok free {k} {rows} {up} {down} {found} {ups} {at} s = by-found found refl
  where
    by-found : (t : Bool) → found ≡ t → Serves b k rows ups up at down
    by-found true e = s.settled e
    by-found false e = absurd ((s.stuck e 0 (lt-ltb 0 b.sizes.persons (omega (arith, ok.book.sized.persons_some)))).never [] tt (λ g held. free g))

-- ---------------------------------------------------------------- which crews each crew reaches

-- The rows of the crews below k say which crews they reach.
pub record ReachSoFar (js : List ℕ) (k : ℕ) (rows : List Bool) : Type 0 where
  pub size : length rows ≡ 5120
  pub at : (c d : ℕ) → c < k → d < 32 → get_or rows (160 * c + (128 + d)) false ≡ downward js (λ x. eqb x d) c

pub reach_next : {js : List ℕ} {k : ℕ} {x rows rows' : List Bool} → ReachSoFar js k rows → flags.FilledRow js k x rows rows' → ReachSoFar js (k + 1) rows'
reach_next {js} {k} {x} {rows} {rows'} so_far filled =
    record {
      size = filled.size;
      at = λ c d l h. dite (ℕ_discrete c k)
          (λ (e : c ≡ k).
          rw e (filled.crews d h
          ∙ sym (downward_step js (λ y. eqb y d) k
          ∙ ap (λ (y : Bool). eqb k d || y)
          (any_same (λ j. is_junior js k j && downward js (λ y. eqb y d) j) (λ j. is_junior js k j && get_or rows (160 * j + (128 + d)) false) k
          (λ j m. ap (λ (y : Bool). is_junior js k j && y) (sym (so_far.at j d m h)))))))
          (λ (other : c ≡ k → ⊥). filled.below (160 * c + (128 + d)) (omega arith) ∙ so_far.at c d (omega arith) h);
    }
