-- From level to level: the first, a crew's, and the query's person's.
use mathlib.Core.Path.{◌≡◌, refl, ap, sym, fun_ext, ◌∙◌}
use mathlib.Core.Logic.{⊎_elim, dite}
use mathlib.Core.Bool.{Bool, true, false, not, ◌&&◌, ◌||◌, and-true, or-false, true≢false}
use mathlib.Core.List.{List, [], ◌∷◌, ◌++◌, map}
use Prim.Native.Nat.{ℕ, zero, suc, ◌+◌, ◌-◌, ◌*◌, ◌/◌, ◌%◌, ◌≤◌, ◌<◌}
use native.Mathlib.Decide.{ℕ_discrete, dec_lt}
use native.Mathlib.Omega.{arith}
use lib.Dec.{eqb, leb}
use lib.ListN.{length, get_or}
use borrow.Author.Tests.{le-ltb, le-leb, lt-leb, eq-eqb, ne_eqb, eqb-true}
use Rattle.facts.specs.declared.Attr.{Attr}
use Rattle.facts.specs.declared.Fact.TheVariants.{CrewHolds}
use Rattle.inherit.specs.Inheritance.{is_junior, downward, crew_holds}
use Rattle.quantifiers.specs.Quantifiers.{any_below}
use Rattle.inherit.proofs.InheritanceLaws.{junior_member, downward_step, crew_holds_cases}
use Rattle.quantifiers.proofs.BelowLaws.{any_same, any_cases}
use Rattle.quantifiers.proofs.BoolLaws.{and_both, not_on}
use Rattle.frames.specs.declared.Rules.{Rules}
use Rattle.frames.specs.Book.{Contents, listed}
use Rattle.quantifiers.proofs.ListLaws.{map-append}
use Rattle.theory.specs.Inner.Facts.{State, ◌⊆◌, minus, Clear}
use Rattle.theory.specs.Inner.Plan.{Ask, Req, Runs, end, add_then_delete, Brings, AddClosed, Best}
use Rattle.theory.specs.Inner.Sweep.{Added}
use Rattle.theory.proofs.PlanLaws.{bounds-first}
use Rattle.theory.proofs.TierLaws.{brings_map}
use Rattle.level.specs.Inner.Moves.{Moves}
use Rattle.shown.specs.Inner.Shown.{row, direct, Whole}
use Rattle.level.specs.Inner.Terms.{effective}
use Rattle.level.specs.Inner.World.{world}
use Rattle.level.proofs.Levels.{on_level, to_whole, Within}
use Rattle.level.specs.Inner.Notes.{ask_at, asks}
use Rattle.level.specs.Inner.Settle.{Rounds, Settled, Stuck, again, none_yet}
use Rattle.level.specs.Inner.Upto.{Upto}
use Rattle.shown.proofs.ShownLaws.{direct_low, direct_in}
use Rattle.level.proofs.TermLaws.{visible-effective}
use Rattle.level.proofs.NoteLaws.{asks_same}
use Rattle.level.proofs.LevelLaws.{on_level_in, on_level_out, stuck-none}
use Rattle.level.proofs.UptoLaws.{upto_first, upto_next, upto_ends, upto_best}
use Rattle.reach.specs.Inner.Leveled.{Leveled}
use Rattle.reach.specs.Inner.Tracked.{person_level, tracked, number_of, lift, track, is_number, bytes_of, May}
use Rattle.reach.specs.Inner.Goal.{bad}
use Rattle.reach.proofs.TrackLaws.{tracked_crew, level_low}
use Rattle.reach.specs.Inner.Depot.{depot, level_of}
use Rattle.reach.proofs.DepotLaws.{depot_lawful, depot_local}
use Rattle.flags.specs.Inner.Flags as flags
use Rattle.search.proofs.Tables.{CrewTableRight, PersonTableRight}
use Rattle.search.specs.Inner.Drive.{starts, Rows, Driving}
use Rattle.search.proofs.TermBridge.{crew-effective, lower_holds}

-- ---------------------------------------------------------------- what a level comes to

-- The additions `vs` lead from `s` to `x`, the deletions `es` from `x` to what of it is not forbidden, and `x` bounds the level.
pub record LevelEnds (adds dels : Moves) (p : ℕ) (T bads s u x : List Bool) (vs es : List Ask) : Type 0 where
  pub grown : direct s ⊆ direct x
  pub rounds : Rounds (world T adds dels p) (direct bads) (direct s) (direct u) (direct x)
  pub additions : Brings (world T adds dels p) true (direct s) vs (direct x)
  pub deletions : Brings (world T adds dels p) false (direct x) es (minus (direct x) (direct bads))

-- A level that is settled in two buffers ends so, by the requests in them.
pub settled_ends : {adds dels : Moves} {p : ℕ} {T bads s u x : List Bool} {first : ℕ} {up₁ up : List ℕ} {n last : ℕ} {down₁ down : List ℕ} {at' : ℕ}
    → Settled adds dels p T bads s u x first up₁ up n last down₁ down at'
    → LevelEnds adds dels p T bads s u x (asks up first n) (asks down at' (last - at'))
settled_ends settled =
    record { grown = settled.grown; rounds = settled.rounds; additions = settled.additions; deletions = settled.deletions }

-- Where nothing is forbidden, additions alone end a level, once none of them is left.
pub closed_ends : {adds : Moves} (dels : Moves) {p : ℕ} {T bads s u x : List Bool} {us : List Ask} → ((f : ℕ) → direct bads f ≡ false)
    → Added (world T adds adds p) (direct s) (direct u) (direct x) us → AddClosed (world T adds adds p) (direct u) (direct x)
    → LevelEnds adds dels p T bads s u x us []
closed_ends {adds} dels {p} {T} {bads} {x = x} {us = us} free added closed =
    record {
      grown = added.from;
      rounds = again none_yet added.from (record { add = closed.add }) (record { good = λ f h i. h; back = λ q h i. h });
      additions = brings_map (world T adds adds p) (world T adds dels p) (λ S a m. m) us added.brings;
      deletions = record { runs = tt; ends = fun_ext λ f. sym (ap (λ (t : Bool). direct x f && not t) (free f) ∙ and-true (direct x f)) };
    }

-- ---------------------------------------------------------------- numbers that are no crew's

module _ (b : Contents) (ok : Leveled b) where
  no_juniors : (c j : ℕ) → b.sizes.crews ≤ c → is_junior b.juniors c j ≡ false
  no_juniors c j far = not_on (is_junior b.juniors c j) (λ e. omega (arith, (ok.book.edges c j (sym (junior_member b.juniors c j) ∙ e)).1))

  crew_none : (S : State) (a : Attr) (v c : ℕ) → b.sizes.crews ≤ c → crew_holds b.juniors (lift b S) a v c ≡ false
  unfolding lift
  crew_none S a v c far =
      not_on (crew_holds b.juniors (λ f. tracked b f && S (number_of b f)) a v c)
      (λ e. ⊎_elim
      (λ d.
      let own = CrewHolds (record { 0 = c }) a v in
      let t = tracked_crew b (record { 0 = c }) a v (and_both (tracked b own) (S (number_of b own)) d).0 in
      omega (arith, t.0))
      (λ w. true≢false (sym w.1.0 ∙ no_juniors c w.0 far))
      (crew_holds_cases b.juniors (λ f. tracked b f && S (number_of b f)) a v c e))

  reach_none : (d c : ℕ) → b.sizes.crews ≤ c → downward b.juniors (λ x. eqb x d) c ≡ eqb c d
  reach_none d c far =
      downward_step b.juniors (λ x. eqb x d) c
      ∙ ap (λ (x : Bool). eqb c d || x)
      (not_on (any_below (λ j. is_junior b.juniors c j && downward b.juniors (λ x. eqb x d) j) c)
      (λ e. let w = any_cases (λ j. is_junior b.juniors c j && downward b.juniors (λ x. eqb x d) j) c e in
      true≢false (sym (and_both (is_junior b.juniors c w.0) (downward b.juniors (λ x. eqb x d) w.0) w.1.1).0 ∙ no_juniors c w.0 far)))
      ∙ or-false (eqb c d)

  -- ---------------------------------------------------------------- the first level

  starts_low : (g : ℕ) → starts b g ≡ true → leb (g / 160) (person_level b) ≡ true
  unfolding track is_number
  starts_low g e =
      dite (dec_lt (g / 160) (person_level b))
      (λ (h : g / 160 < person_level b). le-leb (g / 160) (person_level b) (omega arith))
      (λ (h : g / 160 < person_level b → ⊥).
      let n = (and_both (is_number b g) _ e).0 in
      le-leb (g / 160) (person_level b) (omega (arith, eqb-true (g / 160) (person_level b) (rw (le-ltb (g / 160) (person_level b) (omega arith)) at n))))

  all_facts : State
  all_facts g = leb (g / 160) (person_level b)

  pub drive_first : (rows : List Bool) (up down : List ℕ) → flags.FirstRows rows → length up ≡ 26400 → length down ≡ 26400 → Driving b 0 rows 0 up 5280 down
  unfolding all_facts asks
  drive_first rows up down first size_up size_down =
      record {
        R = all_facts;
        us = [];
        ds = [];
        upto = upto_first (depot_lawful b ok.plain) (depot_local b) (λ g. refl) (bad b) (starts b)
            (bounds-first (depot b) (bad b) (starts b) all_facts within_all permitted-all) within_all;
        full = λ g low high. le-leb (g / 160) (person_level b) high;
        none = λ g high. lt-leb (g / 160) (person_level b) high;
        rows_right = record {
          size = first.size;
          values = λ c f l low h.
              first.at c l f (omega arith) ∙ ne_eqb f (128 + c) (omega arith) ∙ sym (crew_none all_facts (record { 0 = f / 16 }) (f % 16) c (far c low));
          crews = λ c d l low h. first.at c l (128 + d) (omega arith) ∙ shifted d c ∙ sym (reach_none d c (far c low));
        };
        bytes_up = refl;
        bytes_down = refl;
        few_up = omega arith;
        size_up = size_up;
        few_down = omega arith;
        most_down = omega arith;
        size_down = size_down;
      }
    where
      far : (c : ℕ) → (c < b.sizes.crews → c < 0) → b.sizes.crews ≤ c
      far c low = dite (dec_lt c b.sizes.crews) (λ (h : c < b.sizes.crews). absurd (omega (arith, low h))) (λ (h : c < b.sizes.crews → ⊥). omega arith)

      shifted : (d c : ℕ) → eqb (128 + d) (128 + c) ≡ eqb c d
      shifted d c = dite (ℕ_discrete c d) (λ (e : c ≡ d). rw e (eq-eqb (128 + d) (128 + d) refl ∙ sym (eq-eqb d d refl)))
          (λ (e : c ≡ d → ⊥). ne_eqb (128 + d) (128 + c) (λ q. e (omega arith)) ∙ sym (ne_eqb c d e))

      within_all : starts b ⊆ all_facts
      within_all g e = starts_low g e

      permitted-all : (S : State) (q : Ask) → May b S true q → all_facts q.fact ≡ true
      permitted-all S q may = le-leb (q.fact / 160) (person_level b) (rw may.number at (level_low b _ may.of_fact))

  -- ---------------------------------------------------------------- tables from rows

  -- The table of crew k out of the rows below it.
  pub crew_table : {R : State} {k : ℕ} {rows before table : List Bool} → Rows b R k rows → k < b.sizes.crews
      → flags.CrewTable b.juniors k rows before table
      → ((j : ℕ) → j < 5120 → get_or before j false ≡ false) → CrewTableRight b R k table
  unfolding row
  crew_table {R} {k} {rows} right is-crew made blank =
      record {
        rows = λ c f l h. made.kept (160 * c + f) (omega arith) ∙ blank (160 * c + f) (omega arith);
        own = λ f h. made.last f (omega arith)
            ∙ any_same (λ j. is_junior b.juniors k j && get_or rows (160 * j + f) false)
            (λ j. is_junior b.juniors k j && crew_holds b.juniors (lift b R) (record { 0 = f / 16 }) (f % 16) j) k
            (λ j l. ap (λ (x : Bool). is_junior b.juniors k j && x) (right.values j f (omega (arith, ok.book.sized.crews_most)) (λ i. l) h));
      }

  -- The table of the query's person out of all rows.
  pub person_table : {R : State} {rows table : List Bool} → Rows b R (person_level b) rows → flags.PersonTable rows table → PersonTableRight b R table
  unfolding row
  person_table {R} right made =
      record {
        values = λ c f l h. made.same (160 * c + f) (omega arith) ∙ right.values c f l (λ i. i) h;
        crews = λ c d l h. made.same (160 * c + (128 + d)) (omega arith) ∙ right.crews c d l (λ i. i) h;
        own = λ f h. made.last (160 * 32 + f) (omega arith);
      }

  -- The rows after crew k, with its row filled from its flags.
  pub rows_next : {R : State} {k : ℕ} {rows table x rows' : List Bool} → Rows b R k rows → k < b.sizes.crews → CrewTableRight b R k table → Whole table x
      → flags.FilledRow b.juniors k x rows rows' → Rows b (on_level k R (direct x)) (suc k) rows'
  rows_next {R} {k} {rows} {table} {x} {rows'} right is-crew tab whole filled =
      record { size = filled.size; values = values; crews = crews }
    where
      stays : (c f : ℕ) → (c ≡ k → ⊥) → f < 160 → get_or rows' (160 * c + f) false ≡ get_or rows (160 * c + f) false
      stays c f other h =
          dite (dec_lt c k) (λ (l : c < k). filled.below (160 * c + f) (omega arith)) (λ (l : c < k → ⊥). filled.above (160 * c + f) (omega arith))

      flag : (f : ℕ) → f < 128 → get_or x (160 + f) false ≡ crew_holds b.juniors (lift b (on_level k R (direct x))) (record { 0 = f / 16 }) (f % 16) k
      flag f h =
          let e : 16 * (f / 16) + f % 16 ≡ f = omega arith in
          whole.shows (160 + f) (omega arith) ∙ visible-effective table (direct x) f (omega arith) ∙ ap (effective table (direct x)) (sym e)
          ∙ crew-effective b R (direct x) k table tab is-crew (record { 0 = f / 16 }) (f % 16) (omega arith) (omega arith)

      values : (c f : ℕ) → c < 32 → (c < b.sizes.crews → c < suc k) → f < 128
          → get_or rows' (160 * c + f) false ≡ crew_holds b.juniors (lift b (on_level k R (direct x))) (record { 0 = f / 16 }) (f % 16) c
      values c f l low h =
          dite (ℕ_discrete c k)
          (λ (e : c ≡ k). rw e (filled.values f h ∙ flag f h))
          (λ (other : c ≡ k → ⊥).
          dite (dec_lt c b.sizes.crews)
          (λ (i : c < b.sizes.crews).
          let below : c < k = omega (arith, low i) in
          stays c f other (omega arith) ∙ right.values c f l (λ j. below) h
          ∙ sym (lower_holds b R (direct x) k c (record { 0 = f / 16 }) (f % 16) (λ y p q. omega arith)))
          (λ (i : c < b.sizes.crews → ⊥).
          stays c f other (omega arith) ∙ right.values c f l (λ j. absurd (i j)) h
          ∙ crew_none R (record { 0 = f / 16 }) (f % 16) c (omega arith)
          ∙ sym (crew_none (on_level k R (direct x)) (record { 0 = f / 16 }) (f % 16) c (omega arith))))

      crews : (c d : ℕ) → c < 32 → (c < b.sizes.crews → c < suc k) → d < 32 → get_or rows' (160 * c + (128 + d)) false ≡ downward b.juniors (λ y. eqb y d) c
      crews c d l low h =
          dite (ℕ_discrete c k)
          (λ (e : c ≡ k).
          rw e (filled.crews d h
          ∙ sym (downward_step b.juniors (λ y. eqb y d) k
          ∙ ap (λ (y : Bool). eqb k d || y)
          (any_same (λ j. is_junior b.juniors k j && downward b.juniors (λ y. eqb y d) j)
          (λ j. is_junior b.juniors k j && get_or rows (160 * j + (128 + d)) false) k
          (λ j m. ap (λ (y : Bool). is_junior b.juniors k j && y) (sym (right.crews j d (omega (arith, ok.book.sized.crews_most)) (λ i. m) h)))))))
          (λ (other : c ≡ k → ⊥).
          stays c (128 + d) other (omega arith)
          ∙ right.crews c d l (λ i. omega (arith, low i)) h)

  -- ---------------------------------------------------------------- the requests written

  bytes_whole : (k : ℕ) (qs : List Ask) → map bytes_of (map (to_whole k) qs) ≡ map bytes_of qs
  bytes_whole k [] = refl
  bytes_whole k (q ∷ qs) = ap (λ (xs : List (List ℕ)). bytes_of q ∷ xs) (bytes_whole k qs)

  asks_append : (out : List ℕ) (k m n : ℕ) → asks out k (m + n) ≡ asks out k m ++ asks out (k + m) n
  unfolding asks
  asks_append out k zero n = let z : 0 + n ≡ n = omega arith in let e : k + 0 ≡ k = omega arith in rw (z, e) refl
  asks_append out k (suc m) n =
      let z : suc m + n ≡ suc (m + n) = omega arith in
      let e : k + suc m ≡ suc k + m = omega arith in
      rw (z, e) (ap (λ (xs : List Ask). ask_at out k ∷ xs) (asks_append out (suc k) m n))

  -- ---------------------------------------------------------------- one level more

  module _ (rs : Rules) (same-rules : b.rules ≡ listed rs) (few : rs.count ≤ 512) (room : length rs.rules ≡ 512) where
    -- What a level is handed: its starting facts, its forbidden facts, and leave to add everything.
    pub record Handed (k : ℕ) (bads s u : List Bool) : Type 0 where
      pub bad_at : (f : ℕ) → f < 160 → get_or bads f false ≡ bad b (160 * k + f)
      pub start-at : (f : ℕ) → f < 160 → get_or s f false ≡ starts b (160 * k + f)
      pub all_at : (f : ℕ) → f < 160 → get_or u f false ≡ true

    module _ {k : ℕ} {rows : List Bool} {ups : ℕ} {up₀ : List ℕ} {at : ℕ} {down₀ : List ℕ} (drive : Driving b k rows ups up₀ at down₀) (low : k ≤ person_level b)
        {T : List Bool} {adds dels : Moves} {p : ℕ} (w : Within (depot b) (world T adds dels p) k drive.R) {bads s u : List Bool}
        (handed : Handed k bads s u) where
      same-bad : (f : ℕ) → f < 160 → direct bads f ≡ bad b (160 * k + f)
      same-bad f h = direct_low bads f h ∙ handed.bad_at f h

      same_s : (f : ℕ) → f < 160 → direct s f ≡ starts b (160 * k + f)
      same_s f h = direct_low s f h ∙ handed.start-at f h

      same-u : (f : ℕ) → f < 160 → direct u f ≡ drive.R (160 * k + f)
      same-u f h = direct_low u f h ∙ handed.all_at f h ∙ sym (drive.full (160 * k + f) (omega arith) (omega arith))

      whole-u : on_level k drive.R (direct u) ≡ drive.R
      whole-u = fun_ext λ g. dite (ℕ_discrete (g / 160) k)
          (λ (e : g / 160 ≡ k). on_level_in k drive.R (direct u) g e ∙ same-u (g % 160) (omega arith) ∙ ap drive.R (omega arith))
          (λ (e : g / 160 ≡ k → ⊥). on_level_out k drive.R (direct u) g e)

      -- A level that is stuck: no chain ends clear.
      pub drive-stuck : Stuck adds dels p T bads s u → (rs : List Req) → Runs (depot b).May (starts b) rs → Clear (bad b) (end (starts b) rs) → ⊥
      drive-stuck stuck =
          let f = stuck.fact in
          let h : f < 160 = direct_in s f stuck.held in
          stuck-none w (depot_lawful b ok.plain) (bad b) (direct bads) same-bad (starts b) (direct s) (λ g e. same_s (g % 160) (omega arith) ∙ e)
          (λ g e i. drive.upto.starts g i)
          f h (sym (same_s f h) ∙ stuck.held) stuck.missing stuck.rounds (rw whole-u drive.upto.bounds)

      -- The level with its requests, wherever they are written.
      module _ {x : List Bool} {vs es : List Ask} (ends : LevelEnds adds dels p T bads s u x vs es) where
        next-upto : Upto (depot b) level_of (bad b) (starts b) (suc k) (on_level k drive.R (direct x))
            (drive.us ++ map (to_whole k) vs) (map (to_whole k) es ++ drive.ds)
        next-upto =
            upto_next (depot_lawful b ok.plain) (depot_local b) (λ g. refl) (bad b) (starts b) drive.upto (world T adds dels p) w
            (direct s) (direct u) (direct x) vs es (direct bads)
            same-bad same_s same-u ends.rounds ends.additions ends.deletions ends.grown

        none-behind : k ≡ person_level b → (g : ℕ) → suc k ≤ level_of g → on_level k drive.R (direct x) g ≡ false
        none-behind is g h = on_level_out k drive.R (direct x) g (omega arith) ∙ drive.none g (omega arith)

        -- After the last level there is the best plan; it ends with what is settled, but for the forbidden facts.
        pub drive-best : k ≡ person_level b → Best (depot b) (bad b) (starts b) (drive.us ++ map (to_whole k) vs) (map (to_whole k) es ++ drive.ds)
        drive-best is = upto_best (depot_lawful b ok.plain) (depot_local b) (λ g. refl) (bad b) (starts b) {n = suc k} (none-behind is) next-upto

        pub drive-ends : k ≡ person_level b → end (starts b) (add_then_delete (drive.us ++ map (to_whole k) vs) (map (to_whole k) es ++ drive.ds))
            ≡ minus (on_level k drive.R (direct x)) (bad b)
        drive-ends is = upto_ends (depot_lawful b ok.plain) (depot_local b) (λ g. refl) (bad b) (starts b) {n = suc k} (none-behind is) next-upto

      -- The level settled in the buffers of the levels below it, behind their requests.
      module _ {x : List Bool} {up down : List ℕ} {n at' : ℕ} (settled : Settled adds dels p T bads s u x ups up₀ up n at down₀ down at') where
        -- The requests of this level.
        abbrev up-here : List Ask
        up-here = asks up ups n

        abbrev down-here : List Ask
        down-here = asks down at' (at - at')

        pub up_next : map bytes_of (drive.us ++ map (to_whole k) (asks up ups n)) ≡ map bytes_of (asks up 0 (ups + n))
        up_next =
            map-append bytes_of drive.us (map (to_whole k) up-here)
            ∙ rw (bytes_whole k up-here, drive.bytes_up, asks_same up₀ up 0 ups (λ j l h. sym (settled.stands_up j (omega arith))))
            (sym (ap (map bytes_of) (asks_append up 0 ups n)
            ∙ map-append bytes_of (asks up 0 ups) (asks up (0 + ups) n)
            ∙ ap (λ (i : ℕ). map bytes_of (asks up 0 ups) ++ map bytes_of (asks up i n)) (omega arith)))

        pub down-next : map bytes_of (map (to_whole k) (asks down at' (at - at')) ++ drive.ds) ≡ map bytes_of (asks down at' (5280 - at'))
        down-next =
            let e : at - at' + (5280 - at) ≡ 5280 - at' = omega (arith, settled.down_to, drive.most_down) in
            let f : at' + (at - at') ≡ at = omega (arith, settled.down_to) in
            map-append bytes_of (map (to_whole k) down-here) drive.ds
            ∙ rw (bytes_whole k down-here, drive.bytes_down, asks_same down₀ down at (5280 - at) (λ j l h. sym (settled.stands_down j l)))
            (sym (ap (λ (i : ℕ). map bytes_of (asks down at' i)) (sym e)
            ∙ ap (map bytes_of) (asks_append down at' (at - at') (5280 - at))
            ∙ map-append bytes_of down-here (asks down (at' + (at - at')) (5280 - at))
            ∙ ap (λ (i : ℕ). map bytes_of down-here ++ map bytes_of (asks down i (5280 - at))) f))

        -- A settled level: everything but the rows.
        pub drive-next : {rows' : List Bool} → Rows b (on_level k drive.R (direct x)) (suc k) rows' → length up ≡ 26400 → length down ≡ 26400
            → Driving b (suc k) rows' (ups + n) up at' down
        drive-next right size_up size_down =
            record {
              R = on_level k drive.R (direct x);
              us = drive.us ++ map (to_whole k) (asks up ups n);
              ds = map (to_whole k) (asks down at' (at - at')) ++ drive.ds;
              upto = next-upto (settled_ends settled);
              full = λ g h l. on_level_out k drive.R (direct x) g (omega arith) ∙ drive.full g (omega arith) l;
              none = λ g h. on_level_out k drive.R (direct x) g (omega arith) ∙ drive.none g h;
              rows_right = right;
              bytes_up = up_next;
              bytes_down = down-next;
              few_up = omega (arith, drive.few_up, settled.few_up);
              size_up = size_up;
              few_down = omega (arith, drive.few_down, settled.few_down, settled.down_to);
              most_down = omega (arith, drive.most_down, settled.down_to);
              size_down = size_down;
            }
