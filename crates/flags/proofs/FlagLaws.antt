-- The laws of the planner's flags: lists of flags written one by one, and what each list then is.
use mathlib.Core.Path.{◌≡◌, refl, ap, sym, subst, ◌∙◌}
use mathlib.Core.Logic.{dite}
use mathlib.Core.Bool.{Bool, true, false, cond, ◌&&◌, ◌||◌, and-false, or-false}
use mathlib.Core.List.{List}
use Prim.Native.Nat.{ℕ, ◌+◌, ◌-◌, ◌*◌, ◌/◌, ◌%◌, ◌≤◌, ◌<◌}
use native.Mathlib.Decide.{ℕ_discrete, dec_lt}
use native.Mathlib.Numerals.{add-one}
use native.Mathlib.Omega.{arith}
use lib.Dec.{eqb, ltb}
use lib.ListN.{length, get_or, set, length-set, get_or-eq_default}
use lib.Seq.{get_or-set_same, get_or-set_other}
use borrow.Author.Tests.{lt-ltb, le-ltb, eq-eqb, ne_eqb}
use Rattle.sets.specs.Sets.{member, member_at}
use Rattle.facts.specs.Facts.{fits, set_at, set_width, member_of, holds}
use Rattle.facts.specs.declared.Person.{Person}
use Rattle.facts.specs.declared.Fact.{Fact}
use Rattle.facts.specs.declared.Fact.TheVariants.{Holds, Member}
use Rattle.frames.specs.Book.{Contents}
use Rattle.lines.specs.Digits.{byte_at}
use Rattle.frames.specs.Inner.Fits.{Admitted}
use Rattle.inherit.specs.Inheritance.{is_junior}
use Rattle.quantifiers.specs.Quantifiers.{any_below}
use Rattle.quantifiers.proofs.BelowLaws.{any-zero, any_step}
use Rattle.reach.specs.Inner.Tracked.{person_level, fact_at, is_number, track}
use Rattle.flags.specs.Inner.Flags.{FlagsWritten, has_fact, fact_in, start_flag, StartFlags, junior_has, added_flag, CrewTable, PersonTable, row_flag}
use Rattle.flags.specs.Inner.Flags.{FilledRow, SmallWants, value_at}

-- ---------------------------------------------------------------- flags written one by one

-- One more is written, at the next place n.
pub written_more : {before x : List Bool} {base i : ℕ} {p : ℕ → Bool} (v : Bool) (n : ℕ) → FlagsWritten before base p i x → n ≡ base + i
    → n < length before → v ≡ p i
    → FlagsWritten before base p (i + 1) (set x n v)
written_more {before} {x} {base} {i} {p} v n w z h e = record {
  size = simp length-set w.size;
  at = λ f l. dite (ℕ_discrete f i)
      (λ (q : f ≡ i). rw (q, ← z) (get_or-set_same x n v false (omega (arith, w.size)) ∙ e))
      (λ (q : f ≡ i → ⊥). get_or-set_other x n (base + f) v false (omega arith) ∙ w.at f (omega arith));
  below = λ j l. get_or-set_other x n j v false (omega arith) ∙ w.below j l;
  above = λ j l. get_or-set_other x n j v false (omega arith) ∙ w.above j (omega arith);
}

-- The count may be named otherwise.
pub written-end : {before x : List Bool} {base i n : ℕ} {p : ℕ → Bool} → FlagsWritten before base p i x → i ≡ n → FlagsWritten before base p n x
written-end w e = rw e at w

-- The flags may be named otherwise.
pub written_same : {before x : List Bool} {base i : ℕ} {p q : ℕ → Bool} → FlagsWritten before base p i x → ((f : ℕ) → f < i → p f ≡ q f)
    → FlagsWritten before base q i x
written_same w h = record { size = w.size; at = λ f l. w.at f l ∙ h f l; below = w.below; above = w.above }

-- Flags written over others.
pub written_over : {before x y : List Bool} {base i : ℕ} {p q : ℕ → Bool} → FlagsWritten before base p i x → FlagsWritten x base q i y
    → FlagsWritten before base q i y
written_over w v = record { size = v.size ∙ w.size; at = v.at; below = λ j l. v.below j l ∙ w.below j l; above = λ j l. v.above j l ∙ w.above j l }

-- What was written stands.
pub written_now : {before x : List Bool} {base i : ℕ} {p : ℕ → Bool} → FlagsWritten before base p i x → FlagsWritten x base p i x
written_now w = record { size = refl; at = w.at; below = λ j l. refl; above = λ j l. refl }

-- What nothing is written over stays.
pub written_self : (x : List Bool) (n : ℕ) → FlagsWritten x 0 (λ f. get_or x f false) n x
written_self x n = record { size = refl; at = λ f l. let z : 0 + f ≡ f = omega arith in ap (λ j. get_or x j false) z; below = λ j l. refl; above = λ j l. refl }

-- A flag of those written from place 0 on.
pub written_at : {before x : List Bool} {n : ℕ} {p : ℕ → Bool} → FlagsWritten before 0 p n x → (f : ℕ) → f < n → get_or x f false ≡ p f
written_at {before} {x} w f l = let z : 0 + f ≡ f = omega arith in ap (λ j. get_or x j false) (sym z) ∙ w.at f l

-- Flags written behind others.
pub written_join : {before x y : List Bool} {base i m n : ℕ} {p q : ℕ → Bool} (r : ℕ → Bool) → FlagsWritten before base p i x → FlagsWritten x m q n y
    → m ≡ base + i
    → ((f : ℕ) → f < i → p f ≡ r f) → ((f : ℕ) → f < n → q f ≡ r (i + f)) → FlagsWritten before base r (i + n) y
written_join {before} {x} {y} {base} {i} {m} {n} {p} {q} r w v e front back = record {
  size = v.size ∙ w.size;
  at = λ f l. dite (dec_lt f i)
      (λ (h : f < i). v.below (base + f) (omega arith) ∙ w.at f h ∙ front f h)
      (λ (h : f < i → ⊥).
      let z : m + (f - i) ≡ base + f = omega arith in
      let g : i + (f - i) ≡ f = omega arith in
      ap (λ j. get_or y j false) (sym z) ∙ v.at (f - i) (omega arith) ∙ back (f - i) (omega arith) ∙ ap r g);
  below = λ j l. v.below j (omega arith) ∙ w.below j l;
  above = λ j l. v.above j (omega arith) ∙ w.above j (omega arith);
}

-- Flags written over a part of others, from flag j of them on.
pub written_part : {before x y : List Bool} {base n m i : ℕ} {p q : ℕ → Bool} (j : ℕ) (r : ℕ → Bool)
    → FlagsWritten before base p n x → FlagsWritten x m q i y → m ≡ base + j → j + i ≤ n
    → ((f : ℕ) → f < j → p f ≡ r f) → ((f : ℕ) → f < i → q f ≡ r (j + f)) → ((f : ℕ) → j + i ≤ f → f < n → p f ≡ r f) → FlagsWritten before base r n y
written_part {before} {x} {y} {base} {n} {m} {i} {p} {q} j r w v e room front part back = record {
  size = v.size ∙ w.size;
  at = λ f l. dite (dec_lt f j)
      (λ (h : f < j). v.below (base + f) (omega arith) ∙ w.at f l ∙ front f h)
      (λ (h : f < j → ⊥). dite (dec_lt f (j + i))
      (λ (k : f < j + i).
      let z : m + (f - j) ≡ base + f = omega arith in
      let g : j + (f - j) ≡ f = omega arith in
      ap (λ u. get_or y u false) (sym z) ∙ v.at (f - j) (omega arith) ∙ part (f - j) (omega arith) ∙ ap r g)
      (λ (k : f < j + i → ⊥). v.above (base + f) (omega arith) ∙ w.at f l ∙ back f (omega arith) l));
  below = λ u l. v.below u (omega arith) ∙ w.below u l;
  above = λ u l. v.above u (omega arith) ∙ w.above u l;
}

-- One flag, flag j, set over others.
pub written-set : {before x : List Bool} {base n : ℕ} {p : ℕ → Bool} (j m : ℕ) (v : Bool) (r : ℕ → Bool)
    → FlagsWritten before base p n x → m ≡ base + j → j < n → m < length before
    → v ≡ r j → ((f : ℕ) → f < n → (f ≡ j → ⊥) → p f ≡ r f) → FlagsWritten before base r n (set x m v)
written-set {before} {x} {base} {n} {p} j m v r w e h inside own others = record {
  size = simp length-set w.size;
  at = λ f l. dite (ℕ_discrete f j)
      (λ (q : f ≡ j). rw (q, ← e) (get_or-set_same x m v false (omega (arith, w.size)) ∙ own))
      (λ (q : f ≡ j → ⊥). get_or-set_other x m (base + f) v false (omega arith) ∙ w.at f l ∙ others f l q);
  below = λ u l. get_or-set_other x m u v false (omega arith) ∙ w.below u l;
  above = λ u l. get_or-set_other x m u v false (omega arith) ∙ w.above u l;
}

-- ---------------------------------------------------------------- what a level starts with

-- A tracked fact by its level and its place there.
pub track_level : (b : Contents) (F : Fact → Bool) (k f : ℕ) → k ≤ person_level b → f < 160
    → track b F (160 * k + f) ≡ has_fact (person_level b) k f && F (fact_in (person_level b) b.query.person k f)
unfolding track is_number fact_at has_fact fact_in
track_level b F k f h l =
    let d : (160 * k + f) / 160 ≡ k = omega arith in
    let m : (160 * k + f) % 160 ≡ f = omega arith in
    rw (d, m)
    (dite (dec_lt k (person_level b))
    (λ (low : k < person_level b). rw (lt-ltb k (person_level b) low))
    (λ (high : k < person_level b → ⊥). rw (le-ltb k (person_level b) (omega arith), eq-eqb k (person_level b) (omega arith))))

-- All 160 flags written are the level's starting facts.
pub start_flags : (b : Contents) {k : ℕ} {facts : List ℕ} {before s : List Bool} → facts ≡ b.facts → k ≤ b.sizes.crews
    → FlagsWritten before 0 (start_flag facts b.sizes.crews b.query.person k) 160 s → StartFlags b k s
unfolding start_flag
start_flags b {k} {facts} {before} {s} same h w =
    let own = subst (λ (x : List ℕ). FlagsWritten before 0 (start_flag x b.sizes.crews b.query.person k) 160 s) same w in
    record { at = λ f l. written_at own f l ∙ sym (track_level b (holds b.facts) k f h l) }

-- Eight numbers more of a set in bytes: those of byte m from its end.
pub set_more : {before x y : List Bool} (facts : List ℕ) (place at m w : ℕ) → m < w → FlagsWritten before at (member_at facts place w) (8 * m) x
    → FlagsWritten x (at + 8 * m) (member (byte_at facts (place + (w - 1 - m)))) 8 y → FlagsWritten before at (member_at facts place w) (8 * (m + 1)) y
unfolding member_at byte_at
set_more facts place at m w h front byte =
    written-end
    (written_join (member_at facts place w) front byte refl (λ f l. refl)
    (λ f l.
    let d : (8 * m + f) / 8 ≡ m = omega arith in
    let r : (8 * m + f) % 8 ≡ f = omega arith in
    rw (d, r)))
    (omega arith)

-- One attribute more.
pub values_more : {before x y : List Bool} (facts : List ℕ) (place a : ℕ) → FlagsWritten before 0 (value_at facts place) (16 * a) x
    → FlagsWritten x (16 * a) (member_at facts (place + 2 * a) 2) (8 * 2) y → FlagsWritten before 0 (value_at facts place) (16 * (a + 1)) y
unfolding value_at
values_more facts place a front more =
    written-end
    (written_join (value_at facts place) front more (omega arith) (λ f l. refl)
    (λ f l.
    let d : (16 * a + f) / 16 ≡ a = omega arith in
    let r : (16 * a + f) % 16 ≡ f = omega arith in
    rw (d, r)))
    (omega arith)

module _ (facts : List ℕ) (crews : ℕ) (person : Person) (k : ℕ) {before s : List Bool} (clear : FlagsWritten before 0 (λ _. false) 160 s) where
  -- A crew without a place in the ledger has no values.
  pub start_no_crew : k < crews → 32 ≤ k → FlagsWritten before 0 (start_flag facts crews person k) 160 s
  unfolding start_flag has_fact fact_in holds fits
  start_no_crew low out = written_same clear (λ f l. sym (rw (lt-ltb k crews low, le-ltb k 32 out) (and-false (ltb f 128))))

  -- A crew has its values, and no memberships.
  pub start_crew : {x : List Bool} → k < crews → k < 32 → FlagsWritten s 0 (value_at facts (1024 + 16 * k)) 128 x
      → FlagsWritten before 0 (start_flag facts crews person k) 160 x
  unfolding start_flag has_fact fact_in value_at holds fits set_at set_width member_of
  start_crew low h values =
      written_part 0 (start_flag facts crews person k) clear values refl (omega arith) (λ f l. absurd (omega arith))
      (λ f l. let z : 0 + f ≡ f = omega arith in
      rw (z, lt-ltb k crews low, lt-ltb k 32 h, lt-ltb f 128 l, lt-ltb (f / 16) 8 (omega arith), lt-ltb (f % 16) 16 (omega arith)))
      (λ f m l. rw (lt-ltb k crews low, le-ltb f 128 m))

  -- A person without a place in the ledger has nothing.
  pub start_no_person : crews ≤ k → 64 ≤ person.0 → FlagsWritten before 0 (start_flag facts crews person k) 160 s
  unfolding start_flag has_fact fact_in holds fits
  start_no_person high out = written_same clear (λ f l. rw (le-ltb k crews high) (sym (nothing f)))
    where
      nothing : (f : ℕ) → holds facts (cond (ltb f 128) (Holds person (record { 0 = f / 16 }) (f % 16)) (Member person (record { 0 = f - 128 }))) ≡ false
      nothing f =
          dite (dec_lt f 128)
          (λ (l : f < 128). rw (lt-ltb f 128 l, le-ltb person.0 64 out))
          (λ (l : f < 128 → ⊥). rw (le-ltb f 128 (omega arith), le-ltb person.0 64 out))

  -- A person has values and memberships.
  pub start_person : {x y : List Bool} → crews ≤ k → person.0 < 64 → FlagsWritten s 0 (value_at facts (16 * person.0)) 128 x
      → FlagsWritten x 128 (member_at facts (1536 + 4 * person.0) 4) (8 * 4) y → FlagsWritten before 0 (start_flag facts crews person k) 160 y
  unfolding start_flag has_fact fact_in value_at holds fits set_at set_width member_of
  start_person high h values crew_set =
      written_over clear
      (written_join (start_flag facts crews person k) values crew_set refl
      (λ f l. rw (le-ltb k crews high, lt-ltb f 128 l, lt-ltb person.0 64 h, lt-ltb (f / 16) 8 (omega arith), lt-ltb (f % 16) 16 (omega arith)))
      (λ f l. let z : 128 + f - 128 ≡ f = omega arith in
      rw (le-ltb k crews high, le-ltb (128 + f) 128 (omega arith), lt-ltb person.0 64 h, z, lt-ltb f 32 l)))

-- ---------------------------------------------------------------- tables and rows

-- What crew k has by its juniors below j.
abbrev pub juniors_below : List ℕ → ℕ → List Bool → ℕ → ℕ → Bool
juniors_below js k rows j f = any_below (junior_has js k rows f) j

module _ (js : List ℕ) (k : ℕ) (rows : List Bool) {before : List Bool} where
  -- At first nothing, from no junior.
  pub juniors_none : {x : List Bool} → FlagsWritten before 5120 (λ _. false) 160 x → FlagsWritten x 5120 (juniors_below js k rows 0) 160 x
  juniors_none w = written_now (written_same w (λ f l. sym (any-zero (junior_has js k rows f))))

  -- A direct junior's row is added.
  pub juniors_add : {x y : List Bool} (j : ℕ) → is_junior js k j ≡ true → FlagsWritten before 5120 (juniors_below js k rows j) 160 x
      → FlagsWritten x 5120 (added_flag rows j x) 160 y
      → FlagsWritten before 5120 (juniors_below js k rows (j + 1)) 160 y
  juniors_add j e w v = written_over w (written_same v (λ f l. rw (w.at f l, add-one, any_step (junior_has js k rows f) j, e) refl))

  -- Any other crew's is not.
  pub juniors_skip : {x : List Bool} (j : ℕ) → is_junior js k j ≡ false → FlagsWritten before 5120 (juniors_below js k rows j) 160 x
      → FlagsWritten before 5120 (juniors_below js k rows (j + 1)) 160 x
  juniors_skip j e w = written_same w (λ f l. sym (rw (add-one, any_step (junior_has js k rows f) j, e) (or-false (any_below (junior_has js k rows f) j))))

-- The rows are copied, and nothing is in the row behind them.
pub person_table-all : {rows before x table : List Bool} → length before ≡ 5280
    → FlagsWritten before 0 (λ i. get_or rows (0 + i) false) 5120 x → FlagsWritten x 5120 (λ _. false) 160 table → PersonTable rows table
person_table-all {rows} {before} {x} {table} e w v = record {
  size = v.size ∙ w.size ∙ e;
  same = λ j l. let z : 0 + j ≡ j = omega arith in v.below j l ∙ written_at w j l ∙ ap (λ i. get_or rows i false) z;
  last = λ j l. dite (dec_lt j 5280)
      (λ (m : j < 5280). let z : 5120 + (j - 5120) ≡ j = omega arith in ap (λ i. get_or table i false) (sym z) ∙ v.at (j - 5120) (omega arith))
      (λ (m : j < 5280 → ⊥). get_or-eq_default table false (omega (arith, v.size, w.size, e)));
}

-- The values and the crews are copied to row k, and its own crew is set.
pub row-all : (x table : List Bool) {before y z : List Bool} (k : ℕ) → k < 32 → length before ≡ 5120
    → FlagsWritten before (160 * k) (λ f. get_or x (160 + f) false) 128 y
    → FlagsWritten y (160 * k + 128) (λ f. get_or table (5248 + f) false) 32 z
    → FlagsWritten before (160 * k) (row_flag table k x) 160 (set z (160 * k + (128 + k)) true)
unfolding row_flag
row-all x table k h e values crews =
    written-set (128 + k) (160 * k + (128 + k)) true (row_flag table k x)
    (written_join copied values crews refl
    (λ f l. rw (lt-ltb f 128 l))
    (λ f l. let q : 5120 + (128 + f) ≡ 5248 + f = omega arith in rw (le-ltb (128 + f) 128 (omega arith), q)))
    refl (omega arith) (omega arith)
    (rw (le-ltb (128 + k) 128 (omega arith))
    (sym (ap (λ (u : Bool). u || get_or table (5120 + (128 + k)) false) (eq-eqb k (128 + k - 128) (omega arith)))))
    (λ f l ne. dite (dec_lt f 128)
    (λ (m : f < 128). rw (lt-ltb f 128 m))
    (λ (m : f < 128 → ⊥). rw (le-ltb f 128 (omega arith), ne_eqb k (f - 128) (λ (q : k ≡ f - 128). ne (omega arith)))))
  where
    copied : ℕ → Bool
    copied f = cond (ltb f 128) (get_or x (160 + f) false) (get_or table (5120 + f) false)

-- What row k says where all of it is written.
pub filled_row : {js : List ℕ} {k : ℕ} {x before old table rows : List Bool} → length before ≡ 5120 → CrewTable js k before old table
    → FlagsWritten before (160 * k) (row_flag table k x) 160 rows → FilledRow js k x before rows
unfolding row_flag
filled_row {js} {k} {x} {before} {old} {table} {rows} e t w = record {
  size = w.size ∙ e;
  values = λ f l. w.at f (omega arith) ∙ rw (lt-ltb f 128 l);
  crews = λ d l.
      let z : 128 + d - 128 ≡ d = omega arith in
      w.at (128 + d) (omega arith) ∙ rw (le-ltb (128 + d) 128 (omega arith), z, t.last (128 + d) (omega arith));
  below = w.below;
  above = w.above;
}

-- Place i of the rows is the own crew of its row.
abbrev pub is_own : ℕ → Bool
is_own i = eqb (i % 160) (128 + i / 160)

-- The same in the rows below row c alone.
abbrev pub is_own_below : ℕ → ℕ → Bool
is_own_below c i = ltb (i / 160) c && is_own i

-- ---------------------------------------------------------------- what the query forbids

-- The sets of an accepted book's query are small.
pub small_wants : {t : Contents} → Admitted t → SmallWants t.query
small_wants b = record { few = b.query_in.few; room = b.query_in.room }
