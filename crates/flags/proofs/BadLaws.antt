-- The laws of the flags that the query forbids.
use mathlib.Core.Path.{◌≡◌, refl, ap, sym, ◌∙◌}
use mathlib.Core.Logic.{dite}
use mathlib.Core.Bool.{Bool, true, false, not, ◌&&◌, ◌||◌, and-true, and-false, or-false, or_assoc}
use mathlib.Core.List.{List}
use Prim.Native.Nat.{ℕ, ◌+◌, ◌-◌, ◌*◌, ◌/◌, ◌%◌, ◌≤◌, ◌<◌}
use native.Mathlib.Decide.{dec_lt}
use native.Mathlib.Numerals.{add-one}
use native.Mathlib.Omega.{arith}
use lib.Dec.{eqb}
use lib.ListN.{length, get_or}
use borrow.Author.Tests.{lt-ltb, le-ltb, eq-eqb, ne_eqb}
use Rattle.sets.specs.Sets.{member}
use Rattle.frames.specs.declared.Query.{Query}
use Rattle.frames.specs.Book.{Contents, no_want}
use Rattle.frames.specs.Inner.Fits.{want_of}
use Rattle.inherit.specs.Inheritance.{downward}
use Rattle.quantifiers.specs.Quantifiers.{any_below}
use Rattle.quantifiers.proofs.BelowLaws.{any-zero, any_step, any_same}
use Rattle.quantifiers.proofs.ListLaws.{any-front}
use Rattle.replay.proofs.MetLaws.{wants-front}
use Rattle.reach.specs.Inner.Tracked.{track}
use Rattle.reach.specs.Inner.Goal.{banned, below_listed, forbids, forbidden, bad}
use Rattle.flags.specs.Inner.Flags.{FlagsWritten, has_fact, fact_in, SmallWants, lacks_value, banned_value, forbid_flag, bad_flag, BadFlags, listed_reaches}
use Rattle.flags.specs.Inner.Flags.{listed_reach, Reaching, lacking_flag, want_flag, banned_flag}
use Rattle.flags.proofs.FlagLaws.{written_self, written_at, written_same, written_over, written_part, written_join, track_level}

-- ---------------------------------------------------------------- forbidden facts

-- The value is banned by some one of the query's sets.
pub banned_same : (b : Contents) → SmallWants b.query → (a v : ℕ) → banned_value b.query a v ≡ banned b a v
unfolding banned want_of
banned_same b w a v =
    rw (wants-front b) (sym (any-front (λ x. eqb x.attr.0 a && not (member x.set v)) no_want b.query.wants b.query.q
    (omega (arith, w.few, w.room))))

-- At first no set is looked at.
pub banned-none : (before : List Bool) (q : Query) → FlagsWritten before 0 (banned_flag before q 0) 128 before
banned-none before q = written_same (written_self before 128) (λ f l. sym (rw (any-zero (lacks_value q (f / 16) (f % 16))) (or-false (get_or before f false))))

-- One set more.
pub banned_more : {before x y : List Bool} (q : Query) (j : ℕ) → FlagsWritten before 0 (banned_flag before q j) 128 x
    → FlagsWritten x 0 (want_flag x (want_of q j)) 128 y
    → FlagsWritten before 0 (banned_flag before q (j + 1)) 128 y
banned_more {before} {x} q j w v =
    written_over w
    (written_same v
    (λ f l.
    ap (λ (u : Bool). u || lacks_value q (f / 16) (f % 16) j) (written_at w f l)
    ∙ or_assoc (get_or before f false) (any_below (lacks_value q (f / 16) (f % 16)) j) (lacks_value q (f / 16) (f % 16) j)
    ∙ rw (add-one, any_step (lacks_value q (f / 16) (f % 16)) j)))

module _ (q : Query) (crews k : ℕ) (below : Bool) {before x : List Bool} (clear : FlagsWritten before 0 (λ _. false) 160 x) where
  -- Mode 01 forbids nothing.
  pub bad-none : q.mode ≡ 1 → FlagsWritten before 0 (bad_flag q crews k below) 160 x
  unfolding bad_flag
  bad-none e = written_same clear (λ f l. sym (rw (eq-eqb q.mode 1 e) (and-false (has_fact crews k f))))

  -- Of a crew that is not below a listed one nothing is forbidden.
  pub bad_apart : k < crews → below ≡ false → FlagsWritten before 0 (bad_flag q crews k below) 160 x
  unfolding bad_flag forbid_flag
  bad_apart low off =
      written_same clear
      (λ f l. sym
      (rw (lt-ltb k crews low, off, and-false (banned_value q (f / 16) (f % 16)), and-false (not (eqb q.mode 1))) (and-false (has_fact crews k f))))

  -- A crew below a listed one: the banned values.
  pub bad_crew : {y : List Bool} → (q.mode ≡ 1 → ⊥) → k < crews → below ≡ true → FlagsWritten x 0 (banned_flag x q q.q) 128 y
      → FlagsWritten before 0 (bad_flag q crews k below) 160 y
  unfolding bad_flag forbid_flag has_fact
  bad_crew two low on values =
      written_part 0 (bad_flag q crews k below) clear values refl (omega arith) (λ f l. absurd (omega arith))
      (λ f l. let z : 0 + f ≡ f = omega arith in
      rw (z, lt-ltb k crews low, lt-ltb f 128 l, ne_eqb q.mode 1 two, on, written_at clear f (omega arith))
      (sym (and-true (banned_value q (f / 16) (f % 16)))))
      (λ f m l. rw (lt-ltb k crews low, le-ltb f 128 m))

  -- The person: the banned values, and the crews that are not listed.
  pub bad_person : {y z : List Bool} → (q.mode ≡ 1 → ⊥) → crews ≤ k → FlagsWritten x 0 (banned_flag x q q.q) 128 y
      → FlagsWritten y 128 (lacking_flag y 128 q.crews) 32 z → FlagsWritten before 0 (bad_flag q crews k below) 160 z
  unfolding bad_flag forbid_flag has_fact
  bad_person two high values listed =
      written_over clear
      (written_join (bad_flag q crews k below) values listed refl
      (λ f l. rw (le-ltb k crews high, ne_eqb q.mode 1 two, lt-ltb f 128 l, written_at clear f (omega arith)))
      (λ f l. let z : 128 + f - 128 ≡ f = omega arith in
      rw (
        le-ltb k crews high,
        ne_eqb q.mode 1 two,
        le-ltb (128 + f) 128 (omega arith),
        z,
        values.above (128 + f) (omega arith),
        written_at clear (128 + f) (omega arith),
      )))

module _ (b : Contents) (w : SmallWants b.query) (k : ℕ) (below : Bool) (h : k ≤ b.sizes.crews) (e : k < b.sizes.crews → below ≡ below_listed b k) where
  -- What mode 02 forbids at a level.
  forbid_same : (f : ℕ) → forbid_flag b.query b.sizes.crews k below f ≡ forbids b (fact_in b.sizes.crews b.query.person k f)
  unfolding forbid_flag fact_in forbids
  forbid_same f =
      dite (dec_lt k b.sizes.crews)
      (λ (low : k < b.sizes.crews). rw (lt-ltb k b.sizes.crews low, e low, banned_same b w (f / 16) (f % 16)))
      (λ (high : k < b.sizes.crews → ⊥).
      rw (le-ltb k b.sizes.crews (omega arith))
      (dite (dec_lt f 128)
      (λ (value : f < 128). rw (lt-ltb f 128 value) (banned_same b w (f / 16) (f % 16)))
      (λ (crew : f < 128 → ⊥). rw (le-ltb f 128 (omega arith)))))

  -- What the query forbids at a level.
  bad_same : (f : ℕ) → f < 160 → bad_flag b.query b.sizes.crews k below f ≡ bad b (160 * k + f)
  unfolding bad_flag bad forbidden track
  bad_same f l =
      ap (λ u. has_fact b.sizes.crews k f && (not (eqb b.query.mode 1) && u)) (forbid_same f)
      ∙ sym (track_level b (forbidden b) k f h l)

  -- All 160 flags written are the forbidden facts.
  pub bad-all : {before x : List Bool} → length before ≡ 160 → FlagsWritten before 0 (bad_flag b.query b.sizes.crews k below) 160 x → BadFlags b k x
  bad-all {before} {x} size v = record {
    size = v.size ∙ size;
    at = λ f l. written_at v f l ∙ bad_same f l;
  }

-- By rows that say which crews each crew reaches, crew c lies below a listed one.
pub below_same : (b : Contents) (rows : List Bool) (c : ℕ) → c < 32 → Reaching b.juniors rows → listed_reach b.query.crews rows c ≡ below_listed b c
unfolding below_listed
below_same b rows c h r =
    any_same (listed_reaches b.query.crews rows c) (λ d. member b.query.crews d && downward b.juniors (λ x. eqb x c) d) 32
    (λ d l. ap (λ u. member b.query.crews d && u) (r.at d l c h))
