-- The flags of the planner's levels.
use Rattle.std.specs.Prelude.{ℕ, ◌+◌, ◌-◌, ◌*◌, ◌/◌, ◌%◌, ◌≤◌, ◌<◌, ◌≡◌, Bool, false, not, cond, ◌&&◌, ◌||◌, List, eqb, ltb, length, get_or}
use Rattle.widths.specs.Inner.Widths.{level_size, rows_size, table_size}
use Rattle.sets.specs.Sets.{member, member_at}
use Rattle.facts.specs.Facts.{holds}
use Rattle.facts.specs.declared.Person.{Person}
use Rattle.facts.specs.declared.Fact.{Fact}
use Rattle.facts.specs.declared.Fact.TheVariants.{Holds, CrewHolds, Member}
use Rattle.frames.specs.declared.Want.{Want}
use Rattle.frames.specs.declared.Query.{Query}
use Rattle.frames.specs.Book.{Contents}
use Rattle.frames.specs.Inner.Fits.{want_of}
use Rattle.inherit.specs.Inheritance.{is_junior, downward}
use Rattle.quantifiers.specs.Quantifiers.{any_below}
use Rattle.reach.specs.Inner.Tracked.{track}
use Rattle.reach.specs.Inner.Goal.{bad}

-- ---------------------------------------------------------------- flags written one by one

-- The first i flags from place `base` are those of p; all others are as in the list before.
pub record FlagsWritten (before : List Bool) (base : ℕ) (p : ℕ → Bool) (i : ℕ) (x : List Bool) : Type 0 where
  pub size : length x ≡ length before
  pub at : (f : ℕ) → f < i → get_or x (base + f) false ≡ p f
  pub below : (j : ℕ) → j < base → get_or x j false ≡ get_or before j false
  pub above : (j : ℕ) → base + i ≤ j → get_or x j false ≡ get_or before j false

-- ---------------------------------------------------------------- what a level starts with

-- Level k has a fact f: a crew has values alone.
unfoldable pub has_fact : ℕ → ℕ → ℕ → Bool
has_fact crews k f = not (ltb k crews) || ltb f 128

-- Fact f of level k, by the number of crews and the query's person.
unfoldable pub fact_in : ℕ → Person → ℕ → ℕ → Fact
fact_in crews person k f =
    cond (ltb k crews) (CrewHolds (record { 0 = k }) (record { 0 = f / 16 }) (f % 16))
    (cond (ltb f 128) (Holds person (record { 0 = f / 16 }) (f % 16))
    (Member person (record { 0 = f - 128 })))

-- Fact f of level k is in the ledger.
unfoldable pub start_flag : List ℕ → ℕ → Person → ℕ → ℕ → Bool
start_flag facts crews person k f = has_fact crews k f && holds facts (fact_in crews person k f)

-- The flags of level k are the tracked starting facts.
pub record StartFlags (b : Contents) (k : ℕ) (s : List Bool) : Type 0 where
  pub at : (f : ℕ) → f < level_size → get_or s f false ≡ track b (holds b.facts) (level_size * k + f)

-- ---------------------------------------------------------------- tables and rows

-- Crew j is a direct junior of crew k, and its row has flag f.
abbrev pub junior_has : List ℕ → ℕ → List Bool → ℕ → ℕ → Bool
junior_has js k rows f j = is_junior js k j && get_or rows (level_size * j + f) false

-- The row of some direct junior of crew k has flag f.
abbrev pub juniors_have : List ℕ → ℕ → List Bool → ℕ → Bool
juniors_have js k rows f = any_below (junior_has js k rows f) k

-- Flag f of the table's row 32 with row j of the crews added.
abbrev pub added_flag : List Bool → ℕ → List Bool → ℕ → Bool
added_flag rows j table f = get_or table (rows_size + f) false || get_or rows (level_size * j + f) false

-- Row 32 of the table is what crew k has by its juniors; the other rows stay.
pub record CrewTable (js : List ℕ) (k : ℕ) (rows before table : List Bool) : Type 0 where
  pub size : length table ≡ table_size
  pub kept : (j : ℕ) → j < rows_size → get_or table j false ≡ get_or before j false
  pub last : (f : ℕ) → f < level_size → get_or table (rows_size + f) false ≡ juniors_have js k rows f

-- The table's rows are the crews' rows; its row 32 has nothing.
pub record PersonTable (rows table : List Bool) : Type 0 where
  pub size : length table ≡ table_size
  pub same : (j : ℕ) → j < rows_size → get_or table j false ≡ get_or rows j false
  pub last : (j : ℕ) → rows_size ≤ j → get_or table j false ≡ false

-- Flag f of crew k's row: an effective value, or a crew that is k itself or that k has by its juniors, as row 32 of its table says.
unfoldable pub row_flag : List Bool → ℕ → List Bool → ℕ → Bool
row_flag table k x f = cond (ltb f 128) (get_or x (level_size + f) false) (eqb k (f - 128) || get_or table (rows_size + f) false)

-- Row k is filled from the flags x of level k; the other rows stay.
pub record FilledRow (js : List ℕ) (k : ℕ) (x before rows : List Bool) : Type 0 where
  pub size : length rows ≡ rows_size
  pub values : (f : ℕ) → f < 128 → get_or rows (level_size * k + f) false ≡ get_or x (level_size + f) false
  pub crews : (d : ℕ) → d < 32 → get_or rows (level_size * k + (128 + d)) false ≡ eqb k d || juniors_have js k before (128 + d)
  pub below : (j : ℕ) → j < level_size * k → get_or rows j false ≡ get_or before j false
  pub above : (j : ℕ) → level_size * k + level_size ≤ j → get_or rows j false ≡ get_or before j false

-- A crew reaches itself; its row has nothing else.
pub record FirstRows (rows : List Bool) : Type 0 where
  pub size : length rows ≡ rows_size
  pub at : (c : ℕ) → c < 32 → (f : ℕ) → f < level_size → get_or rows (level_size * c + f) false ≡ eqb f (128 + c)

-- ---------------------------------------------------------------- what the query forbids

-- A query has room for eight sets.
pub record SmallWants (q : Query) : Type 0 where
  pub few : q.q ≤ 8
  pub room : length q.wants ≡ 8

-- Named set j is one of attribute a, and lacks value v.
abbrev pub lacks_value : Query → ℕ → ℕ → ℕ → Bool
lacks_value q a v j = eqb (want_of q j).attr.0 a && not (member (want_of q j).set v)

-- Some named set of attribute a lacks value v.
abbrev pub banned_value : Query → ℕ → ℕ → Bool
banned_value q a v = any_below (lacks_value q a v) q.q

-- Mode 02 forbids fact f of level k.
unfoldable pub forbid_flag : Query → ℕ → ℕ → Bool → ℕ → Bool
forbid_flag q crews k below f =
    cond (ltb k crews) (banned_value q (f / 16) (f % 16) && below)
    (cond (ltb f 128) (banned_value q (f / 16) (f % 16))
    (not (member q.crews (f - 128))))

-- The query forbids fact f of level k.
unfoldable pub bad_flag : Query → ℕ → ℕ → Bool → ℕ → Bool
bad_flag q crews k below f = has_fact crews k f && (not (eqb q.mode 1) && forbid_flag q crews k below f)

-- The flags of level k are the forbidden tracked facts.
pub record BadFlags (b : Contents) (k : ℕ) (x : List Bool) : Type 0 where
  pub size : length x ≡ level_size
  pub at : (f : ℕ) → f < level_size → get_or x f false ≡ bad b (level_size * k + f)

-- Crew d is listed, and its row reaches crew c.
abbrev pub listed_reaches : ℕ → List Bool → ℕ → ℕ → Bool
listed_reaches listed rows c d = member listed d && get_or rows (level_size * d + (128 + c)) false

abbrev pub listed_reach : ℕ → List Bool → ℕ → Bool
listed_reach listed rows c = any_below (listed_reaches listed rows c) 32

-- The rows say which crews each crew reaches.
pub record Reaching (js : List ℕ) (rows : List Bool) : Type 0 where
  pub at : (d : ℕ) → d < 32 → (c : ℕ) → c < 32 → get_or rows (level_size * d + (128 + c)) false ≡ downward js (λ x. eqb x c) d

-- ---------------------------------------------------------------- what single loops write

-- Flag f of the eight two-byte sets that begin at a place of the ledger: value f % 16 of attribute f / 16.
unfoldable pub value_at : List ℕ → ℕ → ℕ → Bool
value_at facts place f = member_at facts (place + 2 * (f / 16)) 2 (f % 16)

-- Flag v from place `at` on, with each number added that the set x lacks.
abbrev pub lacking_flag : List Bool → ℕ → ℕ → ℕ → Bool
lacking_flag before at x v = get_or before (at + v) false || not (member x v)

-- Flag f with each value added that the named set lacks.
abbrev pub want_flag : List Bool → Want → ℕ → Bool
want_flag before w f = get_or before f false || (eqb w.attr.0 (f / 16) && not (member w.set (f % 16)))

-- Flag f with each value added that one of the first j named sets lacks.
abbrev pub banned_flag : List Bool → Query → ℕ → ℕ → Bool
banned_flag before q j f = get_or before f false || any_below (lacks_value q (f / 16) (f % 16)) j
