-- The rounds of a level, and what a level comes to: a settled set with its requests, or a starting fact that no clear chain can keep.
use Rattle.std.specs.Prelude.{Option, Some, None, ◌≡◌, Bool, true, false, List, ℕ, ◌+◌, ◌-◌, ◌*◌, ◌≤◌, ◌<◌, length, replicate}
use Rattle.widths.specs.Inner.Widths.{level_size, flags_size, table_size, depot_size}
use Rattle.level.specs.declared.Draft.{Draft}
use Rattle.level.specs.declared.Ends.{Ends}
use Rattle.level.specs.declared.Fired.{Fired}
use Rattle.level.specs.declared.Work.{Work}
use Rattle.theory.specs.Inner.Facts.{State, ◌⊆◌, minus}
use Rattle.theory.specs.Inner.Plan.{World, Brings, AddClosed, BackClosed}
use Rattle.theory.specs.Inner.Sweep.{Added, PutBack}
use Rattle.level.specs.Inner.Moves.{Moves, Sound}
use Rattle.shown.specs.Inner.Shown.{direct, Whole}
use Rattle.level.specs.Inner.World.{world}
use Rattle.level.specs.Inner.Notes.{ask_at, asks}

-- No move has fired: 512 is the number of none.
abbrev pub none_fired : Fired
none_fired = record { added = replicate level_size 512; deleted = replicate level_size 512 }

-- Before the first round every fact may be added, and no flag is set.
abbrev pub new_work : Work
new_work =
    record {
      u = replicate level_size true;
      x = replicate flags_size false;
      y = replicate flags_size false;
      d = replicate level_size false;
    }

-- The two buffers lent are the same, and as long as they were.
pub record SameBuffers (d e : Draft) : Type 0 where
  pub up : e.up.ghost_name ≡ d.up.ghost_name
  pub down : e.down.ghost_name ≡ d.down.ghost_name
  pub length_up : length e.up.now ≡ length d.up.now
  pub length_down : length e.down.now ≡ length d.down.now

-- So are they, and the plan drawn so far ends where it did.
pub record SameDraft (d e : Draft) : Type 0 where
  pub buffers : SameBuffers d e
  pub ends : e.ends ≡ d.ends

-- The bounds that the rounds of a level come to, from what is allowed at first: each follows from the one before by closed additions and closed deletions.
pub data Rounds (W : World) (bad s u₀ : State) : State → Type 0 where
  none_yet : Rounds W bad s u₀ u₀
  again : {u x y : State} → Rounds W bad s u₀ u → s ⊆ x → AddClosed W u x → BackClosed W bad x y → Rounds W bad s u₀ y

-- The lengths of what is lent, and room in the two buffers.
pub record Lengths (T bad s u x y d : List Bool) (start : ℕ) (up : List ℕ) (end : ℕ) (down : List ℕ) : Type 0 where
  pub rows : length T ≡ table_size
  pub size_bad : length bad ≡ level_size
  pub size_s : length s ≡ flags_size
  pub size_u : length u ≡ level_size
  pub size_x : length x ≡ flags_size
  pub size_y : length y ≡ flags_size
  pub size_d : length d ≡ level_size
  pub room_up : 5 * (start + level_size) ≤ length up
  pub below : level_size ≤ end
  pub room_down : 5 * end ≤ length down

-- What a round needs: sound moves, the lengths of what is lent with room in the two buffers, whole flags of the starting facts, which are allowed,
-- and room for the names of the moves to try first.
pub record RoundReady (adds dels : Moves) (added deleted : List ℕ) (T bad s u x y d : List Bool)
    (start : ℕ) (up : List ℕ) (end : ℕ) (down : List ℕ) : Type 0 where
  pub sound_adds : Sound adds
  pub sound_dels : Sound dels
  pub lengths : Lengths T bad s u x y d start up end down
  pub whole_s : Whole T s
  pub allowed : direct s ⊆ direct u
  pub names_added : length added ≡ level_size
  pub names_deleted : length deleted ≡ level_size

-- What a round leaves: additions closed within `u`, and deletions closed backwards.
pub record Rounded (adds dels : Moves) (p : ℕ) (T bad s u x y d : List Bool)
    (start : ℕ) (up₀ up : List ℕ) (n end : ℕ) (down₀ down : List ℕ) (at : ℕ) : Type 0 where
  pub sizes : Lengths T bad s u x y d start up end down
  pub length_up : length up ≡ length up₀
  pub length_down : length down ≡ length down₀
  pub whole : Whole T x
  pub few_up : n ≤ level_size
  pub stands_up : (k : ℕ) → k < start → ask_at up k ≡ ask_at up₀ k
  pub added : Added (world T adds adds p) (direct s) (direct u) (direct x) (asks up start n)
  pub add_closed : AddClosed (world T adds adds p) (direct u) (direct x)
  pub down_to : at ≤ end
  pub few_down : end ≤ at + level_size
  pub stands_down : (k : ℕ) → end ≤ k → ask_at down k ≡ ask_at down₀ k
  pub back : PutBack (world T dels dels p) (direct bad) (direct x) (direct y) (asks down at (end - at))
  pub back_closed : BackClosed (world T dels dels p) (direct bad) (direct x) (direct y)

-- A settled level: the requests in `up` lead from `s` to `x`, those in `down` from `x` to what of it is not forbidden, and `x` bounds the level.
pub record Settled (adds dels : Moves) (p : ℕ) (T bad s u₀ x : List Bool)
    (start : ℕ) (up₀ up : List ℕ) (n end : ℕ) (down₀ down : List ℕ) (at : ℕ) : Type 0 where
  pub whole : Whole T x
  pub few_up : n ≤ level_size
  pub stands_up : (k : ℕ) → k < start → ask_at up k ≡ ask_at up₀ k
  pub few_down : end ≤ at + level_size
  pub down_to : at ≤ end
  pub stands_down : (k : ℕ) → end ≤ k → ask_at down k ≡ ask_at down₀ k
  pub grown : direct s ⊆ direct x
  pub rounds : Rounds (world T adds dels p) (direct bad) (direct s) (direct u₀) (direct x)
  pub additions : Brings (world T adds dels p) true (direct s) (asks up start n) (direct x)
  pub deletions : Brings (world T adds dels p) false (direct x) (asks down at (end - at)) (minus (direct x) (direct bad))

-- A starting fact that a bound of the level lacks.
pub record Stuck (adds dels : Moves) (p : ℕ) (T bad s u₀ : List Bool) : Type 0 where
  pub bound : State
  pub fact : ℕ
  pub rounds : Rounds (world T adds dels p) (direct bad) (direct s) (direct u₀) bound
  pub held : direct s fact ≡ true
  pub missing : bound fact ≡ false

-- Whether a level is settled, how many requests were added, and where the deletions begin: at the end, where it is not.
abbrev pub found_of : Option Ends → Bool
found_of (Some e) = true
found_of None = false

abbrev pub ups_of : Option Ends → ℕ
ups_of (Some e) = e.ups
ups_of None = 0

abbrev pub at_of : Option Ends → ℕ
at_of (Some e) = e.at
at_of None = depot_size

-- What the level comes to, found or not.
pub record Result (adds dels : Moves) (p : ℕ) (T bad s u₀ x : List Bool)
    (start : ℕ) (up₀ up : List ℕ) (end : ℕ) (down₀ down : List ℕ) (ok : Bool) (n at : ℕ) : Type 0 where
  pub found : ok ≡ true → Settled adds dels p T bad s u₀ x start up₀ up n end down₀ down at
  pub none : ok ≡ false → Stuck adds dels p T bad s u₀
