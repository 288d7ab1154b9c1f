-- The rounds of a level end: a round that does not settle it leaves a smaller set allowed.
use mathlib.Core.Path.{◌≡◌, refl, sym, subst, ◌∙◌}
use mathlib.Core.Logic.{◌≢◌}
use mathlib.Core.Bool.{Bool, true, false, true≢false}
use mathlib.Core.List.{List}
use Prim.Native.Nat.{ℕ, ◌-◌, ◌≤◌, ◌<◌}
use native.Mathlib.Omega.{arith}
use lib.ListN.{length}
use Rattle.theory.specs.Inner.Facts.{State, ◌⊆◌}
use Rattle.quantifiers.specs.Quantifiers.{count_below}
use Rattle.theory.proofs.FactLaws.{minus_in, minus_clear, antisym, count_less}
use Rattle.quantifiers.proofs.BelowLaws.{count_mono}
use Rattle.theory.specs.Inner.Plan.{World, AddClosed, BackClosed}
use Rattle.theory.specs.Inner.Sweep.{Added}
use Rattle.theory.proofs.TierLaws.{brings_map}
use Rattle.level.specs.Inner.Moves.{Moves}
use Rattle.shown.specs.Inner.Shown.{direct, Whole}
use Rattle.shown.proofs.ShownLaws.{direct_in}
use Rattle.level.specs.Inner.World.{world}
use Rattle.level.specs.Inner.Notes.{ask_at, asks}
use Rattle.level.specs.Inner.Sweep.{Ready, Closed}
use Rattle.level.specs.Inner.BackSweep.{ReadyBack, ClosedBack}
use Rattle.build.specs.Inner.Build.{Built, Stripped, Copied, Lacks}
use Rattle.build.proofs.BuildLaws.{not_lacking}
use Rattle.level.specs.declared.Draft.{Draft}
use Rattle.level.specs.Inner.Settle.{SameBuffers, SameDraft, Result, Rounded, Rounds, Settled, Lengths, Stuck, again, none_yet}

-- The starting facts' flags, copied, are ready for the additions.
pub ready : {T bad s u x₀ x y d : List Bool} {start : ℕ} {up : List ℕ} {end : ℕ} {down : List ℕ} → Lengths T bad s u x₀ y d start up end down
    → Whole T s → x ≡ s → direct s ⊆ direct u → Ready T u x (length up) start
ready {T} {u = u} {start = start} {up = up} z w e le =
    subst (λ (x : List Bool). Ready T u x (length up) start) (sym e)
    record { whole = w; length_allowed = z.size_u; within = le; room = z.room_up }

-- Flags without the forbidden facts are ready for the deletions.
pub ready_back : {T bad s u x₀ y₀ d₀ x y d : List Bool} {start : ℕ} {up : List ℕ} {end : ℕ} {down : List ℕ}
    → Lengths T bad s u x₀ y₀ d₀ start up end down → Whole T x → Stripped x bad d → Built T d y → ReadyBack T bad x y (length down) end
ready_back z w st b = record { whole = b.whole; length_x = w.size; starts = b.same ∙ st.same; below = z.below; room = z.room_down }

-- What the two sweeps leave is a round.
pub rounded : {adds dels : Moves} {p : ℕ} {T bad s u x₀ y₀ d₀ x₁ x d y : List Bool} {start : ℕ} {up₀ up : List ℕ} {n end : ℕ} {down₀ down : List ℕ} {at : ℕ}
    → Lengths T bad s u x₀ y₀ d₀ start up₀ end down₀ → x₁ ≡ s → Closed adds p T u x₁ x start up₀ up n → Stripped x bad d
    → ClosedBack dels p T bad x y end down₀ down at
    → Rounded adds dels p T bad s u x y d start up₀ up n end down₀ down at
rounded {adds} {dels} {p} {T} {bad} {s} {u} {x = x} {start = start} {up = up} {n = n} z e c st k = record {
  sizes = record {
    rows = z.rows;
    size_bad = z.size_bad;
    size_s = z.size_s;
    size_u = z.size_u;
    size_x = c.whole.size;
    size_y = k.whole.size;
    size_d = st.size;
    room_up = rw c.size z.room_up;
    below = z.below;
    room_down = rw k.size z.room_down;
  };
  length_up = c.size;
  length_down = k.size;
  whole = c.whole;
  few_up = c.few;
  stands_up = c.stands;
  added = subst (λ (v : List Bool). Added (world T adds adds p) (direct v) (direct u) (direct x) (asks up start n)) e c.added;
  add_closed = c.closed;
  down_to = k.down;
  few_down = k.few;
  stands_down = k.stands;
  back = k.back;
  back_closed = k.closed;
}

-- What the loop over the rounds keeps.
pub record Going (adds dels : Moves) (p : ℕ) (T bad s u₀ u x y d : List Bool) (start : ℕ) (up₀ up : List ℕ) (end : ℕ) (down₀ down : List ℕ) : Type 0 where
  pub sizes : Lengths T bad s u x y d start up end down
  pub length_up : length up ≡ length up₀
  pub length_down : length down ≡ length down₀
  pub within : direct s ⊆ direct u
  pub rounds : Rounds (world T adds dels p) (direct bad) (direct s) (direct u₀) (direct u)
  pub stands_up : (k : ℕ) → k < start → ask_at up k ≡ ask_at up₀ k
  pub stands_down : (k : ℕ) → end ≤ k → ask_at down k ≡ ask_at down₀ k

-- Before the first round.
pub going_first : (adds dels : Moves) (p : ℕ) {T bad s u x y d : List Bool} {start : ℕ} {up : List ℕ} {end : ℕ} {down : List ℕ}
    → Lengths T bad s u x y d start up end down → direct s ⊆ direct u → Going adds dels p T bad s u u x y d start up up end down down
going_first adds dels p z le = record {
  sizes = z;
  length_up = refl;
  length_down = refl;
  within = le;
  rounds = none_yet;
  stands_up = λ k l. refl;
  stands_down = λ k l. refl;
}

module _ {adds dels : Moves} {p : ℕ} {T bad s u₀ u x₀ y₀ d₀ x y d : List Bool} {start : ℕ} {up₀ up₁ up : List ℕ} {n end : ℕ}
    {down₀ down₁ down : List ℕ} {at : ℕ}
    (g : Going adds dels p T bad s u₀ u x₀ y₀ d₀ start up₀ up₁ end down₀ down₁) (r : Rounded adds dels p T bad s u x y d start up₁ up n end down₁ down at) where
  W : World
  W = world T adds dels p

  next : Rounds (world T adds dels p) (direct bad) (direct s) (direct u₀) (direct y)
  next = again g.rounds r.added.from (record { add = r.add_closed.add }) (record { good = r.back_closed.good; back = r.back_closed.back })

  -- A round after which nothing is lacking settles the level.
  pub settled : {i : ℕ} → Lacks x y i → i ≡ 160 → Settled adds dels p T bad s u₀ x start up₀ up n end down₀ down at
  settled w e =
      let q : direct y ≡ direct x = antisym r.back.within (λ f h. not_lacking w f (omega (arith, direct_in x f h)) h) in
      record {
        whole = r.whole;
        few_up = r.few_up;
        stands_up = λ k l. r.stands_up k l ∙ g.stands_up k l;
        few_down = r.few_down;
        down_to = r.down_to;
        stands_down = λ k l. r.stands_down k l ∙ g.stands_down k l;
        grown = r.added.from;
        rounds = rw q at next;
        additions = brings_map (world T adds adds p) (world T adds dels p) (λ S a m. m) (asks up start n) r.added.brings;
        deletions = brings_map (world T dels dels p) (world T adds dels p) (λ S a m. m) (asks down at (end - at)) (rw q at r.back.brings);
      }

  -- A round after which a starting fact is lacking.
  pub stuck : {i : ℕ} → Lacks s y i → i < 160 → Stuck adds dels p T bad s u₀
  stuck {i} w l = record {
    bound = direct y;
    fact = i;
    rounds = next;
    held = minus_in (direct s) (direct y) i (w.here l);
    missing = minus_clear (direct s) (direct y) i (w.here l);
  }

  -- Any other round goes on with less allowed.
  pub go_on : {i : ℕ} {v : List Bool} → Lacks s y i → 160 ≤ i → Copied y v → Going adds dels p T bad s u₀ v x y d start up₀ up end down₀ down
  go_on {i} {v} w l k = record {
    sizes = record {
      rows = r.sizes.rows;
      size_bad = r.sizes.size_bad;
      size_s = r.sizes.size_s;
      size_u = k.size;
      size_x = r.sizes.size_x;
      size_y = r.sizes.size_y;
      size_d = r.sizes.size_d;
      room_up = r.sizes.room_up;
      below = r.sizes.below;
      room_down = r.sizes.room_down;
    };
    length_up = r.length_up ∙ g.length_up;
    length_down = r.length_down ∙ g.length_down;
    within = rw k.same (λ f h. not_lacking w f (omega (arith, direct_in s f h)) h);
    rounds = rw k.same next;
    stands_up = λ j h. r.stands_up j h ∙ g.stands_up j h;
    stands_down = λ j h. r.stands_down j h ∙ g.stands_down j h;
  }

  -- The set allowed is smaller after a round.
  pub smaller : {i : ℕ} {v : List Bool} → Lacks x y i → i ≢ 160 → Copied y v → count_below (direct v) 160 < count_below (direct u) 160
  smaller {i} w h k =
      let l : i < 160 = omega (arith, w.fits) in
      let in-x : direct x i ≡ true = minus_in (direct x) (direct y) i (w.here l) in
      let not-in-y : direct y i ≡ false = minus_clear (direct x) (direct y) i (w.here l) in
      rw k.same (omega (arith, count_less r.back.within l in-x not-in-y, count_mono r.added.within 160))

module _ {W : World} {bad s u₀ : State} (J : State → Type 0) (keeps : (u x y : State) → J u → s ⊆ x → AddClosed W u x → BackClosed W bad x y → J y) where
  -- Any claim that a round keeps holds of what the rounds come to.
  pub rounds_keep : {u : State} → Rounds W bad s u₀ u → J u₀ → J u
  rounds_keep none_yet j = j
  rounds_keep (again {u} {x} {y} r le a b) j = keeps u x y (rounds_keep r j) le a b

-- A settled level is a result.
pub result_found : {adds dels : Moves} {p : ℕ} {T bad s u₀ x : List Bool} {start : ℕ} {up₀ up : List ℕ} {n end : ℕ} {down₀ down : List ℕ} {at : ℕ}
    → Settled adds dels p T bad s u₀ x start up₀ up n end down₀ down at → Result adds dels p T bad s u₀ x start up₀ up end down₀ down true n at
result_found r = record { found = λ _. r; none = λ e. absurd (true≢false e) }

-- So is a starting fact that is lacking.
pub result_none : {adds dels : Moves} {p : ℕ} {T bad s u₀ : List Bool} (x : List Bool) (start : ℕ) (up₀ up : List ℕ) (n end : ℕ) (down₀ down : List ℕ) (at : ℕ)
    → Stuck adds dels p T bad s u₀ → Result adds dels p T bad s u₀ x start up₀ up end down₀ down false n at
result_none x start up₀ up n end down₀ down at r = record { found = λ e. absurd (true≢false (sym e)); none = λ _. r }

-- The buffers are the same over two calls, and so is the plan.
pub buffers_on : {a b c : Draft} → SameBuffers a b → SameBuffers b c → SameBuffers a c
buffers_on s t =
    record { up = t.up ∙ s.up; down = t.down ∙ s.down; length_up = t.length_up ∙ s.length_up; length_down = t.length_down ∙ s.length_down }

pub draft_on : {a b c : Draft} → SameDraft a b → SameDraft b c → SameDraft a c
draft_on s t = record { buffers = buffers_on s.buffers t.buffers; ends = t.ends ∙ s.ends }

-- No call has been made.
pub draft_first : {a : Draft} → SameDraft a a
draft_first = record { buffers = record { up = refl; down = refl; length_up = refl; length_down = refl }; ends = refl }
