-- The sweep of the additions. Its invariant says that the requests noted lead to the facts put in; when no move fires, no addition is left.
use mathlib.Core.Path.{◌≡◌, refl, sym, ap, subst, ◌∙◌}
use mathlib.Core.Bool.{Bool, true, false, not, ◌&&◌}
use mathlib.Core.List.{List}
use Prim.Native.Nat.{ℕ, ◌+◌, ◌<◌}
use native.Mathlib.Omega.{arith}
use lib.ListN.{length, get_or}
use Rattle.quantifiers.proofs.BelowLaws.{count_le}
use Rattle.theory.specs.Inner.Plan.{Ask}
use Rattle.theory.specs.Inner.Sweep.{Added}
use Rattle.theory.proofs.SweepLaws.{add_none, add_more, added_room, added_count}
use Rattle.shown.specs.Inner.Shown.{direct, Whole, Put}
use Rattle.shown.proofs.ShownLaws.{direct_low, put-direct, put_whole}
use Rattle.level.specs.Inner.Moves.{Moves, move_shown, flags_met, Fine, Sound, move_at, ask_of}
use Rattle.level.specs.Inner.World.{world}
use Rattle.level.proofs.WorldLaws.{world_lawful}
use Rattle.level.proofs.MoveLaws.{move_shown_flags}
use Rattle.level.specs.Inner.Notes.{ask_at, asks, Noted}
use Rattle.level.proofs.NoteLaws.{asks-length, asks_more}
use Rattle.level.specs.declared.Move.{Move}
use Rattle.level.specs.Inner.Sweep.{Closed, Ready, fires_in}
use Rattle.level.proofs.TurnLaws.{Sweeping}

-- What the sweep of the additions keeps: the requests noted lead from `x₀` to `x` within `allowed`, and those before them stand.
pub record Kept (ms : Moves) (p : ℕ) (T allowed x₀ x : List Bool) (start : ℕ) (out₀ out : List ℕ) (n : ℕ) : Type 0 where
  pub whole : Whole T x
  pub size : length out ≡ length out₀
  pub stands : (k : ℕ) → k < start → ask_at out k ≡ ask_at out₀ k
  pub added : Added (world T ms ms p) (direct x₀) (direct allowed) (direct x) (asks out start n)

-- Where it stands.
abbrev pub Adding : (ms : Moves) (allowed x : List Bool) (size tried i quiet : ℕ) → Type 0
Adding ms allowed x = Sweeping ms.count (λ j. fires_in (move_at ms j) allowed x)

-- All three parts of the test.
pub all_three : (a b c : Bool) → not a && (b && c) ≡ true → (a ≡ false) × (b ≡ true) × (c ≡ true)
all_three false true c e = (refl, refl, e)
all_three false false c e = (refl, e, cc)
all_three true b c e = (sym e, cc, cc)

-- Where the test fails for its first part alone.
pub first_of_three : (a b c : Bool) → not a && (b && c) ≡ false → b ≡ true → c ≡ true → a ≡ true
first_of_three true b c e p q = refl
first_of_three false b c e p q = sym (rw (p, q) at e)

-- Flags that are met are facts that meet.
pub flags_met_lem : {T x : List Bool} {m : Move} → Whole T x → Fine m → flags_met m x ≡ move_shown T (direct x) m
unfolding flags_met
flags_met_lem {T} {x} {m} w f = move_shown_flags T (direct x) (λ k. get_or x k false) f w.shows

-- A move that fires adds a fact that is lacking.
pub fires_new : (m : Move) (allowed x : List Bool) → Fine m → fires_in m allowed x ≡ true → direct x m.fact ≡ false
unfolding fires_in
fires_new m allowed x f e = direct_low x m.fact f.fact ∙ (all_three (get_or x m.fact false) (get_or allowed m.fact false) (flags_met m x) e).0

-- A move that fires adds a fact that is allowed.
pub fires_allowed : (m : Move) (allowed x : List Bool) → Fine m → fires_in m allowed x ≡ true → direct allowed m.fact ≡ true
unfolding fires_in
fires_allowed m allowed x f e = direct_low allowed m.fact f.fact ∙ (all_three (get_or x m.fact false) (get_or allowed m.fact false) (flags_met m x) e).1

-- A move that fires is permitted.
pub fires_met : (m : Move) (allowed : List Bool) {T x : List Bool} → Whole T x → Fine m → fires_in m allowed x ≡ true → move_shown T (direct x) m ≡ true
unfolding fires_in
fires_met m allowed {T} {x} w f e = sym (flags_met_lem w f) ∙ (all_three (get_or x m.fact false) (get_or allowed m.fact false) (flags_met m x) e).2

-- A move that does not fire adds nothing that is allowed and lacking.
pub fires_none : (m : Move) (allowed : List Bool) {T x : List Bool} → Whole T x → Fine m → fires_in m allowed x ≡ false
    → direct allowed m.fact ≡ true → move_shown T (direct x) m ≡ true → direct x m.fact ≡ true
unfolding fires_in
fires_none m allowed {T} {x} w f e u h =
    direct_low x m.fact f.fact
    ∙ first_of_three (get_or x m.fact false) (get_or allowed m.fact false) (flags_met m x) e (sym (direct_low allowed m.fact f.fact) ∙ u)
    (flags_met_lem w f ∙ h)

-- The invariant before the first move.
pub kept_first : (ms : Moves) (p : ℕ) {T allowed x : List Bool} {size start : ℕ} (out : List ℕ) → Ready T allowed x size start
    → Kept ms p T allowed x x start out out 0
unfolding asks
kept_first ms p out r = record {
  whole = r.whole;
  size = refl;
  stands = λ k l. refl;
  added = add_none (world _ ms ms p) r.within;
}

-- A move of the list is fine.
pub listed_fine : {ms : Moves} {m : Move} {i : ℕ} → Sound ms → i < ms.count → m ≡ move_at ms i → Fine m
listed_fine {ms} {m} {i} sound l same = rw same (sound.fine i l)

module _ {ms : Moves} {p : ℕ} {T allowed x₀ x : List Bool} {start : ℕ} {out₀ out : List ℕ} {n : ℕ}
    (k : Kept ms p T allowed x₀ x start out₀ out n) (sound : Sound ms) where
  -- Where a move fires there is room for its request.
  pub room_left : {i : ℕ} {r : Bool} → i < ms.count → r ≡ fires_in (move_at ms i) allowed x → r ≡ true → n < 160
  room_left {i} l t y =
      let f = sound.fine i l in
      omega (arith, added_room (world_lawful T ms ms p) k.added f.fact (fires_new (move_at ms i) allowed x f (sym t ∙ y)), asks-length out start n)

  -- A move that fires keeps the invariant.
  pub kept_add : {m : Move} {i : ℕ} {r : Bool} {z : List Bool} {out' : List ℕ} → i < ms.count → r ≡ fires_in (move_at ms i) allowed x → r ≡ true
      → m ≡ move_at ms i → Put T x m.fact z → Noted out (start + n) (ask_of p m) out' → Kept ms p T allowed x₀ z start out₀ out' (n + 1)
  kept_add {m} {i} l t y same pz w =
      let e : fires_in m allowed x ≡ true = rw same (sym t ∙ y) in
      let f = listed_fine sound l same in
      record {
        whole = put_whole k.whole pz f.fact;
        size = w.size ∙ k.size;
        stands = λ j h. w.there j (omega arith) ∙ k.stands j h;
        added = rw (asks_more start n w, put-direct pz f.fact)
            (add_more (world T ms ms p) {q = ask_of p m} (fires_new m allowed x f e) (fires_allowed m allowed x f e)
            (record { index = i; listed = l; same = ap (ask_of p) same; holds = rw same at (fires_met m allowed k.whole f e); known = f.fact })
            k.added);
      }

  -- When no move fires the sweep is closed.
  pub kept_closed : ((j : ℕ) → j < ms.count → fires_in (move_at ms j) allowed x ≡ false) → Closed ms p T allowed x₀ x start out₀ out n
  kept_closed still = record {
    whole = k.whole;
    size = k.size;
    stands = k.stands;
    few = omega (arith, added_count (world_lawful T ms ms p) k.added, asks-length out start n, count_le (direct x) 160);
    added = k.added;
    closed = record {
      add = λ q u m. subst (λ (a : Ask). direct x a.fact ≡ true) (sym m.same)
          (fires_none (move_at ms m.index) allowed k.whole (sound.fine m.index m.listed) (still m.index m.listed)
          (subst (λ (a : Ask). direct allowed a.fact ≡ true) m.same u) m.holds);
    };
  }
