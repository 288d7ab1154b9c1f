-- The sweep that puts deletions back goes as the other does; a deletion is tested with its own fact put in.
use mathlib.Core.Path.{◌≡◌, refl, sym, ap, subst, ◌∙◌}
use mathlib.Core.Bool.{Bool, true, false, ◌||◌}
use mathlib.Core.List.{List}
use Prim.Native.Nat.{ℕ, ◌+◌, ◌-◌, ◌≤◌, ◌<◌}
use native.Mathlib.Omega.{arith}
use lib.ListN.{length, get_or}
use Rattle.theory.specs.Inner.Facts.{update}
use Rattle.quantifiers.proofs.BelowLaws.{count_le}
use Rattle.theory.specs.Inner.Plan.{Ask}
use Rattle.theory.proofs.PlanLaws.{deletions_count}
use Rattle.theory.specs.Inner.Sweep.{PutBack}
use Rattle.theory.proofs.SweepLaws.{back_none, back_more, back_room}
use Rattle.shown.specs.Inner.Shown.{direct, Whole, Put, touches}
use Rattle.shown.proofs.ShownLaws.{visible-put, direct_low, put-direct, put_whole}
use Rattle.level.specs.Inner.Moves.{Moves, places_of, move_shown, flags_with, Fine, Sound, move_from, move_at, ask_of}
use Rattle.quantifiers.specs.Quantifiers.{all}
use Rattle.level.specs.Inner.World.{world}
use Rattle.level.proofs.WorldLaws.{world_lawful}
use Rattle.level.proofs.MoveLaws.{move_shown_flags, fact_stands}
use Rattle.level.specs.Inner.Notes.{ask_at, asks, Noted}
use Rattle.level.proofs.NoteLaws.{asks-length, asks-front}
use Rattle.level.proofs.TurnLaws.{Sweeping}
use Rattle.level.proofs.SweepLaws.{listed_fine, all_three, first_of_three}
use Rattle.level.specs.declared.Move.{Move}
use Rattle.level.specs.Inner.BackSweep.{ClosedBack, ReadyBack, backs_in}

-- What the sweep keeps: the requests noted lead from `y` down to what of `x` is not forbidden, and those behind them stand.
pub record KeptBack (ms : Moves) (p : ℕ) (T bad x y : List Bool) (end : ℕ) (out₀ out : List ℕ) (at : ℕ) : Type 0 where
  pub whole : Whole T y
  pub size : length out ≡ length out₀
  pub down : at ≤ end
  pub stands : (k : ℕ) → end ≤ k → ask_at out k ≡ ask_at out₀ k
  pub back : PutBack (world T ms ms p) (direct bad) (direct x) (direct y) (asks out at (end - at))

-- Where it stands.
abbrev pub Backing : (ms : Moves) (T x y : List Bool) (size tried i quiet : ℕ) → Type 0
Backing ms T x y = Sweeping ms.count (λ j. backs_in (move_at ms j) T x y)

-- Flags with a fact put in meet a move where the direct facts with that fact do.
pub flags_with_lem : {T x : List Bool} {m : Move} → Whole T x → Fine m → flags_with m T x ≡ move_shown T (update (direct x) m.fact true) m
unfolding flags_with
flags_with_lem {T} {x} {m} w f = move_shown_flags T (update (direct x) m.fact true) (λ k. get_or x k false || touches T m.fact k) f
    (λ k l. ap (λ b. b || touches T m.fact k) (w.shows k l) ∙ sym (visible-put T (direct x) m.fact k f.fact))

-- Whether its terms hold, by the fact as it was read where the move stands.
pub with_read : (xs : List ℕ) (at : ℕ) {f : ℕ} (T x : List Bool) → f ≡ get_or xs at 0
    → flags_with (move_from xs at) T x ≡ all (λ k. get_or x k false || touches T f k) (places_of (move_from xs at))
unfolding flags_with
with_read xs at T x e = rw (e, fact_stands xs at) refl

-- What is put back is lacking.
pub backs_new : (m : Move) (T x y : List Bool) → Fine m → backs_in m T x y ≡ true → direct y m.fact ≡ false
unfolding backs_in
backs_new m T x y f e = direct_low y m.fact f.fact ∙ (all_three (get_or y m.fact false) (get_or x m.fact false) (flags_with m T y) e).0

-- What is put back is one of `x`.
pub backs_in_lem : (m : Move) (T x y : List Bool) → Fine m → backs_in m T x y ≡ true → direct x m.fact ≡ true
unfolding backs_in
backs_in_lem m T x y f e = direct_low x m.fact f.fact ∙ (all_three (get_or y m.fact false) (get_or x m.fact false) (flags_with m T y) e).1

-- What is put back may be deleted again.
pub backs_met : (m : Move) (x : List Bool) {T y : List Bool} → Whole T y → Fine m → backs_in m T x y ≡ true
    → move_shown T (update (direct y) m.fact true) m ≡ true
unfolding backs_in
backs_met m x {T} {y} w f e = sym (flags_with_lem w f) ∙ (all_three (get_or y m.fact false) (get_or x m.fact false) (flags_with m T y) e).2

-- A move that does not fire puts nothing back.
pub backs_none : (m : Move) (x : List Bool) {T y : List Bool} → Whole T y → Fine m → backs_in m T x y ≡ false → direct x m.fact ≡ true
    → move_shown T (update (direct y) m.fact true) m ≡ true → direct y m.fact ≡ true
unfolding backs_in
backs_none m x {T} {y} w f e u h =
    direct_low y m.fact f.fact
    ∙ first_of_three (get_or y m.fact false) (get_or x m.fact false) (flags_with m T y) e (sym (direct_low x m.fact f.fact) ∙ u) (flags_with_lem w f ∙ h)

-- The invariant before the first move.
pub back_first : (ms : Moves) (p : ℕ) {T bad x y : List Bool} {size end : ℕ} (out : List ℕ) → ReadyBack T bad x y size end
    → KeptBack ms p T bad x y end out out end
unfolding asks
back_first ms p {T} {bad} {x} {y} {size} {end} out r =
    let e : end - end ≡ 0 = omega arith in
    record {
      whole = r.whole;
      size = refl;
      down = omega arith;
      stands = λ k l. refl;
      back = rw (e, r.starts) (back_none (world T ms ms p));
    }

module _ {ms : Moves} {p : ℕ} {T bad x y : List Bool} {end : ℕ} {out₀ out : List ℕ} {at : ℕ}
    (k : KeptBack ms p T bad x y end out₀ out at) (sound : Sound ms) where
  -- Where a move fires there is room for its request.
  pub back_left : {i : ℕ} {r : Bool} → i < ms.count → r ≡ backs_in (move_at ms i) T x y → r ≡ true → end < at + 160
  back_left {i} l t h =
      let f = sound.fine i l in
      omega (
        arith,
        back_room (world_lawful T ms ms p) k.back f.fact (backs_new (move_at ms i) T x y f (sym t ∙ h)),
        asks-length out at (end - at),
        k.down,
      )

  -- A move that fires keeps the invariant.
  pub back_add : {m : Move} {i : ℕ} {r : Bool} {z : List Bool} {out' : List ℕ} → 160 ≤ end → i < ms.count → r ≡ backs_in (move_at ms i) T x y → r ≡ true
      → m ≡ move_at ms i → Put T y m.fact z → Noted out (at - 1) (ask_of p m) out' → KeptBack ms p T bad x z end out₀ out' (at - 1)
  back_add {m} {i} high l t h same pz w =
      let e : backs_in m T x y ≡ true = rw same (sym t ∙ h) in
      let f = listed_fine sound l same in
      let left = back_left l t h in
      let holds = subst (λ (o : Move). move_shown T (update (direct y) m.fact true) o ≡ true) same (backs_met m x k.whole f e) in
      let n₁ : end - (at - 1) ≡ (end - at) + 1 = omega (arith, k.down) in
      let n₂ : (at - 1) + 1 ≡ at = omega arith in
      record {
        whole = put_whole k.whole pz f.fact;
        size = w.size ∙ k.size;
        down = omega (arith, k.down);
        stands = λ j g. w.there j (omega (arith, k.down)) ∙ k.stands j g;
        back = rw (n₁, asks-front (end - at) w, n₂, put-direct pz f.fact)
            (back_more (world T ms ms p) (ask_of p m) (backs_new m T x y f e) (backs_in_lem m T x y f e)
            (record { index = i; listed = l; same = ap (ask_of p) same; holds = holds; known = f.fact }) k.back);
      }

  -- When no move fires the sweep is closed.
  pub back_closed : ((j : ℕ) → j < ms.count → backs_in (move_at ms j) T x y ≡ false) → ClosedBack ms p T bad x y end out₀ out at
  back_closed still = record {
    whole = k.whole;
    size = k.size;
    down = k.down;
    stands = k.stands;
    few = omega (
      arith,
      deletions_count (world_lawful T ms ms p) (direct y) (asks out at (end - at)) k.back.brings.runs,
      asks-length out at (end - at),
      count_le (direct y) 160,
    );
    back = k.back;
    closed = record {
      good = λ f u e. k.back.from f (rw (u, e));
      back = λ q u m. subst (λ (a : Ask). direct y a.fact ≡ true) (sym m.same)
          (backs_none (move_at ms m.index) x k.whole (sound.fine m.index m.listed) (still m.index m.listed)
          (subst (λ (a : Ask). direct x a.fact ≡ true) m.same u)
          (subst (λ (a : Ask). move_shown T (update (direct y) a.fact true) (move_at ms m.index) ≡ true) m.same m.holds));
    };
  }
