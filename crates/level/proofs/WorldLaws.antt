-- Monotony, which makes a level's world lawful: more facts show no less, and meet no fewer moves.
use mathlib.Core.Path.{◌≡◌}
use mathlib.Core.Bool.{Bool, true, false, cond, ◌&&◌, ◌||◌}
use mathlib.Core.List.{List}
use Prim.Native.Nat.{ℕ, ◌+◌, ◌-◌, ◌<◌}
use lib.Dec.{ltb}
use Rattle.quantifiers.specs.Quantifiers.{any_below}
use Rattle.quantifiers.proofs.BoolLaws.{and_both, and_from, or_either, or_left, or_right}
use Rattle.quantifiers.proofs.ListLaws.{all_mono}
use Rattle.quantifiers.proofs.BelowLaws.{any_below_mono}
use Rattle.theory.specs.Inner.Facts.{State, ◌⊆◌}
use Rattle.theory.specs.Inner.Plan.{Ask, Req, req, Lawful}
use Rattle.level.specs.declared.Move.{Move}
use Rattle.shown.specs.Inner.Shown.{row, inherited, visible, visible_fact}
use Rattle.shown.proofs.ExtendedLaws.{extended_mono}
use Rattle.level.specs.Inner.Moves.{Moves, move_at, places_of, move_shown}
use Rattle.level.specs.Inner.World.{Some, world}

module _ (T : List Bool) {S Z : State} (le : S ⊆ Z) where
  -- What crew c hands on to a member.
  handed : State → ℕ → ℕ → Bool
  handed X f c = X (128 + c) && row T c f

  -- More facts inherit no less.
  pub inherited_mono : (f : ℕ) → inherited T S f ≡ true → inherited T Z f ≡ true
  unfolding inherited handed
  inherited_mono f e =
      or_either (row T 32 f) (any_below (handed S f) 32) e
      (λ l. or_left (row T 32 f) (any_below (handed Z f) 32) l)
      (λ r. or_right (row T 32 f) (any_below (handed Z f) 32) (any_below_mono (handed S f) (handed Z f) 32 more r))
    where
      more : (c : ℕ) → c < 32 → handed S f c ≡ true → handed Z f c ≡ true
      more c h e = let both = and_both (S (128 + c)) (row T c f) e in and_from (Z (128 + c)) (row T c f) (le (128 + c) both.0) both.1

  -- More facts show no less.
  visible_fact_mono : (k : ℕ) → visible_fact T S k ≡ true → visible_fact T Z k ≡ true
  unfolding visible_fact
  visible_fact_mono k = go (ltb k 160)
    where
      go : (b : Bool) → cond b (S k) (S (k - 160) || inherited T S (k - 160)) ≡ true → cond b (Z k) (Z (k - 160) || inherited T Z (k - 160)) ≡ true
      go true e = le k e
      go false e = or_either (S (k - 160)) (inherited T S (k - 160)) e
          (λ l. or_left (Z (k - 160)) (inherited T Z (k - 160)) (le (k - 160) l))
          (λ r. or_right (Z (k - 160)) (inherited T Z (k - 160)) (inherited_mono (k - 160) r))

  pub visible_mono : (k : ℕ) → visible T S k ≡ true → visible T Z k ≡ true
  unfolding visible
  visible_mono k = extended_mono (visible_fact T S) (visible_fact T Z) visible_fact_mono k

  -- More facts meet no fewer moves.
  pub move_shown_mono : (m : Move) → move_shown T S m ≡ true → move_shown T Z m ≡ true
  unfolding move_shown
  move_shown_mono m e = all_mono (visible T S) (visible T Z) (places_of m) visible_mono e

  -- More facts permit no fewer requests.
  some_mono : (ms : Moves) (p : ℕ) (q : Ask) → Some T ms p S q → Some T ms p Z q
  some_mono ms p q m =
      record { index = m.index; listed = m.listed; same = m.same; holds = move_shown_mono (move_at ms m.index) m.holds; known = m.known }

-- The world of a level is lawful.
pub world_lawful : (T : List Bool) (adds dels : Moves) (p : ℕ) → Lawful (world T adds dels p)
world_lawful T adds dels p = record { mono = more; known = in-F }
  where
    more : {S Z : State} (r : Req) → S ⊆ Z → (world T adds dels p).May S r → (world T adds dels p).May Z r
    more (req true q) le m = some_mono T le adds p q m
    more (req false q) le m = some_mono T le dels p q m

    in-F : (S : State) (b : Bool) (q : Ask) → (world T adds dels p).May S (req b q) → q.fact < 160
    in-F S true q m = m.known
    in-F S false q m = m.known
