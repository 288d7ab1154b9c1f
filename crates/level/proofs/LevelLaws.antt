-- Laws of one level within the whole: what brings a state to another, what is closed and what bounds at the level does so in the whole.
use mathlib.Core.Path.{◌≡◌, sym, ap, subst, fun_ext, ◌∙◌}
use mathlib.Core.Logic.{◌≢◌, by_cases}
use mathlib.Core.Bool.{Bool, true, false}
use mathlib.Core.List.{List, [], ◌∷◌, map}
use Prim.Native.Nat.{ℕ, ◌+◌, ◌*◌, ◌/◌, ◌%◌, ◌<◌}
use native.Mathlib.Decide.{ℕ_discrete}
use native.Mathlib.Omega.{arith}
use borrow.Author.Tests.{eq-eqb, ne_eqb}
use Rattle.theory.specs.Inner.Facts.{State, ◌⊆◌, update, Clear}
use Rattle.theory.proofs.FactLaws.{update_same, update_other, at}
use Rattle.theory.specs.Inner.Plan.{Ask, Req, req, Runs, end, World, Lawful, Brings, AddClosed, BackClosed, Bounds}
use Rattle.theory.proofs.PlanLaws.{brings_none, step_first, bounds-round, start_outside}
use Rattle.level.specs.Inner.Settle.{Rounds}
use Rattle.level.proofs.SettleLaws.{rounds_keep}
use Rattle.level.proofs.Levels.{Within, on_level, to_whole, to_level}

module _ (k : ℕ) (R : State) where
  -- At the level it is `S`.
  pub on_level_in : (S : State) (g : ℕ) → g / 160 ≡ k → on_level k R S g ≡ S (g % 160)
  unfolding on_level
  on_level_in S g e = rw (eq-eqb (g / 160) k e)

  -- At the other levels it is `R`.
  pub on_level_out : (S : State) (g : ℕ) → g / 160 ≢ k → on_level k R S g ≡ R g
  unfolding on_level
  on_level_out S g e = rw (ne_eqb (g / 160) k e)

  -- At a fact of the level it is `S`.
  pub on_level_at : (S : State) (f : ℕ) → f < 160 → on_level k R S (160 * k + f) ≡ S f
  on_level_at S f h = on_level_in S (160 * k + f) (omega arith) ∙ ap S (rest f h)
    where
      rest : (f : ℕ) → f < 160 → (160 * k + f) % 160 ≡ f
      rest f h = omega arith

  -- To set a fact of the level.
  pub on_level_put : (S : State) (f : ℕ) (b : Bool) → f < 160 → update (on_level k R S) (160 * k + f) b ≡ on_level k R (update S f b)
  on_level_put S f b h = fun_ext λ g. at (λ g. update (on_level k R S) (160 * k + f) b g ≡ on_level k R (update S f b) g) (160 * k + f) g
      (update_same (on_level k R S) (160 * k + f) b ∙ sym (on_level_at (update S f b) f h ∙ update_same S f b))
      (λ n. update_other (on_level k R S) (160 * k + f) b n ∙ by_cases (ℕ_discrete (g / 160) k)
      (λ e. on_level_in S g e ∙ sym (on_level_in (update S f b) g e ∙ update_other S f b (apart g n e)))
      (λ e. on_level_out S g e ∙ sym (on_level_out (update S f b) g e)))
    where
      apart : (g : ℕ) → g ≢ 160 * k + f → g / 160 ≡ k → g % 160 ≢ f
      apart g n e q = n (omega arith)

module _ {W Z : World} {k : ℕ} {R : State} (w : Within W Z k R) where
  -- What brings a state to another at the level does so in the whole.
  pub embed : {b : Bool} (xs : List Ask) {S T : State} → Brings Z b S xs T → Brings W b (on_level k R S) (map (to_whole k) xs) (on_level k R T)
  embed [] l = rw l.ends (brings_none W)
  embed {b} (q ∷ qs) {S} l =
      let h : q.fact < 160 = w.known S b q l.runs.0.may in
      step_first W (on_level_at k R S q.fact h ∙ l.runs.0.new) (w.into S b q l.runs.0.may)
      (rw (on_level_put k R S q.fact b h) (embed qs (record { runs = l.runs.1; ends = l.ends })))

  -- Additions closed at the level are closed in the whole.
  pub add_whole : {u x : State} → AddClosed Z u x → AddClosed W (on_level k R u) (on_level k R x)
  add_whole {u} {x} c = record {
    add = λ q h m. by_cases (ℕ_discrete (q.fact / 160) k)
        (λ e. on_level_in k R x q.fact e ∙ c.add (to_level q) (sym (on_level_in k R u q.fact e) ∙ h) (w.out x true q e m))
        (λ e. on_level_out k R x q.fact e ∙ sym (on_level_out k R u q.fact e) ∙ h);
  }

  module _ (lawful : Lawful W) (bad bad-here : State) (same-bad : (f : ℕ) → f < 160 → bad-here f ≡ bad (160 * k + f)) where
    -- Deletions closed backwards at the level are so in the whole.
    pub back_whole : {x y : State} → BackClosed Z bad-here x y → BackClosed W bad (on_level k R x) (on_level k R y)
    back_whole {x} {y} c = record {
      good = λ g h n. by_cases (ℕ_discrete (g / 160) k)
          (λ e. on_level_in k R y g e ∙ c.good (g % 160) (sym (on_level_in k R x g e) ∙ h) (same-bad (g % 160) (omega arith) ∙ ap bad (place g e) ∙ n))
          (λ e. on_level_out k R y g e ∙ sym (on_level_out k R x g e) ∙ h);
      back = λ q h m. by_cases (ℕ_discrete (q.fact / 160) k)
          (λ e. on_level_in k R y q.fact e ∙ c.back (to_level q) (sym (on_level_in k R x q.fact e) ∙ h)
          (w.out (update y (q.fact % 160) true) false q e (subst (λ (S : State). W.May S (req false q)) (whole q e) m)))
          (λ e. on_level_out k R y q.fact e ∙ sym (on_level_out k R x q.fact e) ∙ h);
    }
      where
        place : (g : ℕ) → g / 160 ≡ k → 160 * k + g % 160 ≡ g
        place g e = omega arith

        whole : (q : Ask) → q.fact / 160 ≡ k → update (on_level k R y) q.fact true ≡ on_level k R (update y (q.fact % 160) true)
        whole q e = ap (λ g. update (on_level k R y) g true) (sym (place q.fact e)) ∙ on_level_put k R y (q.fact % 160) true (omega arith)

    module _ (S₀ s : State) (here : (f : ℕ) → S₀ (160 * k + f % 160) ≡ true → s (f % 160) ≡ true)
        (there : (g : ℕ) → g / 160 ≢ k → S₀ g ≡ true → R g ≡ true) where
      starts : (x : State) → s ⊆ x → S₀ ⊆ on_level k R x
      starts x le g h = by_cases (ℕ_discrete (g / 160) k)
          (λ e. on_level_in k R x g e ∙ le (g % 160) (here g (ap S₀ (place g e) ∙ h)))
          (λ e. on_level_out k R x g e ∙ there g e h)
        where
          place : (g : ℕ) → g / 160 ≡ k → 160 * k + g % 160 ≡ g
          place g e = omega arith

      -- The rounds of a level keep the whole's bound.
      pub rounds-bound : {u₀ u : State} → Rounds Z bad-here s u₀ u → Bounds W bad S₀ (on_level k R u₀) → Bounds W bad S₀ (on_level k R u)
      rounds-bound r h = rounds_keep (λ u. Bounds W bad S₀ (on_level k R u))
          (λ u x y j le a b. bounds-round lawful bad S₀ (starts x le) (add_whole a) (back_whole b) j) r h

      -- Where a bound of the level lacks a starting fact, no chain ends clear.
      pub stuck-none : {u₀ u : State} (f : ℕ) → f < 160 → S₀ (160 * k + f) ≡ true → u f ≡ false → Rounds Z bad-here s u₀ u → Bounds W bad S₀ (on_level k R u₀)
          → (rs : List Req) → Runs W.May S₀ rs → Clear bad (end S₀ rs) → ⊥
      stuck-none {u₀} {u} f l h e r j = start_outside W bad S₀ (160 * k + f) h (on_level_at k R u f l ∙ e) (rounds-bound r j)
