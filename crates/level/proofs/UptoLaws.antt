-- From level to level: nothing is settled at first, a settled level carries it on, and after the last level there is the best plan.
use mathlib.Core.Path.{◌≡◌, refl, sym, ap, subst, fun_ext, ◌∙◌}
use mathlib.Core.Logic.{by_cases}
use mathlib.Core.Bool.{Bool, true, false, not, ◌&&◌, true≢false}
use mathlib.Core.List.{List, [], ◌∷◌, ◌++◌, map}
use Prim.Native.Nat.{ℕ, suc, ◌+◌, ◌*◌, ◌/◌, ◌%◌, ◌≤◌, ◌<◌}
use native.Mathlib.Decide.{ℕ_discrete, dec_lt}
use native.Mathlib.Omega.{arith}
use Rattle.theory.specs.Inner.Facts.{State, ◌⊆◌, minus}
use Rattle.theory.specs.Inner.Plan.{Ask, World, end, add_then_delete, Lawful, Brings, Bounds, Best, Good}
use Rattle.theory.proofs.PlanLaws.{good-ends, bounds-best}
use Rattle.theory.specs.Inner.Tiers.{Local, All, below, only}
use Rattle.theory.proofs.TierLaws.{below_same, only_here, only_there, additions_tier, deletions_tier, additions-none, deletions-none, below_low, below_high}
use Rattle.level.specs.Inner.Settle.{Rounds}
use Rattle.level.proofs.Levels.{on_level, to_whole, Within}
use Rattle.level.proofs.LevelLaws.{on_level_in, on_level_out, embed, rounds-bound}
use Rattle.level.specs.Inner.Upto.{Upto}

module _ {W : World} (lawful : Lawful W) {tier : ℕ → ℕ} (same-below : Local W tier) (level : (g : ℕ) → tier g ≡ g / 160) (bad S₀ : State) where
  -- Below the first level nothing is to be settled.
  pub upto_first : {R : State} → Bounds W bad S₀ R → S₀ ⊆ R → Upto W tier bad S₀ 0 R [] []
  upto_first {R} b s = record { bounds = b; starts = s; additions = additions-none tier W R; deletions = deletions-none tier W R (minus R bad) }

  all_of_level : (k : ℕ) (b : Bool) (Z : World) {R : State} → Within W Z k R → (xs : List Ask) {S T : State} → Brings Z b S xs T
      → All tier k (map (to_whole k) xs)
  all_of_level k b Z w [] l = tt
  all_of_level k b Z w (q ∷ qs) {S} l =
      let h : q.fact < 160 = w.known S b q l.runs.0.may in
      (level (160 * k + q.fact) ∙ quotient q.fact h, all_of_level k b Z w qs (record { runs = l.runs.1; ends = l.ends }))
    where
      quotient : (f : ℕ) → f < 160 → (160 * k + f) / 160 ≡ k
      quotient f h = omega arith

  module _ {k : ℕ} {R : State} {us ds : List Ask} (t : Upto W tier bad S₀ k R us ds) (Z : World) (w : Within W Z k R) (s u₀ x : State)
      (vs es : List Ask) (bad-here : State)
      (same-bad : (f : ℕ) → f < 160 → bad-here f ≡ bad (160 * k + f)) (same_s : (f : ℕ) → f < 160 → s f ≡ S₀ (160 * k + f))
      (same-u : (f : ℕ) → f < 160 → u₀ f ≡ R (160 * k + f))
      (rounds : Rounds Z bad-here s u₀ x) (up : Brings Z true s vs x) (down : Brings Z false x es (minus x bad-here)) (more : s ⊆ x) where
    abbrev next : State
    next = on_level k R x

    place : (g : ℕ) → g / 160 ≡ k → 160 * k + g % 160 ≡ g
    place g e = omega arith

    small : (g : ℕ) → g % 160 < 160
    small g = omega arith

    whole-u : on_level k R u₀ ≡ R
    whole-u =
        fun_ext λ g. by_cases (ℕ_discrete (g / 160) k) (λ e. on_level_in k R u₀ g e ∙ same-u (g % 160) (small g) ∙ ap R (place g e))
        (λ e. on_level_out k R u₀ g e)

    whole_s : on_level k R s ≡ only tier k S₀ next
    whole_s = fun_ext λ g. by_cases (ℕ_discrete (g / 160) k)
        (λ e. on_level_in k R s g e ∙ same_s (g % 160) (small g) ∙ ap S₀ (place g e) ∙ sym (only_here tier k S₀ next (level g ∙ e)))
        (λ e. on_level_out k R s g e ∙ sym (only_there tier k S₀ next (λ q. e (sym (level g) ∙ q)) ∙ on_level_out k R x g e))

    bad_at : (g : ℕ) → g / 160 ≡ k → minus x bad-here (g % 160) ≡ minus next bad g
    bad_at g e = rw (same-bad (g % 160) (small g), place g e, on_level_in k R x g e) refl

    whole-b : on_level k R (minus x bad-here) ≡ only tier k (minus next bad) next
    whole-b = fun_ext λ g. by_cases (ℕ_discrete (g / 160) k)
        (λ e. on_level_in k R (minus x bad-here) g e ∙ bad_at g e ∙ sym (only_here tier k (minus next bad) next (level g ∙ e)))
        (λ e. on_level_out k R (minus x bad-here) g e ∙ sym (only_there tier k (minus next bad) next (λ q. e (sym (level g) ∙ q)) ∙ on_level_out k R x g e))

    lower : (g : ℕ) → tier g < k → R g ≡ next g
    lower g h = sym (on_level_out k R x g (λ e. omega (arith, level g)))

    start-here : (f : ℕ) → S₀ (160 * k + f % 160) ≡ true → s (f % 160) ≡ true
    start-here f h = same_s (f % 160) (small f) ∙ h

    -- One level more is settled.
    pub upto_next : Upto W tier bad S₀ (suc k) (on_level k R x) (us ++ map (to_whole k) vs) (map (to_whole k) es ++ ds)
    upto_next = record {
      bounds = rounds-bound w lawful bad bad-here same-bad S₀ s start-here (λ g e h. t.starts g h) rounds (rw whole-u t.bounds);
      starts = λ g h. by_cases (ℕ_discrete (g / 160) k)
          (λ e. on_level_in k R x g e ∙ more (g % 160) (same_s (g % 160) (small g) ∙ ap S₀ (place g e) ∙ h)) (λ e. on_level_out k R x g e ∙ t.starts g h);
      additions =
          additions_tier same-below k us (subst (λ (S : State). Brings W true S₀ us S) (below_same tier k S₀ lower) t.additions)
          (all_of_level k true Z w vs up)
          (subst (λ (S : State). Brings W true S (map (to_whole k) vs) next) whole_s (embed w vs up));
      deletions = deletions_tier same-below k (minus next bad) (map (to_whole k) es)
          (λ Y. subst (λ (S : State). Brings W false S ds (below tier k (minus next bad) Y)) (below_same tier k Y lower)
          (subst (λ (S : State). Brings W false (below tier k R Y) ds S) (below_same tier k Y (λ g h. ap (λ b. b && not (bad g)) (lower g h)))
          (t.deletions Y)))
          (all_of_level k false Z w es down) (subst (λ (S : State). Brings W false next (map (to_whole k) es) S) whole-b (embed w es down));
    }

  -- After the last level, with no fact beyond it, what is settled is a good set.
  upto_good : {n : ℕ} {R : State} {us ds : List Ask} → ((g : ℕ) → n ≤ tier g → R g ≡ false) → Upto W tier bad S₀ n R us ds → Good W bad S₀ us ds R
  upto_good {n} {R} {us} {ds} out t = record {
    adds = subst (λ (S : State). Brings W true S₀ us S) whole t.additions;
    dels = subst (λ (S : State). Brings W false R ds S) whole-m
        (subst (λ (S : State). Brings W false S ds (below tier n (minus R bad) S₀)) whole (t.deletions S₀));
  }
    where
      not_so : (b : Bool) → (b ≡ true → ⊥) → b ≡ false
      not_so true h = absurd (h refl)
      not_so false h = refl

      none : (g : ℕ) → n ≤ tier g → S₀ g ≡ false
      none g h = not_so (S₀ g) (λ e. true≢false (sym (t.starts g e) ∙ out g h))

      whole : below tier n R S₀ ≡ R
      whole =
          fun_ext λ g. by_cases (dec_lt (tier g) n) (λ l. below_low tier n R S₀ l)
          (λ l. below_high tier n R S₀ (omega arith) ∙ none g (omega arith) ∙ sym (out g (omega arith)))

      whole-m : below tier n (minus R bad) S₀ ≡ minus R bad
      whole-m = fun_ext λ g. by_cases (dec_lt (tier g) n) (λ l. below_low tier n (minus R bad) S₀ l)
          (λ l. below_high tier n (minus R bad) S₀ (omega arith) ∙ none g (omega arith) ∙ sym (ap (λ b. b && not (bad g)) (out g (omega arith))))

  -- So there is a plan than which no chain that ends clear ends with more; it ends with what is settled, but for the forbidden facts.
  pub upto_best : {n : ℕ} {R : State} {us ds : List Ask} → ((g : ℕ) → n ≤ tier g → R g ≡ false) → Upto W tier bad S₀ n R us ds → Best W bad S₀ us ds
  upto_best out t = bounds-best lawful bad S₀ (upto_good out t) t.bounds

  pub upto_ends : {n : ℕ} {R : State} {us ds : List Ask} → ((g : ℕ) → n ≤ tier g → R g ≡ false) → Upto W tier bad S₀ n R us ds
      → end S₀ (add_then_delete us ds) ≡ minus R bad
  upto_ends out t = good-ends W bad S₀ (upto_good out t)
