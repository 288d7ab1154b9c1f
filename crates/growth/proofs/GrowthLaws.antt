-- Laws of growing states: nothing is lost, what was added was permitted when it was, and no more is added than some rule adds.
use mathlib.Core.Path.{◌≡◌, refl, sym, ap, ◌∙◌}
use mathlib.Core.Logic.{by_cases}
use mathlib.Core.Bool.{Bool, true, false, true≢false}
use mathlib.Core.List.{List, [], ◌∷◌, ◌++◌}
use Prim.Native.Nat.{ℕ, ◌≤◌}
use native.Mathlib.Decide.{ℕ_discrete}
use native.Mathlib.Omega.{arith}
use lib.ListN.{length}
use Rattle.quantifiers.specs.Quantifiers.{one_if, count_below}
use Rattle.theory.specs.Inner.Facts.{State, ◌⊆◌, update}
use Rattle.theory.proofs.FactLaws.{update_same, update_other, update_more, at, count_update}
use Rattle.growth.specs.Inner.Growth.{Rules, May, Grows, Gains, grown, NoWay, Way}

-- A fact that is there and lacking is absurd.
pub both_ways : {b : Bool} → b ≡ true → b ≡ false → ⊥
both_ways t f = true≢false (sym t ∙ f)

-- Nothing is lost.
pub grown_more : (S : State) (fs : List ℕ) → S ⊆ grown S fs
grown_more S [] g h = h
grown_more S (f ∷ fs) g h = grown_more (update S f true) fs g (update_more S f g h)

-- One more addition at the end.
pub grown_last : (S : State) (fs : List ℕ) (f : ℕ) → grown S (fs ++ f ∷ []) ≡ update (grown S fs) f true
grown_last S [] f = refl
grown_last S (g ∷ fs) f = grown_last (update S g true) fs f

module _ (R : Rules) where
  pub gains_last : (S : State) (fs : List ℕ) (f : ℕ) → Gains R S fs → May R (grown S fs) f → grown S fs f ≡ false → Gains R S (fs ++ f ∷ [])
  gains_last S [] f ok m miss = ((m, miss), tt)
  gains_last S (g ∷ fs) f ok m miss = (ok.0, gains_last (update S g true) fs f ok.1 m miss)

  -- A fact that was added was permitted: what its rule asks for is there at the end, and what it bars was lacking at first.
  pub added_asks : (S : State) (fs : List ℕ) → Grows R S fs → (f g : ℕ) → S f ≡ false → grown S fs f ≡ true → R.asks f g → grown S fs g ≡ true
  added_asks S [] ok f g miss is a = absurd (both_ways is miss)
  added_asks S (h ∷ fs) ok f g miss is a =
      by_cases (ℕ_discrete f h)
      (λ e. grown_more (update S h true) fs g (update_more S h g (ok.0.held g (rw (← e) a))))
      (λ n. added_asks (update S h true) fs ok.1 f g (update_other S h true n ∙ miss) is a)

  pub added_bars : (S : State) (fs : List ℕ) → Grows R S fs → (f g : ℕ) → S f ≡ false → grown S fs f ≡ true → R.bars f g → S g ≡ true → ⊥
  added_bars S [] ok f g miss is b here = both_ways is miss
  added_bars S (h ∷ fs) ok f g miss is b here =
      by_cases (ℕ_discrete f h)
      (λ e. both_ways here (ok.0.lacking g (rw (← e) b)))
      (λ n. added_bars (update S h true) fs ok.1 f g (update_other S h true n ∙ miss) is b (update_more S h g here))

  -- Additions that are each new are permitted.
  pub gains_grow : (S : State) (fs : List ℕ) → Gains R S fs → Grows R S fs
  gains_grow S [] ok = tt
  gains_grow S (f ∷ fs) ok = (ok.0.0, gains_grow (update S f true) fs ok.1)

  -- "Exactly": no way is not said where there is one.
  pub never_both : {S₀ W : State} {fs : List ℕ} → NoWay R S₀ W → Way R S₀ W fs → ⊥
  never_both {S₀} {W} {fs} none way = none.none fs (gains_grow S₀ fs way.gains) way.meets

  -- There are no more additions than facts of I, where it has each fact that a rule adds and that is lacking at first.
  pub gains_within : (I S : State) (fs : List ℕ) → ((f : ℕ) → R.usable f → S f ≡ false → I f ≡ true) → Gains R S fs → length fs ≤ count_below I R.F
  gains_within I S [] has ok = omega arith
  gains_within I S (f ∷ fs) has ok =
      omega (
        arith,
        count_update I f false R.F (R.known f ok.0.0.rule),
        ap one_if (has f ok.0.0.rule ok.0.1),
        gains_within (update I f false) (update S f true) fs
            (λ g. at (λ g. R.usable g → update S f true g ≡ false → update I f false g ≡ true) f g
            (λ _ e. absurd (both_ways (update_same S f true) e))
            (λ n u e. update_other I f false n ∙ has g u (sym (update_other S f true n) ∙ e)))
            ok.1,
      )
