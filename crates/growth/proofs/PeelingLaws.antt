-- Laws of the search: each step of gathering and of adding, that a way is found where nothing is left, and that there is none where
-- something is left and nothing is free. For the last, take any way: of the facts still to come the one that it adds first is free.
use mathlib.Core.Path.{◌≡◌, refl, sym, ap, ◌∙◌}
use mathlib.Core.Logic.{◌≢◌}
use mathlib.Core.Bool.{true, false}
use mathlib.Core.List.{List, [], ◌∷◌, ◌++◌}
use Prim.Native.Nat.{ℕ, ◌<◌}
use native.Mathlib.Omega.{arith}
use lib.ListN.{length, length-append}
use Rattle.quantifiers.proofs.BoolLaws.{by_test}
use Rattle.quantifiers.proofs.BelowLaws.{count_le}
use Rattle.theory.specs.Inner.Facts.{State, ◌⊆◌, update}
use Rattle.theory.proofs.FactLaws.{update_same, update_other, update_more, update_in, at}
use Rattle.growth.specs.Inner.Growth.{Rules, May, Grows, grown, NoWay, Way}
use Rattle.growth.specs.Inner.Peeling.{Needed, Closed, Left, Free, Peeled}
use Rattle.growth.proofs.GrowthLaws.{both_ways, added_asks, added_bars, gains_last, grown_last, gains_within}

module _ (R : Rules) (S₀ W : State) where
  -- ---------------------------------------------------------------- what is needed

  -- At first: the wanted facts.
  pub needed_first : Needed R S₀ W W
  needed_first = record { sure = λ fs ok meets. meets }

  -- One more: what the rule of a needed fact asks for, where this one is not there at first.
  pub needed_more : {D : State} (f g : ℕ) → D f ≡ true → S₀ f ≡ false → R.asks f g → Needed R S₀ W D → Needed R S₀ W (update D g true)
  needed_more f g d new a n =
      record { sure = λ fs ok meets. update_in (n.sure fs ok meets) (added_asks R S₀ fs ok f g new (n.sure fs ok meets f d) a) }

-- ---------------------------------------------------------------- the additions one by one

module _ (R : Rules) (S₀ : State) where
  -- One more: a free fact.
  pub peeled_more : {D X : State} {fs : List ℕ} {f : ℕ} → Free R D X f → Peeled R S₀ D X fs → Peeled R S₀ D (update X f true) (fs ++ f ∷ [])
  peeled_more {D} {X} {fs} {f} free p =
      record {
        gains = gains_last R S₀ fs f p.gains (rw p.ends free.may) (rw p.ends free.left.not_yet);
        ends = grown_last S₀ fs f ∙ ap (λ Z. update Z f true) p.ends;
        from = λ g h. update_more X f g (p.from g h);
        safe = λ h g l b.
            let other : h ≢ f = λ e. both_ways (ap (update X f true) e ∙ update_same X f true) l.not_yet in
            let before : Left D X h = record { due = l.due; not_yet = sym (update_other X f true other) ∙ l.not_yet } in
            at (λ g. R.bars h g → update X f true g ≡ true → S₀ g ≡ true) f g
            (λ b _. absurd (free.unbarred h before other b))
            (λ n b e. p.safe h g before b (sym (update_other X f true n) ∙ e)) b;
      }

  -- Where a fact is left to be added there are fewer additions than facts.
  pub peeled_room : {D X : State} {fs : List ℕ} {f : ℕ} → Peeled R S₀ D X fs → Free R D X f → length fs < R.F
  peeled_room {D} {X} {fs} {f} p free =
      omega (
        arith,
        gains_within R (λ _. true) S₀ (fs ++ f ∷ []) (λ _ _ _. refl) (peeled_more free p).gains,
        length-append fs (f ∷ []),
        count_le (λ _. true) R.F,
      )

-- ---------------------------------------------------------------- the end

module _ (R : Rules) (S₀ W : State) {D X : State} {fs : List ℕ} (c : Closed R S₀ W D) (p : Peeled R S₀ D X fs) where
  -- Where nothing is left there is a way.
  pub way_found : D ⊆ X → Way R S₀ W fs
  way_found all = record { gains = p.gains; meets = λ f w. rw p.ends (all f (c.wanted f w)) }

  -- A fact still to come is not there at first.
  new : (f : ℕ) → Left D X f → S₀ f ≡ false
  new f l = by_test (S₀ f) (λ h. absurd (both_ways (p.from f h) l.not_yet)) (λ miss. miss)

  -- No fact still to come is in T, which has the starting facts.
  pub record Ahead (T : State) : Type 0 where
    pub from : S₀ ⊆ T
    pub lacks : (f : ℕ) → Left D X f → T f ≡ false

  -- A way adds g first of the facts still to come: then g is free.
  first_free : (T : State) (g : ℕ) (gs : List ℕ) → Ahead T → Left D X g → May R T g → Grows R (update T g true) gs → D ⊆ grown (update T g true) gs
      → Free R D X g
  first_free T g gs ahead left m ok all =
      record {
        left = left;
        may = record {
          rule = m.rule;
          held = λ k a. by_test (X k) (λ h. h) (λ miss.
              absurd (both_ways (m.held k a) (ahead.lacks k (record { due = c.asked g k left.due (new g left) a; not_yet = miss }))));
          lacking = λ k b. by_test (X k) (λ h. absurd (both_ways (ahead.from k (p.safe g k left b h)) (m.lacking k b))) (λ miss. miss);
        };
        unbarred = λ h l other b.
            added_bars R (update T g true) gs ok h g (update_other T g true other ∙ ahead.lacks h l) (all h l.due) b (update_same T g true);
      }

  -- A fact is still to come or it is not.
  left_or-not : {A : Type 0} (g : ℕ) → (Left D X g → A) → ((Left D X g → ⊥) → A) → A
  left_or-not g so other =
      by_test (D g) (λ d. by_test (X g) (λ x. other (λ l. both_ways x l.not_yet)) (λ x. so (record { due = d; not_yet = x })))
      (λ d. other (λ l. both_ways l.due d))

  module _ {r : ℕ} (left : Left D X r) (none : (f : ℕ) → Free R D X f → ⊥) where
    -- Where none is free, no way passes a fact still to come.
    along : (T : State) (gs : List ℕ) → Ahead T → Grows R T gs → D ⊆ grown T gs → ⊥
    along T [] ahead ok all = both_ways (all r left.due) (ahead.lacks r left)
    along T (g ∷ gs) ahead ok all =
        left_or-not g
        (λ l. none g (first_free T g gs ahead l ok.0 ok.1 all))
        (λ n. along (update T g true) gs
        (record {
          from = λ f h. update_more T g f (ahead.from f h);
          lacks = λ f l. update_other T g true (λ e. n (rw (← e) l)) ∙ ahead.lacks f l;
        })
        ok.1 all)

    -- Where a fact is left and none is free, there is no way.
    pub stuck : Needed R S₀ W D → NoWay R S₀ W
    stuck n = record {
      none = λ gs ok meets. along S₀ gs (record { from = λ f h. h; lacks = new }) ok (n.sure gs ok meets);
    }
