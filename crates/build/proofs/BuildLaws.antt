-- The loops that make flags and sets anew, place by place.
use mathlib.Core.Path.{◌≡◌, refl, sym, ap, subst, fun_ext, ◌∙◌}
use mathlib.Core.Logic.{◌≢◌, by_cases, dite}
use mathlib.Core.Bool.{Bool, true, false, not, cond, ◌&&◌, ◌||◌}
use mathlib.Core.List.{List}
use Prim.Native.Nat.{ℕ, ◌+◌, ◌-◌, ◌≤◌, ◌<◌}
use native.Mathlib.Decide.{dec_lt}
use native.Mathlib.Omega.{arith}
use lib.Dec.{ltb}
use lib.ListN.{length, get_or, take}
use Rattle.std.proofs.lemmas.List.{get_or-take}
use Rattle.std.specs.Prelude.{Option, Some, None, is_some, IfSome}
use borrow.Author.Tests.{lt-ltb, le-ltb}
use Rattle.quantifiers.proofs.BelowLaws.{any_false}
use Rattle.quantifiers.proofs.RangeLaws.{IsFirstFrom}
use Rattle.theory.specs.Inner.Facts.{State, update, minus}
use Rattle.theory.proofs.FactLaws.{update_same, update_other, minus_in, antisym, at}
use Rattle.shown.specs.Inner.Shown.{row, inherited, visible_fact, direct, touches_fact, Extended, More, Whole, WholeFacts}
use Rattle.shown.proofs.ShownLaws.{direct_low, direct_high, direct_in, put_fact-direct, put_whole_facts}
use Rattle.shown.proofs.HigherLaws.{extended-direct, extended_whole}
use Rattle.build.specs.Inner.Build.{Blank, Built, Copied, Lacks, Stripped, lacked}

visible-none : (T : List Bool) (S : State) (k : ℕ) → ((f : ℕ) → S f ≡ false) → visible_fact T S k ≡ cond (ltb k 160) false (row T 32 (k - 160))
unfolding visible_fact inherited
visible-none T S k h =
    rw (h k, h (k - 160), any_false (λ c. S (128 + c) && row T c (k - 160)) 32 (λ c l. rw (h (128 + c)))) (go (ltb k 160) (row T 32 (k - 160)))
  where
    go : (b r : Bool) → cond b false (r || false) ≡ cond b false r
    go true r = refl
    go false true = refl
    go false false = refl

row_at : (T : List Bool) (k : ℕ) → row T 32 k ≡ get_or T (5120 + k) false
unfolding row
row_at T k = refl

-- No direct fact, and behind them the last row of the table.
pub blank_made : {T x : List Bool} → length x ≡ 448 → length T ≡ 5280 → ((k : ℕ) → k < 160 → get_or x k false ≡ false)
    → ((k : ℕ) → k < 160 → get_or x (160 + k) false ≡ get_or T (5120 + k) false) → Blank T x
blank_made {T} {x} size rows low high = record { whole = record { size = size; rows = rows; shows = shows }; none = none }
  where
    none : (f : ℕ) → direct x f ≡ false
    none f = dite (dec_lt f 160) (λ (l : f < 160). direct_low x f l ∙ low f l) (λ (l : f < 160 → ⊥). direct_high x f (omega arith))

    shows : (k : ℕ) → k < 320 → get_or x k false ≡ visible_fact T (direct x) k
    shows k l = sym (visible-none T (direct x) k none ∙ dite (dec_lt k 160) (λ (m : k < 160). rw (lt-ltb k 160 m) (sym (low k m)))
        (λ (m : k < 160 → ⊥).
        let q : 160 + (k - 160) ≡ k = omega arith in
        rw (le-ltb k 160 (omega arith)) (row_at T (k - 160) ∙ sym (high (k - 160) (omega arith)) ∙ ap (λ j. get_or x j false) q)))

-- The direct facts below `f` are put in.
pub record BuiltSoFar (T d x : List Bool) (f : ℕ) : Type 0 where
  pub whole : WholeFacts T x
  pub fits : f ≤ 160
  pub so_far : (g : ℕ) → direct x g ≡ ltb g f && direct d g

module _ {T d x : List Bool} {f : ℕ} (r : BuiltSoFar T d x f) (h : f < 160) where
  -- A fact of `d` is put in.
  pub build_put : {z : List Bool} → get_or d f false ≡ true → More x (touches_fact T f) z → BuiltSoFar T d z (f + 1)
  build_put {z} e p = record {
    whole = put_whole_facts f r.whole p h;
    fits = omega arith;
    so_far = λ g. ap (λ S. S g) (put_fact-direct T f p h) ∙ at (λ g. update (direct x) f true g ≡ ltb g (f + 1) && direct d g) f g
        (update_same (direct x) f true ∙ sym (rw (lt-ltb f (f + 1) (omega arith)) (direct_low d f h ∙ e)))
        (λ n. update_other (direct x) f true n ∙ r.so_far g ∙ ap (λ b. b && direct d g) (wider g n));
  }
    where
      wider : (g : ℕ) → g ≢ f → ltb g f ≡ ltb g (f + 1)
      wider g n =
          by_cases (dec_lt g f)
          (λ l. lt-ltb g f l ∙ sym (lt-ltb g (f + 1) (omega arith)))
          (λ l. le-ltb g f (omega arith) ∙ sym (le-ltb g (f + 1) (omega arith)))

  -- A fact that `d` lacks is left out.
  pub build_skip : get_or d f false ≡ false → BuiltSoFar T d x (f + 1)
  build_skip e = record {
    whole = r.whole;
    fits = omega arith;
    so_far = λ g. r.so_far g ∙ at (λ g. ltb g f && direct d g ≡ ltb g (f + 1) && direct d g) f g
        (rw (le-ltb f f (omega arith), lt-ltb f (f + 1) (omega arith)) (sym (direct_low d f h ∙ e)))
        (λ n. ap (λ b. b && direct d g) (wider g n));
  }
    where
      wider : (g : ℕ) → g ≢ f → ltb g f ≡ ltb g (f + 1)
      wider g n =
          by_cases (dec_lt g f)
          (λ l. lt-ltb g f l ∙ sym (lt-ltb g (f + 1) (omega arith)))
          (λ l. le-ltb g f (omega arith) ∙ sym (le-ltb g (f + 1) (omega arith)))

-- After the last fact, with what follows from the facts.
pub build_all : {T d x z : List Bool} {f : ℕ} → BuiltSoFar T d x f → 160 ≤ f → Extended x z → Built T d z
build_all {T} {d} {x} {z} {f} r h e =
    record {
      whole = extended_whole r.whole e;
      same = extended-direct e ∙ fun_ext λ g. r.so_far g
          ∙ dite (dec_lt g f) (λ (l : g < f). rw (lt-ltb g f l))
          (λ (l : g < f → ⊥). rw (le-ltb g f (omega arith)) (sym (direct_high d g (omega arith))));
    }

-- The first `i` places of `d` pass the test `p`.
pub record SoFar (p : ℕ → Bool) (d : List Bool) (i : ℕ) : Type 0 where
  pub size : length d ≡ 160
  pub fits : i ≤ 160
  pub below : (k : ℕ) → k < i → get_or d k false ≡ p k

-- After the last place the set is the state.
pub so_far_all : {p : ℕ → Bool} {d : List Bool} {i : ℕ} (S : State) → SoFar p d i → 160 ≤ i → ((k : ℕ) → k < 160 → p k ≡ S k)
    → ((k : ℕ) → 160 ≤ k → S k ≡ false) → direct d ≡ S
so_far_all {p} {d} {i} S r h low high =
    fun_ext λ g. dite (dec_lt g 160) (λ (l : g < 160). direct_low d g l ∙ r.below g (omega arith) ∙ low g l)
    (λ (l : g < 160 → ⊥). direct_high d g (omega arith) ∙ sym (high g (omega arith)))

-- After the last place the forbidden facts are left out.
pub strip_all : {x bad d : List Bool} {i : ℕ} → SoFar (λ k. get_or x k false && not (get_or bad k false)) d i → 160 ≤ i → Stripped x bad d
strip_all {x} {bad} r h =
    record {
      size = r.size;
      same = so_far_all (minus (direct x) (direct bad)) r h (λ k l. rw (direct_low x k l, direct_low bad k l)) (λ k l. rw (direct_high x k l));
    }

-- The first places, copied.
pub copied_facts : (y : List Bool) {u : List Bool} → length u ≡ 160 → u ≡ take 160 y → Copied y u
copied_facts y {u} size e = record {
  size = size;
  same = fun_ext λ f. dite (dec_lt f 160)
      (λ (l : f < 160). direct_low u f l ∙ ap (λ (v : List Bool). get_or v f false) e ∙ get_or-take 160 y f false l ∙ sym (direct_low y f l))
      (λ (l : f < 160 → ⊥). direct_high u f (omega arith) ∙ sym (direct_high y f (omega arith)));
}

-- ---------------------------------------------------------------- what is lacking

-- Whether `a` has the fact `k` and `b` lacks it.
abbrev pub lacking : List Bool → List Bool → ℕ → Bool
lacking a b k = get_or a k false && not (get_or b k false)

minus_low : (a b : List Bool) (k : ℕ) → k < 160 → lacking a b k ≡ minus (direct a) (direct b) k
minus_low a b k l = rw (direct_low a k l, direct_low b k l)

-- The first of the facts is the first that is lacking.
pub lacks_first : (a b : List Bool) (r : Option ℕ) → IsFirstFrom (lacking a b) 0 160 r → Lacks a b (lacked r)
lacks_first a b None h =
    record { fits = omega arith; before = λ f l. sym (minus_low a b f l) ∙ h f (omega arith) (omega (arith, l)); here = λ l. absurd (omega (arith, l)) }
lacks_first a b (Some k) h =
    record {
      fits = omega (arith, h.1.0);
      before = λ f l. sym (minus_low a b f (omega (arith, l, h.1.0))) ∙ h.1.1.1 f (omega arith) l;
      here = λ l. sym (minus_low a b k l) ∙ h.1.1.0;
    }

-- Where none is lacking, the number is 160; where one is, it is that of a fact.
pub none_lacked : (r : Option ℕ) → is_some r ≡ false → lacked r ≡ 160
none_lacked (Some f) e = cc
none_lacked None e = refl

pub some_lacked : (r : Option ℕ) → is_some r ≡ true → IfSome r (λ f. f < 160) → lacked r < 160
some_lacked (Some f) e h = h
some_lacked None e h = cc

-- A fact before the first that is lacking is there.
pub not_lacking : {a b : List Bool} {r : ℕ} → Lacks a b r → (f : ℕ) → f < r → direct a f ≡ true → direct b f ≡ true
not_lacking {a} {b} w f h e = go (direct b f) (rw e at (w.before f h))
  where
    go : (x : Bool) → true && not x ≡ false → x ≡ true
    go true e = refl
    go false e = sym e

-- Flags that have no fact that is left out are those of what is left.
pub built_same : {T x bad d y : List Bool} {i : ℕ} → Whole T x → Stripped x bad d → Lacks x d i → i ≡ 160 → y ≡ x → Built T d y
built_same {T} {x} {bad} {d} {y} {i} w st none e same = subst (λ (y : List Bool). Built T d y) (sym same)
    record {
      whole = w;
      same = antisym (λ f h. not_lacking none f (omega (arith, direct_in x f h)) h)
          (λ f h. minus_in (direct x) (direct bad) f (ap (λ S. S f) (sym st.same) ∙ h));
    }
