-- What `all`, `any` and `find` over the numbers below a bound come to, where the closure computes a test: whether all of them pass it, or some
-- one; and which is the first.
use mathlib.Core.Path.{◌≡◌, refl, sym, ap, subst, ◌∙◌}
use mathlib.Core.Logic.{dite}
use mathlib.Core.Bool.{Bool, true, false}
use mathlib.Core.List.{List}
use Prim.Native.Nat.{ℕ, zero, suc, ◌+◌, ◌≤◌, ◌<◌}
use native.Mathlib.Decide.{ℕ_discrete}
use native.Mathlib.Omega.{arith}
use lib.ListN.{length, get_or}
use lib.Seq.{take_all}
use denote.Param.Members.{Mut}
use denote.Ref.{Bor}
use Rattle.std.proofs.iter.Yields.{nat_range_steps}
use Rattle.std.proofs.lemmas.Iterator.{YieldsList-from_range}
use Rattle.std.proofs.lemmas.Iterator.Search.{all_from_yields_List, any_from_yields_List, find_from_yields_List}
use Rattle.std.proofs.lemmas.List.FromFn.{length-range_with_len, get_or-range_with_len}
use Rattle.std.specs.Bool.{⊤}
use Rattle.std.specs.Fn.{Called, CalledAt}
use Rattle.std.specs.Iterator.{YieldsThen}
use Rattle.std.specs.List.{FoldsTo, find, list_all, list_any, range_with_len}
use Rattle.std.specs.Prelude.{Option, None, Some}
use Rattle.std.specs.Option.{MatchOption, option_map}
use Rattle.std.specs.declared.ops.Range.{Range}
use Rattle.quantifiers.specs.Quantifiers.{all, any, all_below, any_below}
use Rattle.quantifiers.proofs.BoolLaws.{bool_eq, by_test}
use Rattle.quantifiers.proofs.BelowLaws.{all_at, all_from, any_same}
use Rattle.quantifiers.proofs.ListLaws.{all-front, all_get, any-front}
use Rattle.quantifiers.proofs.PositionLaws.{all_list, any_list}

module _ (p : ℕ → Bool) (n : ℕ) where
  abbrev xs : List ℕ
  xs = range_with_len 0 n

  size : length xs ≡ n
  size = length-range_with_len 0 n

  entry : (i : ℕ) → i < n → p (get_or xs i 0) ≡ p i
  entry i h = ap p (get_or-range_with_len 0 n i 0 h ∙ omega arith)

  -- All numbers of a range pass where all below its bound do.
  pub all_range : list_all p xs ≡ all_below p n
  all_range = all_list p xs ∙ bool_eq (all p xs) (all_below p n) below listed
    where
      below : all p xs ≡ true → all_below p n ≡ true
      below e = all_from p n (λ i h. sym (entry i h) ∙ all_get p xs 0 i e (omega (arith, size, h)))

      listed : all_below p n ≡ true → all p xs ≡ true
      listed e = ap (all p) (sym (take_all n xs (omega (arith, size)))) ∙ all-front p 0 xs n (λ i h. entry i h ∙ all_at p n i e h)

  -- Some number of a range passes where some one below its bound does.
  pub any_range : list_any p xs ≡ any_below p n
  any_range =
      any_list p xs ∙ ap (any p) (sym (take_all n xs (omega (arith, size)))) ∙ any-front p 0 xs n (omega (arith, size))
      ∙ any_same (λ i. p (get_or xs i 0)) p n entry

-- What `all` answers.
pub all_of_range : {F : Type 0} {g : Mut F (ℕ × Unit {0}) Bool} {s u : Range ℕ} {f : F} {r : Bool} (p : ℕ → Bool) (n : ℕ)
    → (xs : List ℕ) × (o : Option ℕ) × (j : F) × YieldsThen nat_range_steps s xs o u × FoldsTo (λ h x q. Called g h (x, tt) true q) f xs j
    × MatchOption o (r ≡ true) (λ x. (r ≡ false) × ((h : F) × Called g j (x, tt) false h))
    → s ≡ record { start = 0; end = n } → ((x : ℕ) (b : Bool) (q : F) → Called g f (x, tt) b q → (q ≡ f) × (b ≡ p x)) → r ≡ all_below p n
all_of_range {u = u} {f = f} {r = r} p n ran from tested =
    all_from_yields_List p u f r ran (YieldsList-from_range 0 n n from (omega arith)) tested ∙ all_range p n

-- What `any` answers.
pub any_of_range : {F : Type 0} {g : Mut F (ℕ × Unit {0}) Bool} {s u : Range ℕ} {f : F} {r : Bool} (p : ℕ → Bool) (n : ℕ)
    → (xs : List ℕ) × (o : Option ℕ) × (j : F) × YieldsThen nat_range_steps s xs o u × FoldsTo (λ h x q. Called g h (x, tt) false q) f xs j
    × MatchOption o (r ≡ false) (λ x. (r ≡ true) × ((h : F) × Called g j (x, tt) true h))
    → s ≡ record { start = 0; end = n } → ((x : ℕ) (b : Bool) (q : F) → Called g f (x, tt) b q → (q ≡ f) × (b ≡ p x)) → r ≡ any_below p n
any_of_range {u = u} {f = f} {r = r} p n ran from tested =
    any_from_yields_List p u f r ran (YieldsList-from_range 0 n n from (omega arith)) tested ∙ any_range p n

-- ---------------------------------------------------------------- the first

-- Of the n numbers from a on the first that passes, or none.
abbrev pub IsFirstFrom : (ℕ → Bool) → ℕ → ℕ → Option ℕ → Type 0
IsFirstFrom p a n None = (i : ℕ) → a ≤ i → i < a + n → p i ≡ false
IsFirstFrom p a n (Some k) = (a ≤ k) × ((k < a + n) × ((p k ≡ true) × ((i : ℕ) → a ≤ i → i < k → p i ≡ false)))

first_from : (p : ℕ → Bool) (a n : ℕ) → IsFirstFrom p a n (find p (range_with_len a n))
first_from p a zero = λ i l m. absurd (omega (arith, l, m))
first_from p a (suc n) = by_test (p a) here (on (first_from p (a + 1) n))
  where
    here : p a ≡ true → IsFirstFrom p a (suc n) (find p (range_with_len a (suc n)))
    here e = rw e (omega arith, (omega arith, (e, λ i l m. absurd (omega (arith, l, m)))))

    on : IsFirstFrom p (a + 1) n (find p (range_with_len (a + 1) n)) → p a ≡ false → IsFirstFrom p a (suc n) (find p (range_with_len a (suc n)))
    on behind e = rw e (later (find p (range_with_len (a + 1) n)) behind)
      where
        fails : (i : ℕ) → a ≤ i → (a + 1 ≤ i → p i ≡ false) → p i ≡ false
        fails i l h = dite (ℕ_discrete i a) (λ (q : i ≡ a). rw q e) (λ (q : i ≡ a → ⊥). h (omega arith))

        later : (r : Option ℕ) → IsFirstFrom p (a + 1) n r → IsFirstFrom p a (suc n) r
        later None h = λ i l m. fails i l (λ l'. h i l' (omega (arith, m)))
        later (Some k) h = (omega (arith, h.0), (omega (arith, h.1.0), (h.1.1.0, λ i l m. fails i l (λ l'. h.1.1.1 i l' m))))

-- What `find` answers.
pub find_of_range : {F : Type 0} {g : Mut F (Bor ℕ × Unit {0}) Bool} {s : Range ℕ} {f : F} (p : ℕ → Bool) (n : ℕ) (u : Range ℕ) (r : Option ℕ)
    → (xs : List ℕ) × (j : F) × YieldsThen nat_range_steps s xs r u × FoldsTo (λ h x q. CalledAt g h x false q) f xs j
    × MatchOption r ⊤ (λ x. (h : F) × CalledAt g j x true h)
    → s ≡ record { start = 0; end = n } → ((x : ℕ) (b : Bool) (q : F) → CalledAt g f x b q → (q ≡ f) × (b ≡ p x)) → IsFirstFrom p 0 n r
find_of_range {f = f} p n u r ran from tested =
    subst (IsFirstFrom p 0 n)
    (sym (find_from_yields_List p u f r ran (YieldsList-from_range 0 n n from (omega arith)) tested) ∙ same r)
    (first_from p 0 n)
  where
    same : (r : Option ℕ) → option_map (λ x. x) r ≡ r
    same None = refl
    same (Some k) = refl
