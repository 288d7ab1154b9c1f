-- A `&mut [T]` that a walk lends for a call, with what the callee says of its last list. It says nothing of any crate.
--     returned_last    a callee's `post` at the head of the context is, at some result r and last values ws, the tokens, what r owns,
--                      what is said of ws, and the fact that the callee's `ensures` states of both
--     lends_at         `Again.antt`'s `lends_again` of a list ys that is m long, at the machine value with the count m
--     back_at          its `comes_back`, likewise
-- Assumes `Logic`.
use mathlib.Core.Path.{◌≡◌, sym, subst}
use Prim.Native.Nat.{ℕ}
use mathlib.Core.List.{List, [], ◌∷◌}
use lib.ListN.{length}
use seplogic.Ra.Ura.{Ura}
use mir.Syntax.{Lifetime}
use mir.Val.{Val}
use base.Logic.{ent, sep, ex, id⊢}
use base.Fml.{Lft, GName, Share}
use types.Logic.{Logic, sem}
use contract.Monad.{fact}
use types.Kit.{Item, Goal, Soaks, Seq, ‵, raw, mean, ◌⊛◌, some, later, ◌$◌, move, use1, split, pick, await}
use denote.RattleType.{RattleType}
use denote.Slice.{slice_val, MutSlice, Room, finally}
use denote.Signature.{type_at}
use denote.Steps.{heard}
use denote.Triple.Entry.{Res, alive}
use denote.Triple.Spec.{triple_of}
use denote.Triple.Clauses.{Ended, Clauses, Lasts, at_exit, lasts, ensured, closing}
use Rattle.walks.proofs.Again.{at_list, LentAgain, lends_again, comes_back}

module _ {M : Type 1} {𝓤 : Ura M} {𝓛 : Logic 𝓤} {K : Type 0} {Γ : List (Item 𝓤)} {G : Goal 𝓤 𝓛.H} where
  -- tok is the tokens, as the walk writes them
  pub returned_last : K → Soaks G → (T : Ended) (c : Clauses 𝓤 T) (y : (triple_of 𝓛 T.signature (closing 𝓛 T c)).Ghost) (u : Val) (tok : Item 𝓤)
      → ent 𝓤 (alive 𝓛 T.signature y.0.0 y.0.1) (mean 𝓛 tok)
      → (φ : Res T.signature y.0.0 → Lasts T y.0.0 y.0.3 → Type 0)
      → ((r : Res T.signature y.0.0) (ws : Lasts T y.0.0 y.0.3)
      → ent 𝓤 ((c y.0.0 y.0.3).ensures y.1 r (at_exit T y.0.0 y.0.3 ws)) (fact 𝓤 (φ r ws)))
      → ((r : Res T.signature y.0.0) (ws : Lasts T y.0.0 y.0.3) → φ r ws
      → Seq K 𝓛 (tok ∷ ‵ ((type_at T.signature.result y.0.0).own_val r (u ∷ [])) ∷ ‵ (lasts T y.0.0 y.0.3 ws) ∷ Γ) G)
      → Seq K 𝓛 (raw ((triple_of 𝓛 T.signature (closing 𝓛 T c)).post y u) ∷ Γ) G
  returned_last t z T c y u tok toks φ say k =
      use1 𝓛 (later (some (λ (r : Res T.signature y.0.0).
      (raw (alive 𝓛 T.signature y.0.0 y.0.1) ⊛ ‵ ((type_at T.signature.result y.0.0).own_val r (u ∷ [])))
      ⊛ raw (ensured 𝓛 T c y.0.0 y.0.3 y.1 r)))) (id⊢ 𝓤 _) $ await t z $ pick t (λ r.
      split t $ move t (1 ∷ []) $
      use1 𝓛 (some (λ (ws : Lasts T y.0.0 y.0.3).
      ‵ (lasts T y.0.0 y.0.3 ws) ⊛ raw ((c y.0.0 y.0.3).ensures y.1 r (at_exit T y.0.0 y.0.3 ws)))) (id⊢ 𝓤 _) $ pick t (λ ws.
      split t $ move t (1 ∷ []) $ use1 𝓛 (raw (fact 𝓤 (φ r ws))) (say r ws) $ heard t (φ r ws) (λ e. move t (1 ∷ []) $ split t $ use1 𝓛 tok toks $ k r ws e)))

module _ (R : RattleType) (κ κ' : Lft) (q : Share) (γ : GName) (b o : ℕ)
    {M : Type 1} {𝓤 : Ura M} (𝓛 : Logic 𝓤) (ℓ ℓ' : Lifetime) (m : ℕ) where
  open 𝓛 use {H, A}

  pub lends_at : (ys : List R.Denot) → length ys ≡ m
      → ent 𝓤 (sep 𝓤 (sem 𝓛 ((MutSlice ℓ κ R).own_val (at_list R b o γ ys) (slice_val (b, o) m ∷ []))) (A.lft κ q))
      (H.⇛ (ex 𝓤 (λ (γ₁ : GName). sep 𝓤 (sem 𝓛 ((MutSlice ℓ' κ' R).own_val (at_list R b o γ₁ ys) (slice_val (b, o) m ∷ [])))
      (sem 𝓛 (LentAgain R κ κ' q γ b o γ₁ ys)))))
  lends_at ys e =
      subst (λ (j : ℕ). ent 𝓤 (sep 𝓤 (sem 𝓛 ((MutSlice ℓ κ R).own_val (at_list R b o γ ys) (slice_val (b, o) j ∷ []))) (A.lft κ q))
      (H.⇛ (ex 𝓤 (λ (γ₁ : GName). sep 𝓤 (sem 𝓛 ((MutSlice ℓ' κ' R).own_val (at_list R b o γ₁ ys) (slice_val (b, o) j ∷ [])))
      (sem 𝓛 (LentAgain R κ κ' q γ b o γ₁ ys)))))) e
      (lends_again R κ κ' q γ b o 𝓛 ℓ ℓ' ys)

  pub back_at : (ys : List R.Denot) → length ys ≡ m → (γ₁ : GName) (zs : List R.Denot) → Room R m → length zs ≡ length ys
      → ent 𝓤 (sep 𝓤 (A.dead κ') (sep 𝓤 (sem 𝓛 (LentAgain R κ κ' q γ b o γ₁ ys)) (sem 𝓛 (finally R γ₁ zs))))
      (H.⇛ (sep 𝓤 (sem 𝓛 ((MutSlice ℓ κ R).own_val (at_list R b o γ zs) (slice_val (b, o) m ∷ []))) (A.lft κ q)))
  back_at ys e γ₁ zs room l =
      subst (λ (j : ℕ). ent 𝓤 (sep 𝓤 (A.dead κ') (sep 𝓤 (sem 𝓛 (LentAgain R κ κ' q γ b o γ₁ ys)) (sem 𝓛 (finally R γ₁ zs))))
      (H.⇛ (sep 𝓤 (sem 𝓛 ((MutSlice ℓ κ R).own_val (at_list R b o γ zs) (slice_val (b, o) j ∷ []))) (A.lft κ q)))) e
      (comes_back R κ κ' q γ b o 𝓛 ℓ ℓ' ys γ₁ zs (subst (Room R) (sym e) room) l)
