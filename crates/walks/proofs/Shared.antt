-- A `&κ mut [T]` that is lent to read, `&*s`, for a lifetime κ' of a call, and comes back as it was:
-- `Borrow/Rule/Slice/Reshare.antt`'s `sl_reshare_as` and `sl_reshare_back`, for a walk by hand. It says nothing of any crate.
--     LentShared       what the holder keeps meanwhile: the lender's part at κ', and its own borrow at κ, open, with both halves of its
--                      ghost variable
--     lends_shared     given T's `Shares` at l, and tokens ts whose lifetimes' meet is within l and within κ':
--                      own (the `&κ mut [T]` ((b, o), γ, ys)) ∗ [κ]_q ∗ ts  ⊢ ⇛ (own (the `&κ' [T]` ((b, o), ys)) ∗ LentShared ys ∗ ts)
--     back-shared      given `Room`:  [†κ'] ∗ LentShared ys  ⊢ ⇛ (own (the `&κ mut [T]` ((b, o), γ, ys)) ∗ [κ]_q)
-- Assumes `Logic`.
use mathlib.Core.Path.{refl}
use Prim.Native.Nat.{ℕ}
use mathlib.Core.List.{List, [], ◌∷◌}
use lib.ListN.{length}
use seplogic.Ra.Ura.{Ura}
use base.Fraction.{full_share}
use mir.Syntax.{Lifetime}
use mir.Val.{Val}
use base.Logic.{ent, sep}
use base.Fml.{Lft, GName, Share, Fml, Incl, fsep, flft, fdead, fobs, fauth, flent, fobor}
use ghost.Rules.{Toks, span}
use types.Logic.{Logic, sem, lfts}
use types.Kit.{‵, raw, ◌⊛◌, later, ◌$◌, ◌∵◌, !, qed, move, use2, drop, split, fsplit, fjoin, feq_i, frame, await, updating, now as at_once}
use types.Kit.{done}
use types.Tokens.{lent_back}
use types.Share.{arr_parts}
use denote.RattleType.{RattleType}
use denote.Shadow.{pure_l, pure_i}
use denote.Memory.{shares, part_of}
use denote.Ref.{as_bor}
use denote.Slice.{slice_val, MutSlice, ShrSlice, heres, Room, mut_slice_at, coded_holeys}
use denote.Lend.{Held, lends_shr_slice}
use denote.Shares.{Shares}
use denote.Index.{opens_slice, closes_slice}
use Rattle.walks.proofs.Again.{at_list}

module _ (R : RattleType) (κ κ' : Lft) (q : Share) (γ : GName) (b o : ℕ) where
  abbrev Part : List R.Denot → Fml
  Part ys = (arr_parts (shares R) (length ys)).part full_share ys b o

  abbrev pub LentShared : List R.Denot → Fml
  LentShared ys =
      fsep (flent κ' (Part ys))
      (fsep (fobor κ q (Held R (length ys) b o γ)) (fsep (fobs γ ((coded_holeys R).code (heres R ys))) (fauth γ ((coded_holeys R).code (heres R ys)))))

  module _ {M : Type 1} {𝓤 : Ura M} (𝓛 : Logic 𝓤) (ℓ ℓ' : Lifetime) (ys : List R.Denot) where
    open 𝓛 use {H, A}

    abbrev vals : List Val
    vals = slice_val (b, o) (length ys) ∷ []

    -- what is lent is shared out at once, which asks `denote.Lend`'s `lends_shr_slice` for T's law, `Shares`, and for tokens. They come back.
    -- A `&` has no ghost name, so there is no γ₁
    pub lends_shared : (l : Lft) → Shares 𝓛 R l → (ts : Toks) → Incl (span ts) l → Incl (span ts) κ'
        → ent 𝓤 (sep 𝓤 (sem 𝓛 ((MutSlice ℓ κ R).own_val (at_list R b o γ ys) vals)) (sep 𝓤 (A.lft κ q) (lfts 𝓛 ts)))
        (H.⇛ (sep 𝓤 (sem 𝓛 ((ShrSlice ℓ' κ' R).own_val (as_bor (at_list R b o γ ys)) vals)) (sep 𝓤 (sem 𝓛 (LentShared ys)) (lfts 𝓛 ts))))
    unfolding part_of
    lends_shared l s ts inc sp =
        qed 𝓛 (‵ ((MutSlice ℓ κ R).own_val (at_list R b o γ ys) vals) ∷ ‵ (flft κ q) ∷ raw (lfts 𝓛 ts) ∷ []) ∵ updating ! $ fsplit ! $
        pure_l ! (mut_slice_at R (at_list R b o γ ys) vals) (λ p. fsplit ! $ opens_slice ! tt R ys b o $
        feq_i ! ℕ (length ys) (length ys) refl $ fjoin ! $ move ! (0 ∷ 4 ∷ []) $
        use2 𝓛 (later ((‵ ((ShrSlice ℓ' κ' R).own_val (as_bor (at_list R b o γ ys)) vals) ⊛ ‵ (flent κ' (Part ys))) ⊛ raw (lfts 𝓛 ts)))
        (lends_shr_slice 𝓛 R ℓ' κ' full_share ys b o p.1 l s ts inc sp) $ await ! tt $ split ! $ split ! $
        -- [the new slice; the lender's part at κ'; the tokens; the open borrow at κ; obs γ; auth γ]
        at_once ! $ frame ! $ move ! (3 ∷ 4 ∷ []) $ fjoin ! $ move ! (3 ∷ 0 ∷ []) $ fjoin ! $ move ! (1 ∷ 0 ∷ []) $ fjoin ! $ done !)

    pub back-shared : Room R (length ys)
        → ent 𝓤 (sep 𝓤 (A.dead κ') (sem 𝓛 (LentShared ys))) (H.⇛ (sep 𝓤 (sem 𝓛 ((MutSlice ℓ κ R).own_val (at_list R b o γ ys) vals)) (A.lft κ q)))
    unfolding part_of
    back-shared room =
        qed 𝓛 (‵ (fdead κ') ∷ ‵ (LentShared ys) ∷ []) ∵ updating ! $ move ! (1 ∷ []) $ fsplit ! $ move ! (2 ∷ 0 ∷ []) $ lent_back ! tt $ fsplit ! $ drop ! $
        move ! (1 ∷ []) $ fsplit ! $ move ! (1 ∷ []) $ fsplit ! $ move ! (3 ∷ 2 ∷ 0 ∷ 1 ∷ []) $ closes_slice ! tt R ys ys refl b o $ at_once ! $
        fjoin ! $ pure_i ! (mut_slice_at R (at_list R b o γ ys) vals) (tt, (tt, tt)) (refl, room) $ fjoin ! $ done !
