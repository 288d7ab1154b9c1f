-- The call of `rule_at` in a walk that keeps the lent rules: what it is passed, and that what is had is what it asks, with the slice once
-- more. The slice is Copy: what it owns is had twice.
--     RuleAt       its contract, as a walk cites it.        to_at     what it is passed for rule i
--     goes_at      the token and what the slice owns are what it asks for a rule i of the list, and what the slice owns
-- Assumes `Logic`.
use mathlib.Core.Path.{refl}
use Prim.Native.Nat.{ℕ, ◌<◌, ◌^◌}
use mathlib.Core.List.{List, [], ◌∷◌}
use lib.ListN.{length}
use seplogic.Ra.Ura.{Ura}
use mir.Syntax.{named, w8, w64}
use mir.Val.{Val, vint}
use base.Logic.{SProp, ent, sep}
use base.Fml.{Lft, Share, Fml, ftrue, flft}
use prog.Memory.{Memory}
use prog.Routine.{Routine}
use types.Logic.{Logic, sem}
use contract.Monad.{Fun}
use types.Kit.{Item, ‵, raw, ◌⊛◌, ⋆, ◌$◌, ◌∵◌, !, qed, move, use1, use2, split, fjoin, frame, done}
use denote.Laws.{Is}
use denote.Plain.{uint_Makes}
use denote.Builtin.{usize}
use denote.Ref.{Bor}
use denote.RattleType.{RowLaws}
use denote.Plain.{uint_row_laws}
use denote.Array.{Array-row_laws}
use denote.Struct.Struct.{Struct-row_laws}
use borrow.Table.Copies.{parts_laws}
use denote.Slice.{slice_val, ShrSlice, shr_slice_copy}
use denote.Steps.{owned, nothing}
use denote.Triple.Statement.{Contract}
use denote.Triple.Spec.{triple_of}
use denote.Triple.Walked.{says}
use Rattle.frames.specs.declared.Rule.{Rule}
use Rattle.frames.specs.contracts.Term as Term
use Rattle.frames.specs.contracts.Rule as T
use Rattle.rule_list.specs.contracts.rule_at as rule_at_lem

-- A rule's row meets the laws of one that is lent.
rule_laws : RowLaws T.the_row
rule_laws =
    parts_laws T.the_type (
      uint_row_laws w8,
      (
        search (uint_row_laws, Struct-row_laws),
        (
          uint_row_laws w8,
          (
            uint_row_laws w8,
            (
              uint_row_laws w8,
              (
                Array-row_laws Term.the_row (parts_laws Term.the_type (uint_row_laws w8, (uint_row_laws w8, (uint_row_laws w8, tt)))) 8,
                tt,
              ),
            ),
          ),
        ),
      ),
    )

module _ {M : Type 1} {𝓤 : Ura M} (𝓛 : Logic 𝓤) (mem : Memory → SProp 𝓤) (run : Routine → Fun 𝓤) where
  abbrev pub RuleAt : Contract 𝓤
  RuleAt = triple_of 𝓛 rule_at_lem.signature (rule_at_lem.spec 𝓛 mem run)

  module _ (κ : Lft) (q : Share) (s : Bor (List Rule)) where
    abbrev v : Val
    v = slice_val s.ref_ptr (length s.now)

    abbrev Own : Fml
    Own = (ShrSlice (named 0) κ T.the_row).own_val s (v ∷ [])

    abbrev Tok : Item 𝓤
    Tok = ‵ (flft κ q) ⊛ ‵ ftrue

    abbrev pub to_at : ℕ → RuleAt.Ghost
    to_at i = (((κ, tt), (q, tt), tt, (s, (i, tt)), (v ∷ [], (vint w64 i ∷ [], tt))), tt)

    asked-at : (i : ℕ) → i < 2 ^ 64 → i < length s.now → ent 𝓤 (⋆ 𝓛 (Tok ∷ ‵ Own ∷ [])) (RuleAt.pre (to_at i))
    asked-at i gi l =
        qed 𝓛 (Tok ∷ ‵ Own ∷ []) ∵ says ! l $ frame ! $
        nothing ! $ owned ! usize (Is usize) (uint_Makes 𝓛 w64) i _ (refl, gi) $ fjoin ! $ move ! (1 ∷ 0 ∷ []) $ fjoin ! $ done !

    pub goes_at : (i : ℕ) → i < 2 ^ 64 → i < length s.now → ent 𝓤 (⋆ 𝓛 (Tok ∷ ‵ Own ∷ [])) (sep 𝓤 (RuleAt.pre (to_at i)) (sem 𝓛 Own))
    goes_at i gi l =
        qed 𝓛 (Tok ∷ ‵ Own ∷ []) ∵ move ! (1 ∷ []) $ use1 𝓛 (‵ Own ⊛ ‵ Own) ((shr_slice_copy 𝓛 (named 0) κ T.the_row rule_laws).twice s (v ∷ [])) $ split ! $
        move ! (2 ∷ 0 ∷ []) $ use2 𝓛 (raw (RuleAt.pre (to_at i))) (asked-at i gi l) $ frame ! $ done !
