-- The list of rules by value, of which a walk lends the front: its machine values, and what is known of them. `frames::Rules` has a count and an array of 512.
--     rule_slice, fits_512     the type of a local that holds the lent front; there is room for 512 rules
--     front, front_is          the first `count` rules; they are those that the list has
--     by_value, array          the machine values of the list and of its array
--     is_array, typed          the array is one, and its machine value has its type
--     counted, filled, all_there       the count fits a usize; the array has 512; the front has `count`
-- Assumes nothing; `typed` assumes `Logic`.
use mathlib.Core.Path.{◌≡◌, refl, sym, subst}
use Prim.Native.Nat.{ℕ, ◌<◌, ◌≤◌, ◌^◌}
use mathlib.Core.List.{List, [], ◌∷◌}
use lib.Dec.{T as Holds, lit<}
use lib.ListN.{length, take}
use lib.Seq.{length-take-le}
use seplogic.Ra.Ura.{Ura}
use package.mir.Syntax.{Ty, erased, imm, ty_ref, ty_array}
use package.mir.Val.{Val, WT, has_ty}
use types.Logic.{Logic}
use denote.Laws.{Is}
use denote.Memory.{pointee}
use denote.Array.{Array, Array-Lawful}
use denote.Slice.{slice_ty, Room}
use denote.Struct.Laws as LL
use Rattle.frames.specs.declared.Rule.{Rule}
use Rattle.frames.specs.declared.Rules.{Rules}
use Rattle.frames.specs.Book.{listed}
use Rattle.frames.specs.contracts.Rule as T
use Rattle.frames.proofs.Rule.TheLaws as T'
use Rattle.frames.specs.contracts.Rules as L
use Rattle.frames.proofs.Rules.TheLaws as L'

abbrev pub rule_slice : Ty
rule_slice = slice_ty (ty_ref erased imm (pointee (T.the_row).written))

pub fits_512 : Room T.the_row 512
fits_512 = (lit< tt, lit< tt)

module _ (rs : Rules) where
  abbrev pub front : List Rule
  front = take rs.count rs.rules

  pub front_is : listed rs ≡ front
  unfolding listed
  front_is = refl

  abbrev pub by_value : Val
  by_value = LL.val L.the_type L'.the_laws rs

  abbrev pub array : Val
  array = (L'.the_laws).1.0.val ((L.the_type).to rs).1.0

  abbrev pub IsList : Type 0
  IsList = Is L.the_row rs (LL.vals L.the_type L'.the_laws rs)

  pub is_array : IsList → Is (Array T.the_row 512) rs.rules (array ∷ [])
  is_array is = (LL.owed L.the_type L'.the_laws rs _ is).1.0

  pub counted : IsList → rs.count < 2 ^ 64
  counted is = (LL.owed L.the_type L'.the_laws rs _ is).0.1

  pub filled : IsList → length rs.rules ≡ 512
  filled is = (is_array is).1.0.1

  pub within : IsList → rs.count ≤ 512 → rs.count ≤ length rs.rules
  within is few = subst (λ (m : ℕ). rs.count ≤ m) (sym (filled is)) few

  pub all_there : IsList → rs.count ≤ 512 → length front ≡ rs.count
  all_there is few = length-take-le rs.count rs.rules (within is few)

  pub typed : {M : Type 1} {𝓤 : Ura M} (𝓛 : Logic 𝓤) → IsList → Holds (has_ty (ty_array T'.mir 512) array) × WT array
  typed 𝓛 is = ((Array-Lawful 𝓛 T.the_row (LL.lawful T.the_type T'.the_laws 𝓛) 512).typed rs.rules (array ∷ []) (is_array is)).0
