-- The table of the characters of the values, which is filled by `digit_of`, entry by entry.
use mathlib.Core.Path.{◌≡◌, ap, sym, ◌∙◌}
use mathlib.Core.List.{List}
use mathlib.Core.Logic.{dite}
use Prim.Native.Nat.{ℕ, ◌+◌, ◌≤◌, ◌<◌}
use native.Mathlib.Decide.{ℕ_discrete}
use native.Mathlib.Omega.{arith}
use lib.ListN.{length, get_or, set, length-set}
use lib.Seq.{get_or-set_same, get_or-set_other}
use Rattle.lines.specs.Digits.{digit, character}
use Rattle.lines.specs.Inner.Tables.{Encodings}
use Rattle.lines.proofs.TableLaws.{digit_back, character_back, character-within}

-- ---------------------------------------------------------------- the characters of the values

-- The values whose characters stand before n have their entries. The first digit, "0", is 48, and the last, "F", is 70.
pub record Encoded (table : List ℕ) (n : ℕ) : Type 0 where
  pub size : length table ≡ 16
  pub most : n ≤ 71
  pub entry : (v : ℕ) → v < 16 → character v < n → get_or table v 0 ≡ character v

pub encode_none : (table : List ℕ) → length table ≡ 16 → Encoded table 48
encode_none table s = record { size = s; most = omega arith; entry = λ v h below. absurd (omega (arith, character-within v h)) }

module _ (table : List ℕ) (n : ℕ) (f : Encoded table n) (last : n ≤ 70) (v : ℕ) (is : v ≡ digit n) where
  -- A digit: the entry of its value is set, and no other value has this character.
  pub encode_digit : v < 16 → Encoded (set table v n) (n + 1)
  encode_digit good =
      let own : character v ≡ n = ap character is ∙ character_back n (omega arith) (omega arith) in
      record {
        size = length-set table v n ∙ f.size;
        most = omega arith;
        entry = λ w h below.
            dite (ℕ_discrete w v)
            (λ (m : w ≡ v). rw (m, get_or-set_same table v n 0 (omega (arith, f.size))) (sym own))
            (λ (m : w ≡ v → ⊥).
            let other : character w ≡ n → ⊥ = λ e. m (sym (digit_back w h) ∙ ap digit e ∙ sym is) in
            get_or-set_other table v w n 0 m ∙ f.entry w h (omega (arith, other)));
      }

  -- Another character is that of no value.
  pub encode_other : 16 ≤ v → Encoded table (n + 1)
  encode_other none =
      record {
        size = f.size;
        most = omega arith;
        entry = λ w h below.
            let other : character w ≡ n → ⊥ = λ e. omega (arith, digit_back w h, ap digit e) in
            f.entry w h (omega (arith, other));
      }

pub encode_all : (table : List ℕ) (n : ℕ) → Encoded table n → 70 < n → Encodings table
encode_all table n f h = record { size = f.size; entry = λ v k. f.entry v k (omega (arith, character-within v k)) }
