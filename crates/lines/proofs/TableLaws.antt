-- The digits are the printed table's: each law is one test, computed for every byte or every value, and what it says of any one of them.
use mathlib.Core.Path.{◌≡◌, refl, sym, ◌∙◌}
use mathlib.Core.Bool.{true, ◌&&◌, ◌||◌, false≢true}
use Prim.Native.Nat.{ℕ, ◌≤◌, ◌<◌}
use native.Mathlib.Omega.{arith}
use lib.Dec.{eqb, leb}
use borrow.Author.Tests.{eqb-true, leb-true}
use Rattle.quantifiers.specs.Quantifiers.{all, any, all_below, count_below}
use Rattle.quantifiers.proofs.BoolLaws.{and_both, or_either}
use Rattle.quantifiers.proofs.BelowLaws.{all_at}
use Rattle.lines.specs.Digits.{base_sixteen, digit, is_digit, encoding_in, character, in_table, lower_case, ByTable}

-- ---------------------------------------------------------------- reading

-- A byte stands in a row, or it is no digit.
others_tested : all_below (λ c. in_table c || eqb (digit c) 16) 256 ≡ true
unfolding all_below in_table any base_sixteen digit
others_tested = refl

pub by_table : ByTable
unfolding all any count_below base_sixteen digit is_digit lower_case
by_table =
    record {
      each = refl;
      others = λ c h none.
          or_either (in_table c) (eqb (digit c) 16) (all_at _ 256 c others_tested h)
          (λ found. absurd (false≢true (sym none ∙ found)))
          (λ no. eqb-true (digit c) 16 no);
      sixteen = refl;
      lower = refl;
    }

-- ---------------------------------------------------------------- writing, and reading back

-- What was written is read back: a value's character has that value.
pub digit_back : (v : ℕ) → v < 16 → digit (character v) ≡ v
unfolding all_below digit character encoding_in base_sixteen
digit_back v h = eqb-true _ v (all_at (λ w. eqb (digit (character w)) w) 16 v refl h)

-- The characters of the values lie between the first digit and the last: 48 is "0", 70 is "F".
pub character-within : (v : ℕ) → v < 16 → (48 ≤ character v) × (character v ≤ 70)
unfolding all_below character encoding_in base_sixteen
character-within v h =
    let both = and_both _ _ (all_at (λ w. leb 48 (character w) && leb (character w) 70) 16 v refl h) in
    (leb-true 48 (character v) both.0, leb-true (character v) 70 both.1)

-- What was read is written again: a digit is the character of its value.
back_tested : all_below (λ c. eqb (digit c) 16 || eqb (character (digit c)) c) 256 ≡ true
unfolding all_below digit character encoding_in base_sixteen
back_tested = refl

pub character_back : (c : ℕ) → c < 256 → digit c < 16 → character (digit c) ≡ c
character_back c h good =
    or_either (eqb (digit c) 16) (eqb (character (digit c)) c) (all_at _ 256 c back_tested h)
    (λ none. absurd (omega (arith, eqb-true (digit c) 16 none)))
    (λ back. eqb-true (character (digit c)) c back)
