-- The laws of written answers: the digits of bytes, digits read back, and counts.
use mathlib.Core.Path.{◌≡◌, refl, ap, ◌∙◌}
use mathlib.Core.Bool.{true, false}
use mathlib.Core.List.{List, [], ◌∷◌, ◌++◌}
use Prim.Native.Nat.{ℕ, suc, ◌+◌, ◌*◌, ◌/◌, ◌%◌, ◌<◌}
use native.Mathlib.Numerals.{add-one}
use native.Mathlib.Omega.{arith}
use lib.ListN.{length, length-append, get_or}
use Rattle.std.specs.List.{sum_by}
use Rattle.std.proofs.lemmas.List.Recursion.{is_sum_by}
use Rattle.sets.specs.Sets.{member}
use Rattle.lines.specs.Digits.{character, frame_of}
use Rattle.lines.proofs.TableLaws.{digit_back}
use Rattle.answers.specs.Answers.{hex, hex_line, size, total}

-- ---------------------------------------------------------------- the digits of bytes

-- The digits of two lists of bytes, one behind the other.
pub hex_append : (xs ys : List ℕ) → hex (xs ++ ys) ≡ hex xs ++ hex ys
unfolding hex
hex_append [] ys = refl
hex_append (x ∷ xs) ys = ap (λ (l : List ℕ). character (x / 16) ∷ character (x % 16) ∷ l) (hex_append xs ys)

-- Two digits a byte.
pub hex_long : (bs : List ℕ) → length (hex bs) ≡ 2 * length bs
unfolding hex
hex_long [] = refl
hex_long (b ∷ bs) = omega (arith, hex_long bs)

-- A line has two digits a byte, and its end.
pub line_long : (bs : List ℕ) → length (hex_line bs) ≡ 2 * length bs + 1
unfolding hex_line
line_long bs = length-append (hex bs) (10 ∷ []) ∙ rw (hex_long bs)

-- Five bytes, one by one.
pub five_bytes : (q : List ℕ) → length q ≡ 5 → q ≡ get_or q 0 0 ∷ get_or q 1 0 ∷ get_or q 2 0 ∷ get_or q 3 0 ∷ get_or q 4 0 ∷ []
five_bytes [] h = absurd (omega arith)
five_bytes (op ∷ []) h = absurd (omega arith)
five_bytes (op ∷ role ∷ []) h = absurd (omega arith)
five_bytes (op ∷ role ∷ s ∷ []) h = absurd (omega arith)
five_bytes (op ∷ role ∷ s ∷ a ∷ []) h = absurd (omega arith)
five_bytes (op ∷ role ∷ s ∷ a ∷ v ∷ []) h = refl
five_bytes (op ∷ role ∷ s ∷ a ∷ v ∷ x ∷ rest) h = absurd (omega arith)

-- ---------------------------------------------------------------- digits read back

-- Reading the digits of bytes back gives the bytes.
pub read_back : (bs : List ℕ) → ((i : ℕ) → get_or bs i 0 < 256) → frame_of (hex bs) ≡ bs
unfolding hex frame_of
read_back [] h = refl
read_back (b ∷ bs) h =
    let small : b < 256 = h 0 in
    let byte : b / 16 * 16 + b % 16 ≡ b = omega arith in
    rw (digit_back (b / 16) (omega arith), digit_back (b % 16) (omega arith), byte, read_back bs (λ i. h (suc i))) refl

-- ---------------------------------------------------------------- counts

-- One number more is counted where it is a member.
pub size_in : (x v : ℕ) → member x v ≡ true → size x (v + 1) ≡ size x v + 1
unfolding size
size_in x v e = rw (add-one v, e)

pub size_out : (x v : ℕ) → member x v ≡ false → size x (v + 1) ≡ size x v
unfolding size
size_out x v e = rw (add-one v, e) (omega arith)

-- The total is the sum of the sizes.
pub total_sum : (w : ℕ) (xs : List ℕ) → total w xs ≡ sum_by (λ (x : ℕ). size x w) xs
unfolding total
total_sum w = is_sum_by (total w) (λ (x : ℕ). size x w) refl (λ x xs. refl)
