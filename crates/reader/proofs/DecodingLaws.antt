-- The frame of a line: its bytes written one after the other, until a character is no digit.
use Rattle.std.specs.Prelude.{Option, None, Some}
use mathlib.Core.Path.{◌≡◌, refl, ap, sym, subst, ◌∙◌}
use mathlib.Core.Bool.{true, false, not, true≢false}
use mathlib.Core.List.{List, [], ◌∷◌, ◌++◌, append_assoc, append-nil}
use Prim.Native.Nat.{ℕ, ◌+◌, ◌*◌, ◌/◌, ◌%◌, ◌≤◌, ◌<◌}
use native.Mathlib.Numerals.{add-one}
use native.Mathlib.Omega.{arith}
use lib.ListN.{length, get_or, take, drop, set, length-set, length-append, length-drop}
use lib.Seq.{take-suc-set, length-take-le, get_or-take, get_or-drop, drop-drop, take_at, drop_at}
use Rattle.quantifiers.specs.Quantifiers.{all}
use Rattle.quantifiers.proofs.ListLaws.{rest_out, rest_fail, rest_pass, all_take}
use Rattle.lines.specs.Digits.{digit, is_digit, malformed, frame_of}
use Rattle.lines.specs.Lines.{to_end}
use Rattle.lines.specs.Inner.Tables.{Tabled}
use Rattle.lines.specs.Inner.Cursors.{is_end}
use Rattle.lines.proofs.DigitLaws.{digit_yes, digit_no, digit_here, malformed_even}
use Rattle.lines.proofs.FrameLaws.{frame_step, frame_end, frame_length, frame_front}
use Rattle.lines.proofs.LineLaws.{end-within, end_beyond, end_found, end_at}
use Rattle.reader.specs.declared.Frame.{Frame}
use Rattle.reader.specs.declared.Frame.TheVariants.{Bytes, Long}
use Rattle.reader.specs.Inner.Decoding.{InFront, FrontOnly, DecodedAs, Decoded}
use Rattle.reader.specs.Inner.Front.{first_line, Begun}

-- The next two characters of x behind 2 × k others, and what is left behind them.
pub record Pair (x : List ℕ) (k : ℕ) (pair left : List ℕ) : Type 0 where
  pub behind : left ≡ drop (2 * (k + 1)) x
  pub high : get_or pair 0 0 ≡ get_or x (2 * k) 0
  pub low : get_or pair 1 0 ≡ get_or x (2 * k + 1) 0
  pub within : 2 * k + 2 ≤ length x

pub next_pair : (x : List ℕ) (k : ℕ) {rest : List ℕ} (pair left : List ℕ) → rest ≡ drop (2 * k) x → rest ≡ pair ++ left → length pair ≡ 2
    → Pair x k pair left
next_pair x k pair left at parts two =
    let whole : drop (2 * k) x ≡ pair ++ left = sym at ∙ parts in
    let same : pair ≡ take 2 (drop (2 * k) x) = sym (take_at pair left 2 two) ∙ ap (take 2) (sym whole) in
    let here : 2 * k + 0 ≡ 2 * k = omega arith in
    let on : 2 * k + 2 ≡ 2 * (k + 1) = omega arith in
    record {
      behind = sym (drop_at pair left 2 two) ∙ ap (drop 2) (sym whole) ∙ drop-drop 2 (2 * k) x ∙ ap (λ (n : ℕ). drop n x) on;
      high = ap (λ (l : List ℕ). get_or l 0 0) same ∙ get_or-take 2 (drop (2 * k) x) 0 0 (omega arith) ∙ get_or-drop (2 * k) x 0 0
          ∙ ap (λ (n : ℕ). get_or x n 0) here;
      low = ap (λ (l : List ℕ). get_or l 1 0) same ∙ get_or-take 2 (drop (2 * k) x) 1 0 (omega arith) ∙ get_or-drop (2 * k) x 1 0;
      within = omega (arith, ap length whole, length-append pair left, length-drop (2 * k) x, two);
    }

-- One byte more is written, by two digits; all are.
module _ (x before : List ℕ) (k : ℕ) (now : List ℕ) (b : Begun x before k now) where
  pub begun_more : (high low : ℕ) → 2 * k + 1 < length x → high ≡ digit (get_or x (2 * k) 0) → high < 16
      → low ≡ digit (get_or x (2 * k + 1) 0) → low < 16 → k < length now → Begun x before (k + 1) (set now k (high * 16 + low))
  begun_more high low both is good also fair room =
      let v = high * 16 + low in
      let rest = frame_of (drop (2 * (k + 1)) x) in
      let front : take (k + 1) (set now k v) ≡ take k now ++ (v ∷ []) = rw add-one (take-suc-set now k v room) in
      let byte : v ≡ digit (get_or x (2 * k) 0) * 16 + digit (get_or x (2 * k + 1) 0) = rw (is, also) refl in
      let on : 2 * k + 1 + 1 ≡ 2 * (k + 1) = omega arith in
      record {
        within = omega (arith, both);
        fits = omega (arith, length-set now k v);
        size = length-set now k v ∙ b.size;
        left = ap (λ (w : List ℕ). w ++ rest) front ∙ append_assoc (take k now) (v ∷ []) rest
            ∙ ap (λ (w : List ℕ). take k now ++ w) (ap (λ (w : ℕ). w ∷ rest) byte ∙ sym (frame_step x k both)) ∙ b.left;
        judged = b.judged ∙ rest_pass is_digit x (2 * k) 0 (omega arith) (digit_yes x (2 * k) high is good)
            ∙ rest_pass is_digit x (2 * k + 1) 0 both (digit_yes x (2 * k + 1) low also fair) ∙ ap (λ (n : ℕ). all is_digit (drop n x)) on;
      }

  pub begun_all : (length x ≡ 0 → ⊥) → (length x % 2 ≡ 1 → ⊥) → length x ≤ 2 * k → Decoded x (Some (Bytes k)) before now
  begun_all some even h =
      let rest = frame_end x k h in
      record {
        written = (
          malformed_even x some even ∙ ap not (b.judged ∙ rest_out is_digit x (2 * k) h),
          record { front = sym (append-nil (take k now)) ∙ ap (λ (w : List ℕ). take k now ++ w) (sym rest) ∙ b.left; fits = b.fits },
        );
        size = b.size;
      }

-- A line of an even number of characters, begun.
pub record Decoding (x before : List ℕ) (k : ℕ) (now : List ℕ) : Type 0 where
  pub some : length x ≡ 0 → ⊥
  pub even : length x % 2 ≡ 1 → ⊥
  pub begun : Begun x before k now

module _ (x before : List ℕ) (k : ℕ) (now : List ℕ) (inv : Decoding x before k now) where
  judged : malformed x ≡ not (all is_digit (drop (2 * k) x))
  judged = malformed_even x inv.some inv.even ∙ ap not inv.begun.judged

  pub decode_all : length x ≤ 2 * k → Decoded x (Some (Bytes k)) before now
  decode_all = begun_all x before k now inv.begun inv.some inv.even

  module _ (h : 2 * k < length x) (high : ℕ) (is : high ≡ digit (get_or x (2 * k) 0)) where
    pub decode-high : 16 ≤ high → Decoded x None before now
    decode-high s = record { written = judged ∙ ap not (rest_fail is_digit x (2 * k) 0 h (digit_no x (2 * k) high is s)); size = inv.begun.size }

    module _ (good : high < 16) (low : ℕ) (also : low ≡ digit (get_or x (2 * k + 1) 0)) where
      both : 2 * k + 1 < length x
      both = omega (arith, inv.even)

      pub decode-low : 16 ≤ low → Decoded x None before now
      decode-low s =
          let past = rest_pass is_digit x (2 * k) 0 h (digit_yes x (2 * k) high is good) in
          let ill = rest_fail is_digit x (2 * k + 1) 0 both (digit_no x (2 * k + 1) low also s) in
          record { written = judged ∙ ap not (past ∙ ill); size = inv.begun.size }

      pub decode-more : low < 16 → k < length now → Decoding x before (k + 1) (set now k (high * 16 + low))
      decode-more s room =
          let more = begun_more x before k now inv.begun high low both is good also s room in
          record { some = inv.some; even = inv.even; begun = more }

-- ---------------------------------------------------------------- the front of a long frame

-- A line of over 128 digits, of which the first 128 are decoded.
module _ (x before : List ℕ) (r : Option Frame) (after : List ℕ) (long : 128 < length x) (even : length x % 2 ≡ 1 → ⊥) (digits : all is_digit x ≡ true) where
  pub long_written : Decoded (take 128 x) r before after → Decoded x (Some (Long (length x / 2))) before after
  long_written d =
      record {
        written = (
          malformed_even x (λ z. omega arith) even ∙ ap not digits,
          record { over = omega (arith, long, even); count = sym (frame_length x); front = by_answer r d.written },
        );
        size = d.size;
      }
    where
      cut : length (take 128 x) ≡ 128
      cut = length-take-le 128 x (omega arith)

      front-well : malformed (take 128 x) ≡ false
      front-well = malformed_even (take 128 x) (λ z. omega (arith, cut)) (λ z. omega (arith, cut)) ∙ ap not (all_take is_digit x 128 digits)

      by_answer : (w : Option Frame) → DecodedAs (take 128 x) w after → take 64 after ≡ take 64 (frame_of x)
      by_answer None ill = absurd (true≢false (sym ill ∙ front-well))
      by_answer (Some (Bytes n)) w =
          let same : take n after ≡ take 64 (frame_of x) = w.1.front ∙ frame_front 64 x (omega arith) in
          let n64 : n ≡ 64 = sym (length-take-le n after w.1.fits) ∙ ap length same ∙ length-take-le 64 (frame_of x) (omega (arith, frame_length x)) in
          subst (λ (i : ℕ). take i after ≡ take 64 (frame_of x)) n64 same
      by_answer (Some (Long n)) w = absurd (omega (arith, cut, w.1.over, w.1.count, frame_length (take 128 x)))

-- The first line of x, decoded through a table: the next two characters are digits, so that neither ends the line.
module _ (x table before : List ℕ) (k : ℕ) (now : List ℕ) (t : Tabled table) (b : Begun (first_line x) before k now) where
  pub front_more : 2 * k + 2 ≤ length x → (i j : ℕ) → i ≡ get_or x (2 * k) 0 → i < 256 → j ≡ get_or x (2 * k + 1) 0 → j < 256
      → get_or table i 0 < 16 → get_or table j 0 < 16 → k < length now
      → Begun (first_line x) before (k + 1) (set now k (get_or table i 0 * 16 + get_or table j 0))
  front_more long i j ei si ej sj hi lo room =
      let size : length (first_line x) ≡ to_end x = length-take-le (to_end x) x (end-within x) in
      let high : get_or table i 0 ≡ digit (get_or x (2 * k) 0) = t.entry i si ∙ ap digit ei in
      let low : get_or table j 0 ≡ digit (get_or x (2 * k + 1) 0) = t.entry j sj ∙ ap digit ej in
      let one : 2 * k < to_end x = end_beyond x (2 * k) (omega (arith, b.within)) (omega arith) (digit_here _ (omega (arith, high))) in
      let two : 2 * k + 1 < to_end x = end_beyond x (2 * k + 1) (omega arith) (omega arith) (digit_here _ (omega (arith, low))) in
      begun_more (first_line x) before k now b _ _ (omega arith) (high ∙ ap digit (sym (get_or-take (to_end x) x (2 * k) 0 one))) hi
      (low ∙ ap digit (sym (get_or-take (to_end x) x (2 * k + 1) 0 two))) lo room

-- Where 0A stands behind the 2 × k characters, the line ends there, and its frame is written.
module _ (x before : List ℕ) (k : ℕ) (now : List ℕ) (b : Begun (first_line x) before k now) (e : is_end x (2 * k) ≡ true) where
  front-end : (0 < k) × (to_end x ≡ 2 * k)
  front-end =
      let at = end_at x (2 * k) e in
      (omega (arith, at.0), end_found x (2 * k) (omega (arith, b.within, length-take-le (to_end x) x (end-within x))) at.1.0 at.1.1)

  pub front_ends : to_end x ≡ 2 * k
  front_ends = front-end.1

  pub front-written : Decoded (take (2 * k) x) (Some (Bytes k)) before now
  front-written =
      let size : length (first_line x) ≡ to_end x = length-take-le (to_end x) x (end-within x) in
      subst (λ (n : ℕ). Decoded (take n x) (Some (Bytes k)) before now) front_ends
      (begun_all (first_line x) before k now b (λ z. omega (arith, front-end)) (λ z. omega (arith, front-end)) (omega (arith, front-end)))

-- What an answer tells of the line.
module _ {x : List ℕ} {r : Option Frame} {before after : List ℕ} (d : Decoded x r before after) where
  pub decoded_frame : {n : ℕ} → r ≡ Some (Bytes n) → (malformed x ≡ false) × InFront x n after
  decoded_frame {n} e = subst (λ (w : Option Frame). DecodedAs x w after) e d.written

  pub decoded_long : {n : ℕ} → r ≡ Some (Long n) → (malformed x ≡ false) × FrontOnly x n after
  decoded_long {n} e = subst (λ (w : Option Frame). DecodedAs x w after) e d.written

  pub decoded_malformed : r ≡ None → malformed x ≡ true
  decoded_malformed e = subst (λ (w : Option Frame). DecodedAs x w after) e d.written
