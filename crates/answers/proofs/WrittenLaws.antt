-- The laws of a lent text: characters behind characters, the digits of bytes, bytes line by line, an answer case by case.
use mathlib.Core.Path.{◌≡◌, refl, ap, sym, subst, ◌∙◌}
use mathlib.Core.List.{List, [], ◌∷◌, ◌++◌, append_assoc, append-nil}
use Prim.Native.Nat.{ℕ, zero, suc, ◌+◌, ◌-◌, ◌*◌, ◌/◌, ◌%◌, ◌≤◌, ◌<◌}
use native.Mathlib.Numerals.{add-one}
use native.Mathlib.Omega.{arith}
use lib.ListN.{length, length-append, length-set, length-take, length-drop, take, drop, set, get_or, drop_of_length-le}
use lib.Seq.{take-suc, take-suc-set, take-append-add, drop-append-add, take_at, drop_at, take_all, drop-set-lt, drop-drop, length-take-le}
use borrow.Rule.Slice.PartMut.{put_mid, same_len_mid}
use Rattle.std.proofs.Math.Nat.{add-div_left, div-eq_of_lt}
use Rattle.std.proofs.lemmas.List.{take_rest}
use Rattle.lines.specs.Digits.{character}
use Rattle.replay.specs.Chains.{fives}
use Rattle.replay.proofs.ReplayLaws.{fives_step, fives-none}
use Rattle.planner.specs.Answer.{Planned}
use Rattle.std.specs.Prelude.{Ok, Err, Some, None}
use Rattle.frames.specs.declared.LentRefusal.{LentRefusal}
use Rattle.frames.specs.Book.{lent_line}
use Rattle.planner.specs.Answer.{refusal_number, said}
use Rattle.answers.specs.Answers.{pair, hex, hex_line, no_way_bytes, count_bytes, refused_bytes, request_lines, count, answer_text}
use Rattle.answers.specs.Inner.Written.{byte_lines, Written}
use Rattle.answers.proofs.AnswerLaws.{hex_append, hex_long, line_long}

-- ---------------------------------------------------------------- characters behind characters

-- No character is written yet.
pub written_none : (text : List ℕ) (at : ℕ) → Written text at [] text at
written_none text at = record { long = omega arith; upto = sym (append-nil (take at text)); behind = refl; size = refl }

pub written_char : (text : List ℕ) (at c : ℕ) → at < length text → Written text at (c ∷ []) (set text at c) (at + 1)
written_char text at c h =
    record {
      long = refl;
      upto = rw add-one (take-suc-set text at c h);
      behind = drop-set-lt (at + 1) text at c (omega arith);
      size = length-set text at c;
    }

-- The same characters, said otherwise.
pub written_as : {a b : List ℕ} {i j : ℕ} {xs ys : List ℕ} → Written a i xs b j → xs ≡ ys → Written a i ys b j
written_as {a} {b} {i} {j} w e = subst (λ (cs : List ℕ). Written a i cs b j) e w

module _ {a b c : List ℕ} {i j k : ℕ} {xs ys : List ℕ} (p : Written a i xs b j) (q : Written b j ys c k) where
  same_behind : drop k b ≡ drop k a
  same_behind =
      ap (λ (n : ℕ). drop n b) q.long
      ∙ sym (drop-drop (length ys) j b)
      ∙ ap (drop (length ys)) p.behind
      ∙ drop-drop (length ys) j a
      ∙ ap (λ (n : ℕ). drop n a) (sym q.long)

  -- Characters written behind characters are the characters of both.
  pub written_more : Written a i (xs ++ ys) c k
  written_more =
      record {
        long = omega (arith, length-append xs ys, p.long, q.long);
        upto = q.upto ∙ ap (λ (l : List ℕ). l ++ ys) p.upto ∙ append_assoc (take i a) xs ys;
        behind = q.behind ∙ same_behind;
        size = q.size ∙ p.size;
      }

-- The end lies within the text.
pub end-within : {a b : List ℕ} {j : ℕ} {cs : List ℕ} → Written a 0 cs b j → j ≤ length b
end-within {a} {b} {j} {cs} w = omega (arith, w.long, ap length w.upto, length-take j b)

-- Behind k characters there is room for n more where k + n fit the text.
pub room_behind : {a b : List ℕ} {j : ℕ} {cs : List ℕ} (k n : ℕ) → Written a 0 cs b j → length cs ≡ k → k + n ≤ length a → j + n ≤ length b
room_behind k n w long room = omega (arith, w.long, w.size, long)

-- What is written in the front of the text behind j characters is written in the whole text.
pub written_behind : {b c ys : List ℕ} {j m n : ℕ} → j ≤ length b → m ≡ length b - j → Written (take m (drop j b)) 0 ys c n
    → Written b j ys (put_mid j m b c) (j + n)
written_behind {b} {c} {ys} {j} {m} {n} within rest w =
    record {
      long = omega (arith, w.long);
      upto = rw whole (ap (λ (k : ℕ). take (k + n) (take j b ++ c)) (sym front) ∙ take-append-add (take j b) c n) ∙ ap (λ (l : List ℕ). take j b ++ l) w.upto;
      behind =
          rw whole (ap (λ (k : ℕ). drop (k + n) (take j b ++ c)) (sym front) ∙ drop-append-add (take j b) c n)
          ∙ w.behind
          ∙ ap (λ (l : List ℕ). drop n l) part
          ∙ drop-drop n j b;
      size = same_len_mid j m b c w.size;
    }
  where
    part : take m (drop j b) ≡ drop j b
    part = rw rest (take_rest b j)

    whole : put_mid j m b c ≡ take j b ++ c
    whole =
        ap (λ (l : List ℕ). take j b ++ (c ++ l)) (drop_of_length-le (drop j b) {i = m} (omega (arith, length-drop j b)))
        ∙ ap (λ (l : List ℕ). take j b ++ l) (append-nil c)

    front : length (take j b) ≡ j
    front = length-take-le j b within

-- Characters written in the front of the text behind others are the characters of both.
pub written_on : {a b : List ℕ} {j m n : ℕ} {xs ys c : List ℕ} → Written a 0 xs b j → m ≡ length b - j → Written (take m (drop j b)) 0 ys c n
    → Written a 0 (xs ++ ys) (put_mid j m b c) (j + n)
written_on p rest q = written_more p (written_behind (end-within p) rest q)

-- ---------------------------------------------------------------- the digits of bytes

-- The two digits of a byte.
pub written_digits : (text : List ℕ) (b : ℕ) {high low : ℕ} → 2 ≤ length text → high ≡ character (b / 16) → low ≡ character (b % 16)
    → Written text 0 (hex (b ∷ [])) (set (set text 0 high) 1 low) 2
unfolding hex
written_digits text b {high} {low} room h l =
    let first = written_char text 0 high (omega arith) in
    let second = written_char (set text 0 high) 1 low (omega (arith, length-set text 0 high)) in
    written_as (written_more first second) (rw (h, l))

-- The digits of the first k bytes are written, up to `end`.
pub record Putting (before bytes : List ℕ) (k : ℕ) (text : List ℕ) (end : ℕ) : Type 0 where
  pub within : k ≤ length bytes
  pub place : end ≡ 2 * k
  pub written : Written before 0 (hex (take k bytes)) text end

pub digits_none : (text bytes : List ℕ) → Putting text bytes 0 text 0
unfolding hex
digits_none text bytes = record { within = omega arith; place = refl; written = written_none text 0 }

module _ {before bytes : List ℕ} {k : ℕ} {text : List ℕ} {end : ℕ} (so_far : Putting before bytes k text end) where
  pub digits_more : {m next : ℕ} {part : List ℕ} → k < length bytes → m ≡ length text - end
      → Written (take m (drop end text)) 0 (hex (get_or bytes k 0 ∷ [])) part next → Putting before bytes (k + 1) (put_mid end m text part) (end + next)
  unfolding hex
  digits_more more rest w =
      record {
        within = omega arith;
        place = omega (arith, so_far.place, w.long, two);
        written = written_as (written_on so_far.written rest w) all;
      }
    where
      two : length (hex (get_or bytes k 0 ∷ [])) ≡ 2
      two = refl

      all : hex (take k bytes) ++ hex (get_or bytes k 0 ∷ []) ≡ hex (take (k + 1) bytes)
      all = sym (hex_append (take k bytes) (get_or bytes k 0 ∷ [])) ∙ ap hex (sym (take-suc bytes k 0 more) ∙ ap (λ (n : ℕ). take n bytes) (sym (add-one k)))

  pub digits_all : length bytes ≤ k → Written before 0 (hex bytes) text end
  digits_all left = written_as so_far.written (ap hex (take_all k bytes left))

-- Behind the digits of a line's bytes there is room for its end, and it stands there.
module _ {before text : List ℕ} {end : ℕ} (bytes : List ℕ) (digits : Written before 0 (hex bytes) text end) where
  pub line_room : 2 * length bytes + 1 ≤ length before → end < length text
  line_room room = omega (arith, digits.long, hex_long bytes, digits.size)

  pub line_written : 2 * length bytes + 1 ≤ length before → Written before 0 (hex_line bytes) (set text end 10) (end + 1)
  unfolding hex_line
  line_written room = written_more digits (written_char text end 10 (line_room room))

-- The line of a refusal, by the two bytes of the line that it names.
pub refusal_line-written : {before after bytes : List ℕ} {end : ℕ} (number line : ℕ) → bytes ≡ pair line
    → Written before 0 (hex_line (143 ∷ number ∷ get_or bytes 0 0 ∷ get_or bytes 1 0 ∷ [])) after end
    → Written before 0 (hex_line (refused_bytes number line)) after end
unfolding refused_bytes
refusal_line-written number line two w = rw two at w

-- The two bytes of a number behind a blank.
pub count_written : (text : List ℕ) (n : ℕ) {m end : ℕ} {part bytes : List ℕ} → 0 < length text → bytes ≡ pair n
    → m ≡ length (set text 0 32) - 1 → Written (take m (drop 1 (set text 0 32))) 0 (hex bytes) part end
    → Written text 0 (count n) (put_mid 1 m (set text 0 32) part) (1 + end)
unfolding count
count_written text n room two rest w = written_on (written_char text 0 32 room) rest (rw two at w)

-- ---------------------------------------------------------------- bytes, line by line

-- The lines before those left are written, up to `end`; those left have room: two characters a byte, and an end for each line.
pub record Listing (width : ℕ) (before bytes left text : List ℕ) (end : ℕ) : Type 0 where
  pub done : List ℕ
  pub written : Written before 0 done text end
  pub room : end + (2 * length left + length left / width) ≤ length before
  pub all : byte_lines width (length bytes / width) bytes ≡ done ++ byte_lines width (length left / width) left

-- With a row more there is a whole line more.
line_more : (width : ℕ) {left : List ℕ} (row rest : List ℕ) → 0 < width → left ≡ row ++ rest → length row ≡ width
    → length left / width ≡ suc (length rest / width)
line_more width row rest wide parts long =
    ap (λ (k : ℕ). k / width) (ap length parts ∙ length-append row rest ∙ ap (λ (k : ℕ). k + length rest) long)
    ∙ add-div_left (length rest) wide
    ∙ add-one (length rest / width)

module _ {width : ℕ} {before bytes left text : List ℕ} {end : ℕ} (so_far : Listing width before bytes left text end) where
  pub list_more : (row rest : List ℕ) → 0 < width → left ≡ row ++ rest → length row ≡ width → {m next : ℕ} {part : List ℕ} → m ≡ length text - end
      → Written (take m (drop end text)) 0 (hex_line row) part next → Listing width before bytes rest (put_mid end m text part) (end + next)
  unfolding byte_lines
  list_more row rest wide parts long from w =
      record {
        done = so_far.done ++ hex_line row;
        written = written_on so_far.written from w;
        room = omega (arith, so_far.room, w.long, line_long row, ap length parts, length-append row rest, line_more width row rest wide parts long);
        all = so_far.all ∙ ap (λ (l : List ℕ). so_far.done ++ l) one ∙ sym (append_assoc so_far.done _ _);
      }
    where
      one : byte_lines width (length left / width) left ≡ hex_line row ++ byte_lines width (length rest / width) rest
      one =
          ap (λ (n : ℕ). byte_lines width n left) (line_more width row rest wide parts long)
          ∙ rw (parts, take_at row rest width long, drop_at row rest width long) refl

  pub list_all : length left < width → Written before 0 (byte_lines width (length bytes / width) bytes) text end
  unfolding byte_lines
  list_all few =
      written_as so_far.written (sym (so_far.all ∙ ap (λ (n : ℕ). so_far.done ++ byte_lines width n left) (div-eq_of_lt few) ∙ append-nil so_far.done))

-- All whole lines of five bytes each are those of a plan's requests.
lines_fives : (n : ℕ) (plan : List ℕ) → n ≡ length plan / 5 → byte_lines 5 n plan ≡ request_lines (fives plan)
unfolding byte_lines request_lines
lines_fives zero plan e = sym (ap request_lines (fives-none plan (omega arith)))
lines_fives (suc n) plan e =
    ap (λ (l : List ℕ). hex_line (take 5 plan) ++ l) (lines_fives n (drop 5 plan) (omega (arith, length-drop 5 plan)))
    ∙ sym (ap request_lines (fives_step plan (omega arith)))

-- ---------------------------------------------------------------- an answer, case by case

module _ {answer : Planned} (plan : List ℕ) {before : List ℕ} where
  pub no_way-written : {after : List ℕ} {end : ℕ} → answer ≡ Ok None → Written before 0 (hex_line (128 ∷ [])) after end
      → Written before 0 (answer_text (said answer) plan) after end
  unfolding no_way_bytes
  no_way-written e w = rw e w

  pub plan-written : {middle part bytes : List ℕ} {first m end : ℕ} (n : ℕ) → answer ≡ Ok (Some n) → bytes ≡ pair n
      → Written before 0 (hex_line (129 ∷ get_or bytes 0 0 ∷ get_or bytes 1 0 ∷ [])) middle first → m ≡ length middle - first
      → Written (take m (drop first middle)) 0 (byte_lines 5 (length (take (5 * n) plan) / 5) (take (5 * n) plan)) part end
      → Written before 0 (answer_text (said answer) plan) (put_mid first m middle part) (first + end)
  unfolding count_bytes
  plan-written n e two w rest below = rw e (written_on (rw two at w) rest (written_as below (lines_fives _ (take (5 * n) plan) refl)))

  pub refused-written : {after : List ℕ} {end : ℕ} (r : LentRefusal) {number line : ℕ} → answer ≡ Err r
      → number ≡ refusal_number r → line ≡ lent_line r
      → Written before 0 (hex_line (refused_bytes number line)) after end → Written before 0 (answer_text (said answer) plan) after end
  refused-written r e n k w = rw e (rw (n, k) at w)
