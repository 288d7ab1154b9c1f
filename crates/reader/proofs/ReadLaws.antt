-- A line read in one pass or in two, and what is known of the line where a frame was read at a cursor.
use Rattle.std.specs.Prelude.{Option, None, Some}
use mathlib.Core.Path.{◌≡◌, sym, ap, subst, ◌∙◌}
use mathlib.Core.Bool.{true, false}
use mathlib.Core.List.{List}
use mathlib.Core.Logic.{dite}
use Prim.Native.Nat.{ℕ, ◌+◌, ◌-◌, ◌*◌, ◌<◌}
use native.Mathlib.Decide.{dec_lt}
use native.Mathlib.Omega.{arith}
use lib.ListN.{length, take, drop, length-drop}
use lib.Seq.{take_all}
use Rattle.lines.specs.Digits.{malformed}
use Rattle.reader.specs.Inner.Decoding.{InFront, FrontOnly, Decoded}
use Rattle.lines.specs.Lines.{to_end}
use Rattle.reader.specs.Inner.Front.{first_line, Begun}
use Rattle.lines.specs.Inner.Cursors.{is_end}
use Rattle.lines.specs.declared.Cursor.{Cursor}
use Rattle.reader.specs.declared.Frame.{Frame}
use Rattle.reader.specs.declared.Frame.TheVariants.{Bytes, Long}
use Rattle.reader.proofs.DecodingLaws.{decoded_frame, decoded_long, decoded_malformed, front_ends, front-written}
use Rattle.lines.proofs.LineLaws.{end_at}
use Rattle.reader.specs.declared.Read.{Read}
use Rattle.reader.specs.Inner.Reading.{line_end, line_of, LineRead, FrameRead}

-- The characters from a place on, as the code lends them.
pub rest_of : (book : List ℕ) (at : ℕ) → take (length book - at) (drop at book) ≡ drop at book
rest_of book at = take_all (length book - at) (drop at book) (omega (arith, length-drop at book))

-- One pass from a place on: 0A stands behind the digits of k bytes.
module _ (book : List ℕ) (at : ℕ) (x : List ℕ) (is : x ≡ drop at book)
    (before : List ℕ) (k : ℕ) (after : List ℕ) (b : Begun (first_line x) before k after) (e : is_end x (2 * k) ≡ true) where
  pub front_inside : at + 2 * k < length book
  front_inside = omega (arith, end_at x (2 * k) e, ap length is, length-drop at book)

  pub front_read : LineRead book at before (record { frame = Some (Bytes k); end = at + 2 * k }) after
  front_read =
      let size : to_end x ≡ 2 * k = front_ends x before k after b e in
      let same : 2 * k ≡ at + 2 * k - at = omega arith in
      record {
        ends = ap (λ (n : ℕ). at + n) (sym size ∙ ap to_end is);
        unended = λ h. absurd (omega (arith, h, front_inside));
        ended = λ h. subst (λ (n : ℕ). Decoded (take n (drop at book)) (Some (Bytes k)) before after) same
            (subst (λ (w : List ℕ). Decoded (take (2 * k) w) (Some (Bytes k)) before after) is (front-written x before k after b e));
      }

abbrev HasFrame : Option Frame → Type 0
HasFrame None = ⊥
HasFrame (Some f) = Unit

module _ {book : List ℕ} {c : Cursor} {before : List ℕ} {r : Read} {after : List ℕ} (p : FrameRead book c before r after) where
  -- Where the line ends, and its characters.
  abbrev end : ℕ
  end = line_end book c.at

  abbrev line : List ℕ
  line = line_of book c.at end

  pub read_size : length after ≡ length before
  read_size = dite (dec_lt end (length book)) (λ (h : end < length book). (p.line.ended h).size)
      (λ (h : end < length book → ⊥). (p.line.unended (omega (arith, h))).1)

  -- Only an ended line has a frame.
  read_ended : HasFrame r.frame → end < length book
  read_ended f = dite (dec_lt end (length book)) (λ (h : end < length book). h)
      (λ (h : end < length book → ⊥). absurd (subst HasFrame (p.line.unended (omega (arith, h))).0 f))

  pub read_bytes : {n : ℕ} → r.frame ≡ Some (Bytes n) → (end < length book) × ((malformed line ≡ false) × InFront line n after)
  read_bytes e = let h = read_ended (subst HasFrame (sym e) tt) in (h, decoded_frame (p.line.ended h) e)

  pub read_long : {n : ℕ} → r.frame ≡ Some (Long n) → (end < length book) × ((malformed line ≡ false) × FrontOnly line n after)
  read_long e = let h = read_ended (subst HasFrame (sym e) tt) in (h, decoded_long (p.line.ended h) e)

  pub read_malformed : r.frame ≡ None → end < length book → malformed line ≡ true
  read_malformed e h = decoded_malformed (p.line.ended h) e
