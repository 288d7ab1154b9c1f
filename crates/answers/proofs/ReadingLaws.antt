-- The laws of the line that answers a judged book: an accepted book's part by part, and a refused one's.
use mathlib.Core.Path.{◌≡◌}
use mathlib.Core.List.{List, [], ◌∷◌, ◌++◌}
use Prim.Native.Nat.{ℕ, zero, suc, ◌+◌, ◌-◌, ◌*◌, ◌≤◌, ◌<◌}
use native.Mathlib.Numerals.{add-one}
use native.Mathlib.Omega.{arith}
use lib.ListN.{length, length-set, take, drop, set, get_or}
use borrow.Rule.Slice.PartMut.{put_mid}
use Rattle.frames.specs.Book.{Contents, contents_of, told_in, refusal_number, refusal_line}
use Rattle.frames.specs.declared.Refusal.{Refusal}
use Rattle.frames.specs.declared.Book.{Book}
use Rattle.std.specs.Prelude.{Ok, Err}
use Rattle.answers.specs.Answers.{hex, hex_line, refused_bytes, total, count, sizes_bytes, book_line, answer_line}
use Rattle.answers.specs.Inner.Written.{Written}
use Rattle.answers.proofs.WrittenLaws.{written_char, written_more, written_behind, written_on}

-- Behind what stands in front, the first k counts.
pub counts : (front ns : List ℕ) → ℕ → List ℕ
counts front ns zero = front
counts front ns (suc k) = counts front ns k ++ count (get_or ns k 0)

-- The first k counts are written, up to `end`: a blank and four digits each.
pub record Counting (before front ns : List ℕ) (k : ℕ) (text : List ℕ) (end : ℕ) : Type 0 where
  pub place : end ≡ length front + 5 * k
  pub written : Written before 0 (counts front ns k) text end

pub counts_none : {before front text : List ℕ} {end : ℕ} (ns : List ℕ) → Written before 0 front text end → Counting before front ns 0 text end
unfolding counts
counts_none ns w = record { place = omega (arith, w.long); written = w }

pub counts_more : {before front ns text part : List ℕ} {k m end next : ℕ} → Counting before front ns k text end → m ≡ length text - end
    → Written (take m (drop end text)) 0 (count (get_or ns k 0)) part next → Counting before front ns (k + 1) (put_mid end m text part) (end + next)
unfolding counts count hex
counts_more {k = k} so_far rest w =
    record { place = omega (arith, so_far.place, w.long); written = rw (add-one k) (written_on so_far.written rest w) }

-- The sizes and the three counts, a blank and q, one behind the other.
pub book_written : (b : Contents) {before counted part : List ℕ} {edges facts k l m end : ℕ} → edges ≡ total 32 b.juniors → facts ≡ total 8 b.facts
    → k ≡ 3 → Counting before (hex (sizes_bytes b.sizes)) (edges ∷ b.count ∷ facts ∷ []) k counted l
    → l < length counted → m ≡ length (set counted l 32) - (l + 1)
    → Written (take m (drop (l + 1) (set counted l 32))) 0 (hex_line (b.query.q ∷ [])) part end
    → Written before 0 (book_line b) (put_mid (l + 1) m (set counted l 32) part) (l + 1 + end)
unfolding book_line counts
book_written b {counted = counted} {l = l} e f all so_far room rest asked =
    let behind : l + 1 ≤ length (set counted l 32) = omega (arith, length-set counted l 32) in
    written_more (rw (all, e, f) at so_far.written) (written_more (written_char counted l 32 room) (written_behind behind rest asked))

module _ (b : Book) {before after : List ℕ} {end : ℕ} where
  pub refused_answered : (f : Refusal) {number line : ℕ} → number ≡ refusal_number f → line ≡ refusal_line f
      → Written before 0 (hex_line (refused_bytes number line)) after end → Written before 0 (answer_line (told_in (Err f) b)) after end
  unfolding answer_line
  refused_answered f n k w = rw (n, k) at w

  pub accepted_answered : Written before 0 (book_line (contents_of b)) after end → Written before 0 (answer_line (told_in (Ok tt) b)) after end
  unfolding answer_line
  accepted_answered w = w
