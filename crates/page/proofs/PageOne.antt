-- The promise leaves no byte open: two answers that keep it are the same, and so are their tables.
use mathlib.Core.Path.{◌≡◌, refl, sym, ◌∙◌}
use mathlib.Core.Logic.{dite}
use mathlib.Core.Bool.{Bool, true, false, ◌&&◌}
use mathlib.Core.List.{List}
use Prim.Native.Nat.{ℕ, ◌+◌, ◌-◌, ◌*◌, ◌/◌, ◌%◌, ◌<◌}
use native.Mathlib.Decide.{ℕ_discrete}
use native.Mathlib.Omega.{arith}
use lib.ListN.{length, get_or}
use lib.Seq.{ext_get_or}
use Rattle.quantifiers.proofs.BoolLaws.{and_both}
use Rattle.sets.specs.Sets.{byte_of, member_at}
use Rattle.sets.proofs.SetLaws.{same_members}
use Rattle.sizes.specs.Sizes.{is_person, is_value}
use Rattle.frames.specs.Book.{Contents, Answer, refused, accepted}
use Rattle.planner.proofs.PromiseLaws.{never_both}
use Rattle.page.specs.Page.{Paged}
use Rattle.page.specs.Page.{Said, said, PageGiven, PageAnsweredFor, page_book, PagePromise}

module _ {b : Contents} {one two : List ℕ} (g : PageGiven b one) (h : PageGiven b two) where
  -- A bit of one is that of the other: it is never both a plan and no way.
  same_bit : (p a v : ℕ) → p < 64 → a < 8 → v < 16 → member_at one (16 * p + 2 * a) 2 v ≡ member_at two (16 * p + 2 * a) 2 v
  same_bit p a v k l m = by-present (is_person b.sizes p && is_value b.sizes a v) refl
    where
      by_bits : (x y : Bool) → is_person b.sizes p ≡ true → is_value b.sizes a v ≡ true
          → member_at one (16 * p + 2 * a) 2 v ≡ x → member_at two (16 * p + 2 * a) 2 v ≡ y → x ≡ y
      by_bits true true is value e f = refl
      by_bits false false is value e f = refl
      by_bits true false is value e f = absurd (never_both (h.clear p a v is value f) (g.set p a v is value e).works)
      by_bits false true is value e f = absurd (never_both (g.clear p a v is value e) (h.set p a v is value f).works)

      by-present : (t : Bool) → (is_person b.sizes p && is_value b.sizes a v) ≡ t → member_at one (16 * p + 2 * a) 2 v ≡ member_at two (16 * p + 2 * a) 2 v
      by-present false e = g.absent p a v k l m e ∙ sym (h.absent p a v k l m e)
      by-present true e =
          let both = and_both (is_person b.sizes p) (is_value b.sizes a v) e in
          by_bits (member_at one (16 * p + 2 * a) 2 v) (member_at two (16 * p + 2 * a) 2 v) both.0 both.1 refl refl

  -- So is a byte: its eight bits are those of one attribute's values, 0-7 or 8-15.
  same_byte : (i : ℕ) → i < 1024 → get_or one i 0 ≡ get_or two i 0
  unfolding member_at
  same_byte i low =
      same_members 8 (get_or one i 0) (get_or two i 0) (g.bytes i) (h.bytes i)
      (λ w m.
      let byte : byte_of (16 * (i / 16) + 2 * (i % 16 / 2)) 2 (8 * (1 - i % 2) + w) ≡ i = omega arith in
      let bit : (8 * (1 - i % 2) + w) % 8 ≡ w = omega arith in
      let same = same_bit (i / 16) (i % 16 / 2) (8 * (1 - i % 2) + w) (omega arith) (omega arith) (omega arith) in
      rw (byte, bit) at same)

  -- And so is the table.
  pub same_page : one ≡ two
  same_page = ext_get_or 0 one two (g.size ∙ sym h.size) (λ i low. same_byte i (omega (arith, g.size)))

-- Two answers to the same characters and the same table say the same, and leave the same bytes.
pub page_one : (chars before : List ℕ) {r s : Paged} {one two : List ℕ} → PagePromise chars before r one → PagePromise chars before s two
    → (said r ≡ said s) × (one ≡ two)
page_one chars before {r} {s} {one} {two} p q = by-book (page_book chars) (said r) (said s) p.kept q.kept
  where
    by-book : (t : Answer) (x y : Said) → PageAnsweredFor t before x one → PageAnsweredFor t before y two → (x ≡ y) × (one ≡ two)
    by-book (refused f) x y k l = (k.0 ∙ sym l.0, k.1 ∙ sym l.1)
    by-book (accepted b) x y k l =
        dite (ℕ_discrete (length before) 1024)
        (λ (e : length before ≡ 1024). ((k.filled e).0 ∙ sym (l.filled e).0, same_page (k.filled e).1 (l.filled e).1))
        (λ (e : length before ≡ 1024 → ⊥). ((k.other e).0 ∙ sym (l.other e).0, (k.other e).1 ∙ sym (l.other e).1))
