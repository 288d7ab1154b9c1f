-- The rows that the flags show are right, and are the page.
use mathlib.Core.Path.{◌≡◌, refl, ap, sym, subst, ◌∙◌}
use mathlib.Core.Logic.{dite}
use mathlib.Core.Bool.{Bool, true, false, ◌&&◌, and-true, and-false, true≢false}
use mathlib.Core.List.{List}
use Prim.Native.Nat.{ℕ, ◌+◌, ◌*◌, ◌<◌}
use native.Mathlib.Decide.{dec_lt}
use native.Mathlib.Omega.{arith}
use lib.ListN.{length, get_or}
use borrow.Author.Tests.{lt-ltb, ltb-true}
use Rattle.quantifiers.proofs.BoolLaws.{not_on}
use Rattle.sizes.specs.Sizes.{is_value}
use Rattle.sizes.proofs.SizeLaws.{value_bounds}
use Rattle.frames.specs.declared.Refusal as frames
use Rattle.frames.specs.Book.{Contents, with_query, refused, accepted}
use Rattle.frames.specs.Inner.Fits.{Admitted}
use Rattle.planner.specs.Promise.{NoWay}
use Rattle.words.specs.Inner.Words.{column}
use Rattle.rows.specs.Inner.Rows.{bit_of, RowsShown}
use Rattle.page.specs.Page.{Paged}
use Rattle.std.specs.Prelude.{Err}
use Rattle.frames.specs.declared.LentRefusal.TheVariants.{BadBook}
use Rattle.page.specs.Page.{done, refusal, said, asking, Reachable, PageGiven, PageAnswered, page_book, PagePromise}
use Rattle.page.specs.Inner.Rows.{roaming, RowsRight}
use Rattle.page.proofs.PageLaws.{roams_asking}

-- Where the flags of each person decide the person's values, the rows shown are right.
module _ {b : Contents} (ok : Admitted b) {ws : List ℕ} {n : ℕ} {out : List ℕ} (rows : RowsShown b.sizes ws n out)
    (set-right : (p : ℕ) → p < n → (a v : ℕ) → is_value b.sizes a v ≡ true → get_or (column ws p) (160 + (16 * a + v)) false ≡ true
    → Reachable (asking b p a v))
    (clear-right : (p : ℕ) → p < n → (a v : ℕ) → is_value b.sizes a v ≡ true → get_or (column ws p) (160 + (16 * a + v)) false ≡ false
    → NoWay (asking b p a v)) where
  -- A bit of a row is the flag, where the value is the book's.
  own-bit : (p a v : ℕ) → p < n → is_value b.sizes a v ≡ true → bit_of out p a v ≡ get_or (column ws p) (160 + (16 * a + v)) false
  own-bit p a v m value =
      let low = value_bounds b.sizes a v ok.sized value in
      rows.own p a v m low.0 low.1 ∙ ap (λ (t : Bool). get_or (column ws p) (160 + (16 * a + v)) false && t) value
      ∙ and-true (get_or (column ws p) (160 + (16 * a + v)) false)

  pub rows_right : RowsRight b n out
  rows_right =
      record {
        size = rows.size;
        bytes = rows.bytes;
        set = λ p a v m value on. set-right p m a v value (sym (own-bit p a v m value) ∙ on);
        clear = λ p a v m value off. clear-right p m a v value (sym (own-bit p a v m value) ∙ off);
        absent = λ p a v l h none. dite (dec_lt p n)
            (λ (m : p < n).
            rows.own p a v m l h ∙ ap (λ (t : Bool). get_or (column ws p) (160 + (16 * a + v)) false && t) (none m)
            ∙ and-false (get_or (column ws p) (160 + (16 * a + v)) false))
            (λ (m : p < n → ⊥). rows.rest p a v (omega arith) l h);
      }

-- The same rows, of a book that is the same.
pub rows_same : {b t : Contents} {n : ℕ} {out : List ℕ} → b ≡ t → RowsRight b n out → RowsRight t n out
rows_same {n = n} {out} e r = subst (λ (i : Contents). RowsRight i n out) e r

-- All rows of the book with nothing asked are the page of the book.
pub rows_given : (b : Contents) {out : List ℕ} → RowsRight (roaming b 0) b.sizes.persons out → PageGiven b out
unfolding roaming with_query
rows_given b {out} r =
    record {
      size = r.size;
      bytes = r.bytes;
      set = λ p a v is value on.
          subst Reachable (roams_asking b p a v) (r.set p a v (ltb-true p b.sizes.persons is) value on);
      clear = λ p a v is value off.
          subst NoWay (roams_asking b p a v) (r.clear p a v (ltb-true p b.sizes.persons is) value off);
      absent = λ p a v k l h none. r.absent p a v l h
          (λ m. not_on (is_value b.sizes a v) (λ value. true≢false (sym (rw (lt-ltb p b.sizes.persons m, value) refl) ∙ none)));
    }

-- ---------------------------------------------------------------- the answer

module _ (b : Contents) (before : List ℕ) where
  -- A table of another length is refused, as it was.
  pub answered_other : (length before ≡ 1024 → ⊥) → PageAnswered b before (refusal 10 0) before
  answered_other h = record { other = λ l. (refl, refl); filled = λ e. absurd (h e) }

  pub answered_filled : length before ≡ 1024 → {out : List ℕ} → PageGiven b out → PageAnswered b before done out
  answered_filled e given = record { other = λ h. absurd (h e); filled = λ l. (refl, given) }

-- The promise, of a refused book and of an accepted one.
pub promise_refused : (chars before : List ℕ) {r : frames.Refusal} → page_book chars ≡ refused r → PagePromise chars before (Err (BadBook r)) before
promise_refused chars before e = record { kept = rw e (refl, refl) }

pub promise_accepted : (chars before : List ℕ) (answer : Paged) (out : List ℕ) {b : Contents} → page_book chars ≡ accepted b
    → PageAnswered b before (said answer) out → PagePromise chars before answer out
promise_accepted chars before answer out e answered = record { kept = rw e answered }
