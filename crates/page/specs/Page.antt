-- The page: for each person and value whether a plan reaches it, and every byte of the lent table. Paper 02, wish 5, "The whole depot on
-- one page".
use Rattle.std.specs.Prelude.{Result, Ok, Err, ◌≡◌, true, false, ◌&&◌, List, ◌∷◌, ℕ, ◌+◌, ◌*◌, ◌<◌, length, get_or, replicate}
use Rattle.sets.specs.Sets.{put, member_at}
use Rattle.sizes.specs.Sizes.{is_person, is_value}
use Rattle.frames.specs.declared.Want.{Want}
use Rattle.frames.specs.Book.{Contents, with_query, no_want, Answer, refused, accepted, book_for}
use Rattle.frames.specs.Book as frames
use Rattle.planner.specs.Promise.{NoWay, Works}
use Rattle.frames.specs.declared.LentRefusal.{LentRefusal}

-- ---------------------------------------------------------------- what page says

-- The table's number of each refusal: "A table of another length is refused under 10."
abbrev pub refusal_number : LentRefusal → ℕ
refusal_number r = frames.lent_number 10 r

-- What page says, in the paper's numbers: done, or a refusal's number and line.
pub data Said : Type 0 where
  done : Said
  refusal : ℕ → ℕ → Said

-- The code's answer: done, or a refusal.
abbrev pub Paged : Type 0
Paged = Result (Unit {0}) LentRefusal

abbrev pub said : Paged → Said
said (Ok _) = done
said (Err r) = refusal (refusal_number r) (frames.lent_line r)

-- ---------------------------------------------------------------- one query for each bit

-- The named set of attribute a that has value v alone.
abbrev pub alone : ℕ → ℕ → Want
alone a v = record { attr = record { 0 = a }; set = put 0 v true }

-- "the mode 01 query for that person, that value alone and the roles of the book's query", in the place of the book's own.
unfoldable pub asking : Contents → ℕ → ℕ → ℕ → Contents
asking b p a v =
    with_query b
    (record {
      mode = 1;
      person = record { 0 = p };
      roles = b.query.roles;
      q = 1;
      wants = alone a v ∷ replicate 7 no_want;
      crews = 0;
    })

-- A query "would get a plan": there is a list of requests that works, as demand 3 says it of a plan.
pub record Reachable (b : Contents) : Type 0 where
  pub chain : List (List ℕ)
  pub works : Works b chain

-- ---------------------------------------------------------------- the table

-- "for each person a two-byte set for each of eight attributes, 1,024 bytes"
abbrev pub page_size : ℕ
page_size = 1024

abbrev pub page_at : ℕ → ℕ → ℕ
page_at p a = 16 * p + 2 * a

-- Every bit of the table. "A bit is set exactly when [that query] would get a plan": where it is set there is a plan, and where it is clear
-- there is no way. "Bytes of absent persons and attributes are 0", and so are the bits of absent values.
pub record PageGiven (b : Contents) (out : List ℕ) : Type 0 where
  pub size : length out ≡ page_size
  pub bytes : (i : ℕ) → get_or out i 0 < 256
  pub set : (p a v : ℕ) → is_person b.sizes p ≡ true → is_value b.sizes a v ≡ true → member_at out (page_at p a) 2 v ≡ true → Reachable (asking b p a v)
  pub clear : (p a v : ℕ) → is_person b.sizes p ≡ true → is_value b.sizes a v ≡ true → member_at out (page_at p a) 2 v ≡ false → NoWay (asking b p a v)
  pub absent : (p a v : ℕ) → p < 64 → a < 8 → v < 16 → (is_person b.sizes p && is_value b.sizes a v) ≡ false → member_at out (page_at p a) 2 v ≡ false

-- Under an accepted book: 10 where the table is not 1,024 bytes long, and the table as it was; else it is filled.
pub record PageAnswered (b : Contents) (before : List ℕ) (answer : Said) (out : List ℕ) : Type 0 where
  pub other : (length before ≡ page_size → ⊥) → (answer ≡ refusal 10 0) × (out ≡ before)
  pub filled : length before ≡ page_size → (answer ≡ done) × PageGiven b out

-- The book's refusals come first.
abbrev pub PageAnsweredFor : Answer → List ℕ → Said → List ℕ → Type 0
PageAnsweredFor (refused r) before answer out = (answer ≡ refusal (frames.refusal_number r) (frames.refusal_line r)) × (out ≡ before)
PageAnsweredFor (accepted b) before answer out = PageAnswered b before answer out

-- The book as the page reads it. Paper 02, wish 6: "The page of Wish 5 refuses every book with a "not" term by 17".
abbrev pub page_book : List ℕ → Answer
page_book chars = book_for true chars

-- The promise of page, on the book's characters.
pub record PagePromise (chars : List ℕ) (before : List ℕ) (answer : Paged) (out : List ℕ) : Type 0 where
  pub kept : PageAnsweredFor (page_book chars) before (said answer) out
