-- The table of refusals, with the paper's number, line and example of each. Paper 01, "Turned back at the gate"; 15 to 17, each
-- attribute's own range, and 10 of the page, by paper 02. What a row means is said by the product's own definitions on the book's
-- characters; no number is taken from them.
use Rattle.std.specs.Prelude.{◌≡◌, List, [], ◌∷◌, ◌++◌, ℕ, length, replicate}
use Prim.Native.String.{String}
use Rattle.facts.specs.declared.Person.{Person}
use Rattle.ledger.specs.Ledger.{Reply, Told, no_place, on_line, at_term, refusal, open_reply, request_reply}
use Rattle.ledger.specs.Show.{hidden, show_view}
use Rattle.replay.specs.Replay as replay
use Rattle.replay.specs.Replay.{replayed}
use Rattle.planner.specs.Answer.{Planned}
use Rattle.planner.specs.Answer.{said, said8_f, PlanPromise}
use Rattle.page.specs.Page.{Paged}
use Rattle.page.specs.Page as page
use Rattle.page.specs.Page.{PagePromise}
use Rattle.cases.specs.Text.{codes, written, five}
use Rattle.cases.specs.Claims.{Opened}

-- ---------------------------------------------------------------- what a row means

-- How the example of a row is tried.
pub data Trial : Type 0 where
  -- 1-9, 16 and 17: the book itself. Every operation refuses it.
  on_book : Trial
  -- 17 of the page: page refuses the book, whatever its table.
  on_page : Trial
  -- 10: plan with a buffer of so many bytes.
  buffer_of : ℕ → Trial
  -- 10: page with a table of so many bytes.
  table_of : ℕ → Trial
  -- 11: open, request and show on a ledger of so many bytes.
  ledger_of : ℕ → Trial
  -- 12 and 13: this request on the ledger of starting facts.
  asked : String → Trial
  -- 15: this request on the ledger of starting facts, and the rule and the term that are told.
  asked_for : String → ℕ → ℕ → Trial
  -- 12: show of this person on the ledger of starting facts.
  shown_to : ℕ → Trial
  -- 14: replay of a list of so many bytes.
  list_of : ℕ → Trial

-- A row: the refusal's number and line (0 for those without), the book's characters, and how they are tried.
pub record RefusalRow : Type 0 where
  pub number : ℕ
  pub line : ℕ
  pub book : List ℕ
  pub trial : Trial

abbrev pub refusal_row : ℕ → ℕ → List ℕ → Trial → RefusalRow
refusal_row n k chars t = record { number = n; line = k; book = chars; trial = t }

-- Refusal n, with what it tells, of an operation on a lent ledger: "every lent buffer keeps its bytes".
abbrev pub refusing : ℕ → Told → List ℕ → Reply
refusing n t l = record { answer = refusal n t; ledger = l }

-- The same of plan and its buffer: what its promise says of every answer.
abbrev pub PlanRefuses : List ℕ → ℕ → ℕ → List ℕ → Type 0
PlanRefuses chars n k before = (answer : Planned) (out : List ℕ) → PlanPromise chars before answer out → (said answer ≡ said8_f n k) × (out ≡ before)

-- The same of page and its table.
abbrev pub PageRefuses : List ℕ → ℕ → ℕ → List ℕ → Type 0
PageRefuses chars n k before =
    (answer : Paged) (out : List ℕ) → PagePromise chars before answer out → (page.said answer ≡ page.refusal n k) × (out ≡ before)

-- Every operation refuses the book, whatever else it is given.
pub record BookRefused (chars : List ℕ) (n k : ℕ) : Type 0 where
  pub opens : (l : List ℕ) → open_reply chars l ≡ refusing n (on_line k) l
  pub requests : (l q : List ℕ) → request_reply chars l q ≡ refusing n (on_line k) l
  pub shows : (l : List ℕ) (p : Person) → show_view chars l p ≡ hidden n (on_line k)
  pub replays : (bytes : List ℕ) → replayed chars bytes ≡ replay.refusal n k
  pub plans : (before : List ℕ) → PlanRefuses chars n k before
  pub pages : (before : List ℕ) → PageRefuses chars n k before

-- Open, request and show refuse every ledger of this size.
pub record LedgerRefused (chars : List ℕ) (size n : ℕ) : Type 0 where
  pub opens : (l : List ℕ) → length l ≡ size → open_reply chars l ≡ refusing n no_place l
  pub requests : (l q : List ℕ) → length l ≡ size → request_reply chars l q ≡ refusing n no_place l
  pub shows : (l : List ℕ) (p : Person) → length l ≡ size → show_view chars l p ≡ hidden n no_place

-- The request is refused on the ledger that open writes.
pub record RequestRefused (chars q : List ℕ) (n : ℕ) (t : Told) : Type 0 where
  pub ledger : List ℕ
  pub opened : Opened chars ledger
  pub refuses : request_reply chars ledger q ≡ refusing n t ledger

-- On that ledger the person is not shown.
pub record ShowRefused (chars : List ℕ) (p : Person) (n : ℕ) : Type 0 where
  pub ledger : List ℕ
  pub opened : Opened chars ledger
  pub refuses : show_view chars ledger p ≡ hidden n no_place

-- Refusal n with line k falls on the book's characters as they are tried; k is 0 for those without a line.
unfoldable pub Refuses : List ℕ → ℕ → ℕ → Trial → Type 0
Refuses chars n k on_book = BookRefused chars n k
Refuses chars n k on_page = (before : List ℕ) → PageRefuses chars n k before
Refuses chars n k (buffer_of size) = (before : List ℕ) → length before ≡ size → PlanRefuses chars n k before
Refuses chars n k (table_of size) = (before : List ℕ) → length before ≡ size → PageRefuses chars n k before
Refuses chars n k (ledger_of size) = (k ≡ 0) × LedgerRefused chars size n
Refuses chars n k (asked q) = (k ≡ 0) × RequestRefused chars (five q) n no_place
Refuses chars n k (asked_for q rule term) = (k ≡ 0) × RequestRefused chars (five q) n (at_term rule term)
Refuses chars n k (shown_to p) = (k ≡ 0) × ShowRefused chars (record { 0 = p }) n
Refuses chars n k (list_of size) = (bytes : List ℕ) → length bytes ≡ size → replayed chars bytes ≡ replay.refusal n k

-- What a row claims.
abbrev pub Turned : RefusalRow → Type 0
Turned r = Refuses r.book r.number r.line r.trial

-- ---------------------------------------------------------------- the table

-- A good first line: one person, one crew, one attribute, values 0 and 1.
abbrev pub good_first : String
good_first = "0101010102"

-- A good last line: "q = 0, mode 01".
abbrev pub good_last : String
good_last = "050100FFFF00"

-- A book that is good but for the line "below a good first line".
abbrev pub below_first : String → List ℕ
below_first x = written (good_first ∷ x ∷ good_last ∷ [])

-- A rule: role 0 may add value 0 to a person.
abbrev pub good_rule : String
good_rule = "030100000000"

abbrev pub good_book : List ℕ
good_book = written (good_first ∷ good_rule ∷ good_last ∷ [])

-- Person 0 holds value 0. Behind the rule above, given twice, role 1 may add value 1 to who directly holds 0 and 1, or 1.
abbrev pub unmet_book : List ℕ
unmet_book = written (good_first ∷ good_rule ∷ good_rule ∷ "030101000102010000010001" ∷ "030101000101010001" ∷ "0401000000" ∷ good_last ∷ [])

-- A first line of two attributes, the one of 2 values, the other of 3: value 2 is one of the second attribute's alone.
abbrev pub own_ranges : String
own_ranges = "010101020203"

-- A book that is good but for the line below such a first line.
abbrev pub below_own : String → List ℕ
below_own x = written (own_ranges ∷ x ∷ good_last ∷ [])

-- Role 0 may add value 0 to who does not directly hold value 1.
abbrev pub not_rule : String
not_rule = "030100000001810001"

-- A last line of mode 03 that asks for nothing, as mode 02 is laid out.
abbrev pub grow_last : String
grow_last = "050300FFFF0000000000"

-- That rule, another line, and such a last line.
abbrev pub beside_not : String → List ℕ
beside_not x = written (good_first ∷ not_rule ∷ x ∷ grow_last ∷ [])

-- "Each returns its number, and 1-9 a line (1 for refusal 1: line 0)". Above each row its "when", then its example; where the "when" has
-- several cases, one more example for each.
unfoldable pub refusals : List RefusalRow
refusals =
    -- "over 65,536 characters": "65,537 of them"
    refusal_row 1 0 (replicate 65537 48) on_book
    -- "empty line, odd digits, another character, last line unended": `03 1`
    ∷ refusal_row 2 2 (below_first "03 1") on_book
    ∷ refusal_row 2 2 (below_first "") on_book
    ∷ refusal_row 2 2 (below_first "020") on_book
    ∷ refusal_row 2 2 (written (good_first ∷ []) ++ codes good_last) on_book
    -- "first frame not 01, a later 01, kind not 01-05, a frame after 05, book ends without 05 (line after the last)": "empty book, line 1"
    ∷ refusal_row 3 1 [] on_book
    ∷ refusal_row 3 1 (written (good_last ∷ [])) on_book
    ∷ refusal_row 3 2 (below_first good_first) on_book
    ∷ refusal_row 3 2 (below_first "06") on_book
    ∷ refusal_row 3 3 (written (good_first ∷ good_last ∷ good_rule ∷ [])) on_book
    ∷ refusal_row 3 2 (written (good_first ∷ [])) on_book
    -- "any length but the one that the kind, with its n or q, gives": `0200`
    ∷ refusal_row 4 2 (below_first "0200") on_book
    -- Paper 02, "Refusal 4 judges frame 01 by its A": one count for two attributes, nine attributes of which one count is missing
    ∷ refusal_row 4 1 (written ("0101010202" ∷ good_last ∷ [])) on_book
    ∷ refusal_row 4 1 (written ("010101090202020202020202" ∷ good_last ∷ [])) on_book
    -- "a field outside its range, n over 8, q over 8, a set bit outside the sizes": `0100010102`
    ∷ refusal_row 5 1 (written ("0100010102" ∷ good_last ∷ [])) on_book
    ∷ refusal_row 5 2 (below_first "030100000009010000010000010000010000010000010000010000010000010000") on_book
    ∷ refusal_row 5 2 (written (good_first ∷ "050100FFFF09000001000001000001000001000001000001000001000001000001" ∷ [])) on_book
    ∷ refusal_row 5 2 (written (good_first ∷ "050100FFFF01000004" ∷ [])) on_book
    -- Paper 02, "one count of 1-16 for each attribute": no attribute, nine of them, a count of 17
    ∷ refusal_row 5 1 (written ("01010100" ∷ good_last ∷ [])) on_book
    ∷ refusal_row 5 1 (written ("01010109020202020202020202" ∷ good_last ∷ [])) on_book
    ∷ refusal_row 5 1 (written ("010101020211" ∷ good_last ∷ [])) on_book
    -- Paper 02, "All value fields, query sets [..] are bounded by their own attribute's count": a rule, a term, a fact, a set
    ∷ refusal_row 5 2 (below_own "030100000200") on_book
    ∷ refusal_row 5 2 (below_own "030100010201010002") on_book
    ∷ refusal_row 5 2 (below_own "0401000002") on_book
    ∷ refusal_row 5 2 (written (own_ranges ∷ "050100FFFF01000004" ∷ [])) on_book
    -- "j not smaller than s": `020000`, "G at least 1"
    ∷ refusal_row 6 2 (below_first "020000") on_book
    -- "term 03 or 04 in ops 01-04": `030100000001030000`, "G at least 1"
    ∷ refusal_row 7 2 (below_first "030100000001030000") on_book
    ∷ refusal_row 7 2 (below_first "030400000001040000") on_book
    -- Paper 02, "83 [..] only in ops 05, 06, else refusal 7"
    ∷ refusal_row 7 2 (below_first "030100000001830000") on_book
    -- "the 513th rule": "513 rules"
    ∷ refusal_row 8 514 (written (good_first ∷ replicate 513 good_rule ++ (good_last ∷ []))) on_book
    -- "query attributes not rising": "attribute 00 twice"
    ∷ refusal_row 9 2 (written (good_first ∷ "050100FFFF02000001000001" ∷ [])) on_book
    -- "plan buffer under 10 × F": "39 bytes at F = 4"
    ∷ refusal_row 10 0 (written ("0101000104" ∷ good_last ∷ [])) (buffer_of 39)
    -- Paper 02, "F becomes (1 + G) × the sum of the counts, plus G": 2 × (2 + 3) + 1
    ∷ refusal_row 10 0 (below_own good_rule) (buffer_of 109)
    -- Paper 02, "A table of another length is refused under 10": a byte short, a byte too long
    ∷ refusal_row 10 0 good_book (table_of 1023)
    ∷ refusal_row 10 0 good_book (table_of 1025)
    -- "ledger not 1,792 bytes or a bit outside the sizes": "1,791 bytes"
    ∷ refusal_row 11 0 good_book (ledger_of 1791)
    -- "request not five bytes or field out of range": "op `07`"
    ∷ refusal_row 12 0 good_book (asked "0700000000")
    ∷ refusal_row 12 0 good_book (asked "01000000")
    ∷ refusal_row 12 0 (below_own good_rule) (asked "0100000002")
    -- "no such person to show": person 1
    ∷ refusal_row 12 0 good_book (shown_to 1)
    -- "not permitted": "a role without rules"
    ∷ refusal_row 13 0 good_book (asked "0101000000")
    -- Paper 02, "Where rules match and each has a term that does not hold": value 1 by role 1, the third rule and its second term
    ∷ refusal_row 15 0 unmet_book (asked_for "0101000001" 3 2)
    -- "plan length no multiple of five": "7 bytes"
    ∷ refusal_row 14 0 good_book (list_of 7)
    -- Paper 02, "A book with such a term has only ops 01, 03 and 05, at most one rule for each op, a and v, and only terms 01, 03, 81,
    -- 83": "A book breaking the first limits gets 16 [..] with the line of the 05 frame". A deletion; another role for the same value; a
    -- term 02; "A rule given twice counts as two here"
    ∷ refusal_row 16 4 (beside_not "030200000000") on_book
    ∷ refusal_row 16 4 (beside_not "030101000000") on_book
    ∷ refusal_row 16 4 (beside_not "030100000101020000") on_book
    ∷ refusal_row 16 4 (beside_not not_rule) on_book
    -- "mode 03 without a `not` term or another mode with one gets 17"
    ∷ refusal_row 17 3 (written (good_first ∷ good_rule ∷ grow_last ∷ [])) on_book
    ∷ refusal_row 17 3 (written (good_first ∷ not_rule ∷ good_last ∷ [])) on_book
    -- "16 before 17, both only where no line has any of 1-9"
    ∷ refusal_row 16 4 (written (good_first ∷ not_rule ∷ not_rule ∷ good_last ∷ [])) on_book
    ∷ refusal_row 5 4 (written (good_first ∷ not_rule ∷ not_rule ∷ "050301FFFF0000000000" ∷ [])) on_book
    -- "The page of Wish 5 refuses every book with a `not` term by 17"
    ∷ refusal_row 17 3 (written (good_first ∷ not_rule ∷ grow_last ∷ [])) on_page
    ∷ []
