-- How answers are written: "in the book's hexadecimal and line ends".
use Rattle.std.specs.Prelude.{ℕ, zero, suc, ◌+◌, ◌/◌, ◌%◌, cond, List, [], ◌∷◌, ◌++◌}
use Rattle.lines.specs.Digits.{character}
use Rattle.sets.specs.Sets.{member}
use Rattle.sizes.specs.Sizes.{values_of}
use Rattle.sizes.specs.declared.Sizes.{Sizes}
use Rattle.frames.specs.Book.{Contents, Answer, refused, accepted, refusal_number, refusal_line}
use Rattle.frames.specs.declared.Refusal.{Refusal}
use Rattle.replay.specs.Chains.{fives}
use Rattle.planner.specs.Answer.{Said, said80, said81, said8_f, front}

-- "digits 0-9 and A-F, two a byte": the two digits of each byte.
unfoldable pub hex : List ℕ → List ℕ
hex [] = []
hex (b ∷ bs) = character (b / 16) ∷ character (b % 16) ∷ hex bs

-- "each line ended by byte 0A"
unfoldable pub hex_line : List ℕ → List ℕ
hex_line bs = hex bs ++ 10 ∷ []

-- A number as "two bytes".
abbrev pub pair : ℕ → List ℕ
pair n = n / 256 % 256 ∷ n % 256 ∷ []

-- "`8F`, refusal number (one byte) and line (two bytes)"
unfoldable pub refused_bytes : ℕ → ℕ → List ℕ
refused_bytes number line = 143 ∷ number ∷ pair line

abbrev pub refusal_bytes : Refusal → List ℕ
refusal_bytes r = refused_bytes (refusal_number r) (refusal_line r)

-- "`80` (no way)"
unfoldable pub no_way_bytes : List ℕ
no_way_bytes = 128 ∷ []

-- "`81` and a two-byte count with the plan below it, one request a line": the first line.
unfoldable pub count_bytes : ℕ → List ℕ
count_bytes n = 129 ∷ pair n

-- The plan below it, "one request a line".
unfoldable pub request_lines : List (List ℕ) → List ℕ
request_lines [] = []
request_lines (q ∷ qs) = hex_line q ++ request_lines qs

-- How many numbers below w are members of x.
unfoldable pub size : ℕ → ℕ → ℕ
size x zero = 0
size x (suc w) = size x w + cond (member x w) 1 0

-- How many members the sets of a list have together, counting the numbers below w.
unfoldable pub total : ℕ → List ℕ → ℕ
total w [] = 0
total w (x ∷ xs) = size x w + total w xs

-- A blank, and a number as two bytes.
unfoldable pub count : ℕ → List ℕ
count n = 32 ∷ hex (pair n)

-- "01 P G A, then one count [..] for each attribute": of all eight, 0 for one that the book has not.
abbrev pub sizes_bytes : Sizes → List ℕ
sizes_bytes z =
    1 ∷ z.persons ∷ z.crews ∷ z.attrs
    ∷ values_of z 0 ∷ values_of z 1 ∷ values_of z 2 ∷ values_of z 3 ∷ values_of z 4 ∷ values_of z 5 ∷ values_of z 6 ∷ values_of z 7 ∷ []

-- The line of an accepted book where it is only judged: 01 and the sizes; how many edges, rules and starting facts it has; q.
unfoldable pub book_line : Contents → List ℕ
book_line b =
    hex (sizes_bytes b.sizes)
    ++ count (total 32 b.juniors) ++ count b.count ++ count (total 8 b.facts)
    ++ 32 ∷ hex_line (b.query.q ∷ [])

-- The line that answers a book that is only judged, by what reading it comes to.
unfoldable pub answer_line : Answer → List ℕ
answer_line (refused r) = hex_line (refusal_bytes r)
answer_line (accepted b) = book_line b

-- The text of an answer, by what plan says and the bytes of its buffer.
abbrev pub answer_text : Said → List ℕ → List ℕ
answer_text said80 plan = hex_line no_way_bytes
answer_text (said81 n) plan = hex_line (count_bytes n) ++ request_lines (fives (front n plan))
answer_text (said8_f number line) plan = hex_line (refused_bytes number line)
