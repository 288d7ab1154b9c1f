-- What a book's first line says: how many persons, crews and attributes there are, and how many values each attribute has.
-- Paper 01, "The book", and paper 02, wish 4: "each attribute its own range". x is the line's frame.
use Rattle.std.specs.Prelude.{ℕ, ◌+◌, ◌*◌, Bool, ◌&&◌, List, [], ◌∷◌, get_or, eqb, ltb, leb}
use Rattle.quantifiers.specs.Quantifiers.{all_below, sum_below}
use Rattle.lines.specs.Digits.{byte_at}
use Rattle.sizes.specs.declared.Sizes.{Sizes}

-- ---------------------------------------------------------------- what the sizes say of a field

-- "1-64" and the like: both ends count.
abbrev pub between : ℕ → ℕ → ℕ → Bool
between lo hi n = leb lo n && leb n hi

-- How many values attribute a has: "one count [..] for each attribute"; none where the book has no such attribute.
unfoldable pub values_of : Sizes → ℕ → ℕ
values_of z a = get_or z.counts a 0

-- "All are numbered from 0": p is a person, c a crew, v a value of attribute a, "bounded by their own attribute's count".
abbrev pub is_person : Sizes → ℕ → Bool
is_person z p = ltb p z.persons

abbrev pub is_crew : Sizes → ℕ → Bool
is_crew z c = ltb c z.crews

abbrev pub is_attr : Sizes → ℕ → Bool
is_attr z a = ltb a z.attrs

abbrev pub is_value : Sizes → ℕ → ℕ → Bool
is_value z a v = is_attr z a && ltb v (values_of z a)

-- "a is the crew and v is 00"
abbrev pub is_crew_field : Sizes → ℕ → ℕ → Bool
is_crew_field z a v = is_crew z a && eqb v 0

-- ---------------------------------------------------------------- 01 P G A, then one count for each attribute

-- Count j of the frame, that of attribute j, and its range.
abbrev pub count_at : List ℕ → ℕ → ℕ
count_at x j = byte_at x (4 + j)

abbrev pub count_good_at : List ℕ → ℕ → Bool
count_good_at x j = between 1 16 (count_at x j)

-- "persons 1-64, crews 0-32, attributes 1-8"; "P G A, then one count of 1-16 for each attribute"
unfoldable pub sizes_good : List ℕ → Bool
sizes_good x =
    between 1 64 (byte_at x 1) && leb (byte_at x 2) 32 && between 1 8 (byte_at x 3) && all_below (count_good_at x) (byte_at x 3)

-- The counts, in the attributes' order; 0 behind the last, where the frame is at its end.
unfoldable pub counts_of : List ℕ → List ℕ
counts_of x = count_at x 0 ∷ count_at x 1 ∷ count_at x 2 ∷ count_at x 3 ∷ count_at x 4 ∷ count_at x 5 ∷ count_at x 6 ∷ count_at x 7 ∷ []

unfoldable pub sizes_of : List ℕ → Sizes
sizes_of x = record { persons = byte_at x 1; crews = byte_at x 2; attrs = byte_at x 3; counts = counts_of x }

-- ---------------------------------------------------------------- how many facts a plan may change

-- "the sum of the counts"
abbrev pub value_count : Sizes → ℕ
value_count z = sum_below (values_of z) z.attrs

-- "F becomes (1 + G) × the sum of the counts, plus G."
unfoldable pub fact_count : Sizes → ℕ
fact_count z = (1 + z.crews) * value_count z + z.crews
