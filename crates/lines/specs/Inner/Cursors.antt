-- Where the code that reads line by line stands. No promise of the paper needs these.
use Rattle.std.specs.Prelude.{ℕ, ◌+◌, Bool, ◌&&◌, List, length, get_or, eqb, ltb}
use Rattle.lines.specs.declared.Cursor.{Cursor}

-- The place of a book's first line, and that of the line behind the 0A at a place. Lines are numbered from 1.
abbrev pub opening : Cursor
opening = record { at = 0; line = 1 }

abbrev pub following : Cursor → ℕ → Cursor
following c end = record { at = end + 1; line = c.line + 1 }

-- Whether 0A stands at place n, behind a character at least: an empty line is no frame.
unfoldable pub is_end : List ℕ → ℕ → Bool
is_end x n = ltb 0 n && (ltb n (length x) && eqb (get_or x n 0) 10)
