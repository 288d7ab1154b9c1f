-- What reading one line of a book gives.
use Rattle.std.specs.Prelude.{None, ◌≡◌, ℕ, ◌+◌, ◌-◌, ◌≤◌, ◌<◌, List, length, take, drop}
use Rattle.reader.specs.Inner.Decoding.{Decoded}
use Rattle.lines.specs.Lines.{to_end}
use Rattle.lines.specs.Inner.Cursors.{following}
use Rattle.lines.specs.declared.Cursor.{Cursor}
use Rattle.reader.specs.declared.Line.{Line}
use Rattle.reader.specs.declared.Read.{Read}

-- Where the line that starts at a place ends: at the next 0A, or at the end of the book.
abbrev pub line_end : List ℕ → ℕ → ℕ
line_end book at = at + to_end (drop at book)

-- The characters of the line from a place to its end.
abbrev pub line_of : List ℕ → ℕ → ℕ → List ℕ
line_of book at end = take (end - at) (drop at book)

-- "each line ended by byte 0A": an unended line is malformed; an ended one writes its frame to the buffer's front, unless it is
-- malformed. Nothing is said of what an unended or malformed line leaves in the buffer.
pub record LineRead (book : List ℕ) (at : ℕ) (before : List ℕ) (line : Line) (after : List ℕ) : Type 0 where
  pub ends : line.end ≡ line_end book at
  pub unended : length book ≤ line.end → (line.frame ≡ None) × (length after ≡ length before)
  pub ended : line.end < length book → Decoded (line_of book at line.end) line.frame before after

-- The same at a cursor, with the cursor of the line behind it.
pub record FrameRead (book : List ℕ) (c : Cursor) (before : List ℕ) (read : Read) (after : List ℕ) : Type 0 where
  pub line : LineRead book c.at before (record { frame = read.frame; end = line_end book c.at }) after
  pub next : read.next ≡ following c (line_end book c.at)
