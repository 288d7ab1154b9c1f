-- A book that is refused is refused to the page too, by the same number at the same line: the page's 17 stands behind all others.
use mathlib.Core.Path.{◌≡◌}
use mathlib.Core.Bool.{Bool, true, false, not, cond, ◌&&◌, ◌||◌}
use mathlib.Core.List.{List, [], ◌∷◌}
use Prim.Native.Nat.{ℕ, ◌+◌, ◌-◌}
use native.Mathlib.Omega.{arith}
use lib.Dec.{ltb}
use lib.ListN.{length}
use Rattle.lines.specs.Digits.{frame_of}
use Rattle.lines.specs.Lines.{Line, ended, unended, lines}
use Rattle.gate.specs.Gate.{line_verdict}
use Rattle.gate.specs.declared.Fault.TheVariants.{Misplaced, BeyondNot, WrongMode}
use Rattle.std.specs.Prelude.{Ok, Err}
use Rattle.gate.specs.Gate.{Verdict}
use Rattle.gate.specs.Gate.{Good, Bad}
use Rattle.frames.specs.Limits.{all_plain, beyond_not, wrong_mode}
use Rattle.frames.specs.declared.Refusal.{Refusal}
use Rattle.frames.specs.declared.Refusal.TheVariants.{TooLong, BadLine}
use Rattle.frames.specs.Book.{Contents, Entered, Answer, refused, accepted, contents, onward, enter, nothing, last_fault, walk, book_for, book_of}

accepted_refused : {A : Type 0} (b : Contents) (r : Refusal) → accepted b ≡ refused r → A
accepted_refused b r e = let z : ◌≡◌ {A = ℕ} 0 1 = cc in absurd (omega arith)

-- asked: the query stands; beyond: 16 falls; wrong: 17 does; nots: there is a "not" term.
last_refused : (asked beyond wrong nots : Bool) (k : ℕ) (b : Contents) (missing : Answer) (r : Refusal)
    → cond asked (onward (cond beyond (Bad BeyondNot) (cond (wrong || (false && nots)) (Bad WrongMode) Good)) k (accepted b)) missing ≡ refused r
    → cond asked (onward (cond beyond (Bad BeyondNot) (cond (wrong || (true && nots)) (Bad WrongMode) Good)) k (accepted b)) missing ≡ refused r
last_refused false beyond wrong nots k b missing r e = e
last_refused true true wrong nots k b missing r e = e
last_refused true false true nots k b missing r e = e
last_refused true false false nots k b missing r e = accepted_refused b r e

line_refused : (v : Verdict) (k : ℕ) (rest paged : Answer) (r : Refusal) → (rest ≡ refused r → paged ≡ refused r)
    → onward v k rest ≡ refused r → onward v k paged ≡ refused r
line_refused (Ok _) k rest paged r next e = next e
line_refused (Err f) k rest paged r next e = e

walk_refused : (s : Entered) (k : ℕ) (ls : List Line) (r : Refusal) → walk false s k ls ≡ refused r → walk true s k ls ≡ refused r
unfolding walk last_fault
walk_refused s k [] r e =
    last_refused s.known.asked (beyond_not s.rules) (wrong_mode s.rules s.query.mode) (not (all_plain s.rules)) (k - 1) (contents s)
    (refused (BadLine Misplaced k)) r e
walk_refused s k (unended x ∷ ls) r e = e
walk_refused s k (ended x ∷ ls) r e =
    line_refused (line_verdict s.known x) k (walk false (enter s (frame_of x)) (k + 1) ls) (walk true (enter s (frame_of x)) (k + 1) ls) r
    (walk_refused (enter s (frame_of x)) (k + 1) ls r) e

pub refused_page : (chars : List ℕ) (r : Refusal) → book_of chars ≡ refused r → book_for true chars ≡ refused r
unfolding book_of book_for
refused_page chars r e = by_length (ltb 65536 (length chars)) e
  where
    by_length : (long : Bool) → cond long (refused TooLong) (walk false nothing 1 (lines chars)) ≡ refused r
        → cond long (refused TooLong) (walk true nothing 1 (lines chars)) ≡ refused r
    by_length true f = f
    by_length false f = walk_refused nothing 1 (lines chars) r f
