-- `lines::line_end` meets its contract: the search finds the first 0A behind the place, or none. Assumes nothing.
use native.Mathlib.Omega.{arith}
use lib.ListN.{drop, length-drop}
use Rattle.std.proofs.lemmas.List.{take_rest}
use Rattle.lines.proofs.LineLaws.{end_found_at, end_not_found}
use Rattle.lines.proofs.line_end.Goals as goal

pub returns-in-Some : goal.returns-in-Some
returns-in-Some c = omega (arith, end_found_at (drop c.args.at c.args.book.now) c.in-Some.n (rw take_rest at c.in-Some.ensures))

pub returns-in-None : goal.returns-in-None
returns-in-None c =
    omega (arith, end_not_found (drop c.args.at c.args.book.now) (rw take_rest at c.in-None.ensures), length-drop c.args.at c.args.book.now)
