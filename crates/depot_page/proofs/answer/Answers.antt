-- `depot_page::answer` meets its contract: the promise of page on a table of 1,024 bytes, and the text of its answer. Assumes nothing.
use Prim.Native.Nat.{ℕ}
use native.Mathlib.Omega.{arith}
use lib.ListN.{length-replicate}
use Rattle.answers.proofs.WrittenLaws.{end-within}
use Rattle.depot_page.proofs.PrintedLaws.{printed, filled_written}
use Rattle.depot_page.proofs.answer.Goals as goal

pub returns-in-Ok : goal.returns-in-Ok
returns-in-Ok c =
    let paged = c.page-paged in
    let written = filled_written paged.new.out c.in-Ok.is (omega (arith, length-replicate {A = ℕ} 1024 0))
    c.put_lines.ensures in
    (end-within written, printed paged.result (length-replicate {A = ℕ} 1024 0) paged.ensures written.upto)
