-- `readings::put_book` meets its contract: the sizes, and behind them the counts, as the invariant says; a blank and q. Assumes nothing.
use Rattle.answers.specs.Answers.{hex, sizes_bytes}
use Rattle.answers.proofs.ReadingLaws.{Counting}
use Rattle.readings.proofs.put_book.Given as goal

abbrev pub invariant-loop-n : goal.invariant-loop-n
invariant-loop-n l = Counting l.fn.text (hex (sizes_bytes l.b.sizes)) l.n-items l.n-index l.text l.end
