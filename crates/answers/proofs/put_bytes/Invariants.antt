-- `answers::put_bytes` meets its contract: the invariant says that the digits of the bytes before this one are written. Assumes nothing.
use Rattle.answers.proofs.WrittenLaws.{Putting}
use Rattle.answers.proofs.put_bytes.Given as goal

abbrev pub invariant-loop-b : goal.invariant-loop-b
invariant-loop-b l = Putting l.initial.text l.bytes l.b-index l.text l.end
