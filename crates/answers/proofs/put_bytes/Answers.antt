-- `answers::put_bytes` meets its contract: the invariant says that the digits of the bytes before this one are written. Assumes nothing.
use mathlib.Core.Path.{refl}
use Rattle.answers.proofs.WrittenLaws.{digits_none, digits_more}
use Rattle.answers.proofs.put_bytes.Goals as goal

pub loop-b-init : goal.loop-b-init
loop-b-init c = digits_none c.args.text.now c.args.bytes.now

pub loop-b-preserved : goal.loop-b-preserved
loop-b-preserved c = digits_more c.loop-b.invariant c.loop-b-test.true refl c.put_byte-end.ensures
