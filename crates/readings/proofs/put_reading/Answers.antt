-- `readings::put_reading` meets its contract: one case for each outcome of reading. Assumes nothing.
use Rattle.answers.proofs.ReadingLaws.{refused_answered, accepted_answered}
use Rattle.readings.proofs.put_reading.Goals as goal

pub returns-in-Err : goal.returns-in-Err
returns-in-Err c =
    rw c.in-Err.is (refused_answered c.args.b.now c.in-Err.f c.refusal_number.ensures c.refusal_line.ensures c.put_refused.ensures)

pub returns-in-Ok : goal.returns-in-Ok
returns-in-Ok c = rw c.in-Ok.is (accepted_answered c.args.b.now c.put_book.ensures)
