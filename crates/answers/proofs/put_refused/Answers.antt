-- `answers::put_refused` meets its contract: a line of four bytes, the last two those of the line. Assumes nothing.
use Rattle.answers.proofs.WrittenLaws.{refusal_line-written}
use Rattle.answers.proofs.put_refused.Goals as goal

pub returns : goal.returns
returns c =
    let args = c.args in
    refusal_line-written args.number args.line c.pair.ensures c.put_line.ensures
