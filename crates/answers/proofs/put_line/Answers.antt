-- `answers::put_line` meets its contract: the digits of its bytes, and behind them the line end. Assumes nothing.
use Rattle.answers.proofs.WrittenLaws.{line_room, line_written}
use Rattle.answers.proofs.put_line.Goals as goal

pub bounds-text-end : goal.bounds-text-end
bounds-text-end c =
    line_room c.args.bytes.now c.put_bytes-end.ensures c.requires

pub returns : goal.returns
returns c =
    line_written c.args.bytes.now c.put_bytes-end.ensures c.requires
