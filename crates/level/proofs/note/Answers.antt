-- Five bytes write a request (`noted`). Assumes nothing.
use Rattle.level.proofs.NoteLaws.{noted}
use Rattle.level.proofs.note.Goals as goal

pub returns : goal.returns
returns c =
    noted c.args.out.now c.args.k c.args.subject c.args.m c.requires.0 c.requires.1
