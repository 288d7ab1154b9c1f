-- Two copies, and the own crew. Assumes nothing.
use Rattle.flags.proofs.FlagLaws.{row-all}
use Rattle.flags.proofs.fill_row.Goals as goal

pub returns : goal.returns
returns c =
    let own = c.from-own.ensures in
    rw own (row-all c.args.x.now c.args.table.now c.args.k c.requires.0 c.requires.1.1.1
    (rw own at c.copy_flags.ensures) (rw own at c.copy_flags-2.ensures))
