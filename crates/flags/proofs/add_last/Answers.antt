-- The closure adds each flag of row `j` of the crews to the flag that stands there. Assumes nothing.
use Rattle.std.proofs.Common.{rules, ◌+◌, ◌*◌, ◌||◌, false, get_or}
use Rattle.flags.proofs.add_last.Goals as goal

pub returns : goal.returns
returns c =
    c.write_flags.ensures (λ f was. was || get_or c.args.rows.now (160 * c.args.j + f) false) (λ f was b low gives. search rules)
