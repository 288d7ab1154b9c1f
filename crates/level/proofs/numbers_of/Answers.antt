-- The six numbers, and behind them the terms. Assumes nothing.
use Rattle.level.proofs.MoveLaws.{numbers_made}
use Rattle.std.proofs.lemmas.List.{append-nil}
use Rattle.level.proofs.numbers_of.Goals as goal

pub returns : goal.returns
returns c = rw (c.copy_from_slice.ensures.after, c.copy_from_slice-2.ensures.after, append-nil c.args.m.terms) (numbers_made c.requires)
