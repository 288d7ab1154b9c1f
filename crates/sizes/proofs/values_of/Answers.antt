-- `sizes::values_of` meets its contract: the attribute's own count, 0 past the eight. Assumes nothing.
use Rattle.lines.specs.Digits.{byte_at}
use Rattle.sizes.specs.Sizes.{values_of}
use Rattle.sizes.proofs.values_of.Goals as goal

pub returns : goal.returns
unfolding values_of byte_at
returns c = rw (c.byte_at.ensures, c.from.ensures)
