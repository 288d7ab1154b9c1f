-- `sizes::sizes_of` meets its contract: the fields in the order of the frame. Assumes nothing.
use Rattle.sizes.specs.Sizes.{sizes_of}
use Rattle.sizes.proofs.sizes_of.Goals as goal

pub returns : goal.returns
unfolding sizes_of
returns c = rw (c.byte_at.ensures, c.byte_at-2.ensures, c.byte_at-3.ensures, c.counts_of.ensures)
