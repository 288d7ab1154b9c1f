-- The first places are copied, and those of the facts are these. Assumes nothing.
use mathlib.Core.Path.{◌∙◌}
use native.Mathlib.Omega.{arith}
use Rattle.std.proofs.lemmas.List.{length-take-le}
use Rattle.build.proofs.BuildLaws.{copied_facts}
use Rattle.build.proofs.keep.Goals as goal

pub slice_bounds-copy_from_slice-end : goal.slice_bounds-copy_from_slice-end
slice_bounds-copy_from_slice-end c = rw (length-take-le 160 c.args.y.now (omega arith))

pub copy_from_slice-requires : goal.copy_from_slice-requires
copy_from_slice-requires c = rw (length-take-le 160 c.args.y.now (omega arith)) c.requires.1

pub returns : goal.returns
returns c = copied_facts c.args.y.now (c.copy_from_slice.ensures.len ∙ c.requires.1) c.copy_from_slice.ensures.after
