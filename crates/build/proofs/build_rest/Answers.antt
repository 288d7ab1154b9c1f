-- The flags of what is left: those copied where nothing is left out (`built_same`), or built anew. Assumes nothing.
use Rattle.build.proofs.BuildLaws.{built_same, none_lacked}
use Rattle.build.proofs.build_rest.Goals as goal

pub returns-then-is_none : goal.returns-then-is_none
returns-then-is_none c = built_same c.requires.0 c.requires.1.0 c.lacks.ensures.first (none_lacked c.lacks.result c.if-is_none.ensures) c.copy_from_slice.ensures.after
