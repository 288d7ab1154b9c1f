-- `frames::wants_of` meets its contract: std fills the eight places one by one. Assumes nothing.
use Rattle.std.proofs.Common.{rules, tests}
use Rattle.quantifiers.proofs.FilledLaws.{filled}
use Rattle.frames.specs.Book.{want_at, wants_of, no_want}
use Rattle.frames.proofs.wants_of.Goals as goal

pub returns : goal.returns
unfolding wants_of
returns c = filled _ (want_at c.args.x.now) _ _ 8 (λ i y q h e. search (rules, tests)) no_want c.from_fn.ensures.items
