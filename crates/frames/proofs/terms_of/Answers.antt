-- `frames::terms_of` meets its contract: std fills the eight places one by one. Assumes nothing.
use Rattle.std.proofs.Common.{rules, tests}
use Rattle.quantifiers.proofs.FilledLaws.{filled}
use Rattle.frames.specs.Book.{term_at, terms_of, no_term}
use Rattle.frames.proofs.terms_of.Goals as goal

pub returns : goal.returns
unfolding terms_of
returns c = filled _ (term_at c.args.x.now) _ _ 8 (λ i y q h e. search (rules, tests)) no_term c.from_fn.ensures.items
