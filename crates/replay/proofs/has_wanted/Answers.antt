-- `replay::has_wanted` meets its contract: std's `all` over the query's named sets. Assumes nothing.
use Rattle.std.proofs.Common.{rules, tests, ◌∙◌}
use Rattle.std.proofs.lemmas.Iterator.{YieldsList-from_slice}
use Rattle.std.proofs.lemmas.Iterator.Search.{all_from_yields_List}
use lib.ListN.{take}
use Rattle.facts.specs.Facts.{holds}
use Rattle.frames.specs.Book.{contents_of}
use Rattle.quantifiers.proofs.PositionLaws.{all_list}
use Rattle.replay.specs.Met.{wants, direct_set}
use Rattle.replay.specs.Inner.Direct.{held_set, wanted}
use Rattle.replay.proofs.has_wanted.Goals as goal

pub returns : goal.returns
unfolding contents_of wants direct_set
returns c =
    let q = c.args.b.now.query in
    let S = holds c.args.ledger.now in
    all_from_yields_List (λ w. wanted c.args.exactly w.set (held_set c.args.directly (contents_of c.args.b.now) S w.attr.0)) _ _ c.all.result
    c.all.ensures.ran (YieldsList-from_slice (take q.q q.wants) (cc)) (λ x b k e. search (rules, tests))
    ∙ all_list _ _
