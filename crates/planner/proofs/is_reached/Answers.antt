-- `planner::is_reached` meets its contract: the additions carried out, then the deletions, then the query judged. Assumes nothing.
use mathlib.Core.Path.{ap, sym, ◌∙◌}
use mathlib.Core.List.{List, map}
use Prim.Native.Nat.{ℕ, ◌-◌}
use Rattle.facts.specs.Facts.{holds}
use Rattle.frames.specs.Book.{contents_of}
use Rattle.replay.specs.Met.{met}
use Rattle.reach.specs.Inner.Tracked.{bytes_of}
use Rattle.level.specs.Inner.Notes.{asks}
use Rattle.drafts.specs.Inner.Drafts.{carried}
use Rattle.drafts.proofs.DraftLaws.{carried-append}
use Rattle.planner.proofs.is_reached.Goals as goal

pub returns : goal.returns
returns c =
    let start = c.args in
    let additions = map bytes_of (asks start.up.now 0 start.e.ups) in
    let deletions = map bytes_of (asks start.down.now start.e.at (5280 - start.e.at)) in
    c.is_met.ensures ∙ ap (λ (l : List ℕ). met (contents_of start.b.now) (holds l))
    (c.carry_out-2.ensures ∙ ap (λ (l : List ℕ). carried l deletions) c.carry_out.ensures
    ∙ sym (carried-append start.b.now.facts additions deletions))
