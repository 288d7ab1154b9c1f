-- `search::crew_levels` meets its contract: crew after crew, until one is stuck; what is settled serves every person. The names that the crews
-- hand on stay 160. Assumes nothing.
use Rattle.level.specs.Inner.Settle.{SameBuffers}
use Rattle.search.specs.Inner.Scan.{BlankTable}
use Rattle.search.specs.Inner.Given.{Names, ServesOf}
use Rattle.search.proofs.crew_levels.Given as goal

abbrev pub invariant-loop-k : goal.invariant-loop-k
invariant-loop-k l = (Names l.fired.added l.fired.deleted × BlankTable l.table) × ServesOf l.parts.query.now l.parts.crews l.parts.facts.now l.parts.juniors.now l.parts.sides.adds.now l.parts.sides.dels.now l.k l.rows l.draft.ends.ups l.draft.up.now l.draft.ends.at l.draft.down.now × SameBuffers l.initial.draft l.draft
