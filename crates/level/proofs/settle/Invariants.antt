-- Rounds until the level is settled or a starting fact is lacking. The invariant is `Going`, that there are 160 names each, and that what is lent is the
-- same; the measure is how many facts are allowed. Assumes nothing.
use mathlib.Core.Path.{◌≡◌}
use lib.ListN.{length}
use Rattle.quantifiers.specs.Quantifiers.{count_below}
use Rattle.shown.specs.Inner.Shown.{direct}
use Rattle.level.specs.Inner.Moves.{moves_in}
use Rattle.level.specs.Inner.Settle.{SameDraft}
use Rattle.level.proofs.SettleLaws.{Going}
use Rattle.level.proofs.settle.Given as goal

abbrev pub invariant-loop-e : goal.invariant-loop-e
invariant-loop-e l = Going (moves_in l.level.sides.adds.now) (moves_in l.level.sides.dels.now) l.level.subject l.level.table.now l.level.bad.now l.level.s.now l.initial.work.u l.work.u l.work.x l.work.y l.work.d l.draft.ends.ups l.initial.draft.up.now l.draft.up.now l.draft.ends.at l.initial.draft.down.now l.draft.down.now × (((length l.fired.added ≡ 160) × (length l.fired.deleted ≡ 160)) × SameDraft l.initial.draft l.draft)

abbrev pub decreases-loop-e : goal.decreases-loop-e
decreases-loop-e l = count_below (direct l.work.u) 160
