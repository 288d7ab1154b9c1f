-- `inherit::crew_tried` and `inherit::juniors_tried`, which call each other. The loop's invariant: no junior below `j` passes, and the
-- crews of `tried` were tried. The crew's number falls from crew to junior: 2c + 1 for the crew, 2c for its juniors.
use Rattle.std.proofs.Common.{◌≡◌, ◌+◌, ◌*◌, false}
use Rattle.facts.specs.Facts.{holds}
use Rattle.inherit.specs.Inner.Search.{sought, junior_passes, Tried}
use Rattle.inherit.proofs.+crew_tried_juniors_tried.Given as goal

abbrev pub decreases-crew_tried : goal.decreases-crew_tried
decreases-crew_tried l = 2 * l.c + 1

abbrev pub decreases-juniors_tried : goal.decreases-juniors_tried
decreases-juniors_tried l = 2 * l.c

abbrev pub invariant-juniors_tried-loop-j : goal.invariant-juniors_tried-loop-j
invariant-juniors_tried-loop-j l =
    (junior_passes l.juniors (sought (holds l.ledger) l.w) l.c l.j ≡ false) × Tried l.juniors (sought (holds l.ledger) l.w) l.tried
