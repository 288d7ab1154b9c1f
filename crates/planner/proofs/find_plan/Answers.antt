-- `planner::find_plan` meets its contract: by the mode the book is one to be planned by levels, or one that only grows. Assumes nothing.
use mathlib.Core.Path.{refl}
use native.Mathlib.Omega.{arith}
use Rattle.frames.specs.Book.{contents_of}
use Rattle.planner.proofs.ModeLaws.{leveled, growing}
use Rattle.planner.proofs.GrownLaws.{found_grown}
use Rattle.planner.proofs.find_plan.Goals as goal

pub best_plan-requires : goal.best_plan-requires
unfolding contents_of
best_plan-requires c =
    record {
      leveled = leveled (contents_of c.args.b.now) c.requires.admitted (omega arith);
      up_len = c.requires.up_len;
    }

pub find-requires : goal.find-requires
unfolding contents_of
find-requires c =
    (growing (contents_of c.args.b.now) c.requires.admitted (omega arith), c.requires.up_len.0)

pub returns-in_ok-ups : goal.returns-in_ok-ups
unfolding contents_of
returns-in_ok-ups c =
    let b = contents_of c.args.b.now in
    found_grown b (growing b c.requires.admitted (omega arith)) c.in_ok-ups.ensures _ refl
