-- What the search comes to, and how it is answered. No part of what plan promises.
use Rattle.std.specs.Prelude.{◌≡◌, Bool, true, false, List, ◌++◌, ℕ, ◌+◌, ◌-◌, ◌*◌, ◌≤◌, length, drop}
use Rattle.widths.specs.Inner.Widths.{depot_size}
use Rattle.frames.specs.Book.{Contents}
use Rattle.drafts.specs.Inner.Drafts.{flat}
use Rattle.search.specs.Inner.Drive.{drafted}
use Rattle.sizes.specs.Sizes.{fact_count}
use Rattle.planner.specs.Promise.{NoWay, Works}
use Rattle.planner.specs.Answer.{Said, said80, said81}

-- Found: the requests in two buffers are a plan that works. Not found: there is no way. Their count is small in either case.
pub record PlanFound (b : Contents) (up down : List ℕ) (found : Bool) (ups at : ℕ) : Type 0 where
  pub works : found ≡ true → Works b (drafted up ups down at)
  pub none : found ≡ false → NoWay b
  pub few_up : ups ≤ depot_size
  pub most_down : at ≤ depot_size
  pub few : ups + (depot_size - at) ≤ 2 * fact_count b.sizes

-- What plan says, and the bytes of its buffer afterwards.
pub record PlanReply : Type 0 where
  pub answer : Said
  pub buffer : List ℕ

abbrev pub plan_reply : Said → List ℕ → PlanReply
plan_reply s out = record { answer = s; buffer = out }

-- No way, and the buffer as it was; or the requests in its front, their count, and the bytes behind as they were.
abbrev pub given : Bool → List (List ℕ) → List ℕ → PlanReply
given false chain before = plan_reply said80 before
given true chain before = plan_reply (said81 (length chain)) (flat chain ++ drop (5 * length chain) before)
