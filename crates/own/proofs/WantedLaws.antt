-- Laws of the wanted facts: a value is wanted by a named set, a membership by the listed crews.
use mathlib.Core.Path.{◌≡◌}
use mathlib.Core.Bool.{Bool}
use Prim.Native.Nat.{ℕ, ◌-◌, ◌/◌, ◌%◌, ◌≤◌, ◌<◌}
use borrow.Author.Tests.{lt-ltb, le-ltb}
use Rattle.sets.specs.Sets.{member}
use Rattle.frames.specs.declared.Query.{Query}
use Rattle.own.specs.Inner.Wanted.{wants_value, wanted_at}

module _ (q : Query) (f : ℕ) {b : Bool} where
  pub wanted_value : f < 128 → b ≡ wants_value q (f / 16) (f % 16) → b ≡ wanted_at q f
  unfolding wanted_at
  wanted_value l e = rw (lt-ltb f 128 l) e

  pub wanted_crew : 128 ≤ f → b ≡ member q.crews (f - 128) → b ≡ wanted_at q f
  unfolding wanted_at
  wanted_crew l e = rw (le-ltb f 128 l) e
