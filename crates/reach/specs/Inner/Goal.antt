-- The query taken apart: the facts that it forbids, and a goal that more facts never spoil. A set of facts meets the query
-- where it has no forbidden fact and reaches the goal.
use Rattle.std.specs.Prelude.{ℕ, ◌/◌, ◌%◌, Bool, not, cond, ◌&&◌, eqb}
use Rattle.widths.specs.Inner.Widths.{level_size}
use Rattle.sets.specs.Sets.{member, subset}
use Rattle.facts.specs.declared.Fact.{Fact}
use Rattle.facts.specs.declared.Fact.TheVariants.{Holds, CrewHolds, Member}
use Rattle.inherit.specs.Inheritance.{downward}
use Rattle.quantifiers.specs.Quantifiers.{any_below, any}
use Rattle.frames.specs.Book.{Contents}
use Rattle.replay.specs.Met.{wants, direct_crews, met_at_least}
use Rattle.theory.specs.Inner.Facts.{State}
use Rattle.reach.specs.Inner.Tracked.{fact_at, is_number}

-- "effectively holds exactly the named set of each named attribute": value v of a named attribute a, v outside its set.
unfoldable pub banned : Contents → ℕ → ℕ → Bool
banned b a v = any (λ w. eqb w.attr.0 a && not (member w.set v)) (wants b)

-- Crew c is listed, or lies below a listed one.
unfoldable pub below_listed : Contents → ℕ → Bool
below_listed b c = any_below (λ d. member b.query.crews d && downward b.juniors (λ x. eqb x c) d) 32

-- Mode 02: the person's value v of a named attribute with v outside its set; the same value at a crew that is listed or lies
-- below a listed one; membership in a crew not listed.
unfoldable pub forbids : Contents → Fact → Bool
forbids b (Holds p a v) = banned b a.0 v
forbids b (CrewHolds c a v) = banned b a.0 v && below_listed b c.0
forbids b (Member p c) = not (member b.query.crews c.0)

-- Mode 01 forbids nothing.
unfoldable pub forbidden : Contents → Fact → Bool
forbidden b f = not (eqb b.query.mode 1) && forbids b f

-- What is left of the query: the person effectively holds at least the values in each named set, and in mode 02 is directly in
-- at least the listed crews.
unfoldable pub goal : Contents → (Fact → Bool) → Bool
goal b F = cond (eqb b.query.mode 1) (met_at_least b F) (subset b.query.crews (direct_crews b F) && met_at_least b F)

-- The forbidden tracked facts, by number.
unfoldable pub bad : Contents → State
bad b g = is_number b g && forbidden b (fact_at b (g / level_size) (g % level_size))
