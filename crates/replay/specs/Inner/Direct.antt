-- What a query's person holds, and whether it is what is wanted, by the query's mode. The words of replay's code that looks it up.
use Rattle.std.specs.Prelude.{ℕ, Bool, cond, eqb}
use Rattle.sets.specs.Sets.{subset}
use Rattle.facts.specs.declared.Fact.{Fact}
use Rattle.frames.specs.Book.{Contents}
use Rattle.replay.specs.Met.{effective_set, direct_set}

-- The values of attribute a that the query's person directly holds, or effectively.
abbrev pub held_set : Bool → Contents → (Fact → Bool) → ℕ → ℕ
held_set directly b S a = cond directly (direct_set b S a) (effective_set b S a)

-- What is held is exactly a set, or at least it.
abbrev pub wanted : Bool → ℕ → ℕ → Bool
wanted exactly set held = cond exactly (eqb held set) (subset set held)
