-- The facts of one set of a ledger, by their numbers in it. No promise of the paper needs these.
use Rattle.std.specs.Prelude.{ℕ}
use Rattle.facts.specs.declared.Fact.{Fact}
use Rattle.facts.specs.declared.Fact.TheVariants.{Holds, CrewHolds, Member}

-- The fact of the same set with the number w: another value of the attribute, or another crew of the person.
unfoldable pub numbered : Fact → ℕ → Fact
numbered (Holds p a v) w = Holds p a w
numbered (CrewHolds c a v) w = CrewHolds c a w
numbered (Member p c) w = Member p (record { 0 = w })
