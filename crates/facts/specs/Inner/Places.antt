-- The place of a fact as one value. No promise of the paper needs it.
use Rattle.std.specs.Prelude.{Option, Some, None, cond}
use Rattle.facts.specs.Facts.{fits, set_at, set_width, member_of}
use Rattle.facts.specs.declared.Fact.{Fact}
use Rattle.facts.specs.declared.Place.{Place}

-- The set's first byte, how many bytes it has, and the fact's number in it, where the ledger has a place for the fact.
abbrev pub place_of : Fact → Option Place
place_of f = cond (fits f) (Some (record { at = set_at f; w = set_width f; v = member_of f })) None
