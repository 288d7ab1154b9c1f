-- What a query of mode 03 asks for: the values of its named sets, and its crews.
use Rattle.std.specs.Prelude.{Bool, cond, ◌&&◌, ℕ, ◌-◌, ◌/◌, ◌%◌, eqb, ltb}
use Rattle.quantifiers.specs.Quantifiers.{any_below}
use Rattle.sets.specs.Sets.{member}
use Rattle.frames.specs.declared.Query.{Query}
use Rattle.frames.specs.Inner.Fits.{want_of}

-- Named set j is one of attribute a, and has the value v.
abbrev pub has_value : Query → ℕ → ℕ → ℕ → Bool
has_value q a v j = eqb (want_of q j).attr.0 a && member (want_of q j).set v

-- Some named set of attribute a has the value v.
abbrev pub wants_value : Query → ℕ → ℕ → Bool
wants_value q a v = any_below (has_value q a v) q.q

-- The fact f of the query's person is wanted.
unfoldable pub wanted_at : Query → ℕ → Bool
wanted_at q f = cond (ltb f 128) (wants_value q (f / 16) (f % 16)) (member q.crews (f - 128))
