-- `frames::is_twice` meets its contract: of the rules from some one on it is left to say whether two have the same op, a and v, since none
-- before them has those of one behind it (`twice_turn`). Assumes nothing.
use Rattle.std.proofs.Common.{rules, tests, ◌||◌, ◌≡◌, ◌-◌, [], refl, sym, ◌∙◌, get_or, take, drop, length}
use Rattle.std.proofs.lemmas.Iterator.{YieldsList-from_slice}
use Rattle.std.proofs.lemmas.Iterator.Search.{any_from_yields_List}
use Rattle.quantifiers.specs.Quantifiers.{any}
use Rattle.quantifiers.proofs.PositionLaws.{any_list}
use Rattle.frames.specs.declared.Rule.{Rule}
use Rattle.frames.specs.Limits.{twice, same_key}
use Rattle.frames.proofs.LimitLaws.{twice_turn, twice_none}
use Rattle.frames.proofs.is_twice.Goals as goal
use Rattle.frames.proofs.is_twice.Goals.{After-any}

-- What stands for a rule past the list's end.
abbrev none : Rule
none = record { op = 0; role = record { 0 = 0 }; a = 0; v = 0; n = 0; terms = [] }

turn : (c : After-any) → let rest = c.loop-rest.rest.now in twice rest ≡ (c.any.result || twice (take (length rest - 1) (drop 1 rest)))
turn c =
    let rest = c.loop-rest.rest.now in
    let behind = take (length rest - 1) (drop 1 rest) in
    let a : c.any.result ≡ any (same_key (get_or rest 0 none)) behind =
    any_from_yields_List (same_key (get_or rest 0 none)) _ _ c.any.result c.any.ensures.ran (YieldsList-from_slice behind c.iter.ensures.rest)
    (λ x b q k. search (rules, tests))
    ∙ any_list _ _ in
    twice_turn rest none c.in-len1-up.len_at_least ∙ rw (sym a) refl

pub returns-then-any : goal.returns-then-any
returns-then-any c =
    sym (c.loop-rest.invariant ∙ turn (goal.at.returns-then-any c).After-any ∙ rw c.if-any.true refl)

pub loop-rest-preserved : goal.loop-rest-preserved
loop-rest-preserved c = c.loop-rest.invariant ∙ turn (goal.at.loop-rest-preserved c).After-any ∙ rw c.if-any.false refl

pub returns : goal.returns
returns c = sym (c.loop-rest.invariant ∙ twice_none _ c.in_default.len_below)
