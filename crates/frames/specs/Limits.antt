-- The limits of a book with "not" terms, judged when all its lines are good. Paper 02, wish 6: "Books that only grow, with "not"".
use Rattle.std.specs.Prelude.{ℕ, Bool, false, not, cond, ◌&&◌, ◌||◌, List, [], ◌∷◌, eqb, take}
use Rattle.quantifiers.specs.Quantifiers.{all, any}
use Rattle.frames.specs.declared.Term.{Term}
use Rattle.frames.specs.declared.Rule.{Rule}

-- "New terms 81 and 83": a "not" term.
unfoldable pub is_not : Term → Bool
is_not t = eqb t.kind 129 || eqb t.kind 131

-- A rule without one; a list of such rules. The first n terms of a rule count.
unfoldable pub plain : Rule → Bool
plain r = all (λ t. not (is_not t)) (take r.n r.terms)

unfoldable pub all_plain : List Rule → Bool
all_plain rs = all plain rs

-- "A book with such a term has only ops 01, 03 and 05, [..] and only terms 01, 03, 81, 83."
unfoldable pub growing : Rule → Bool
growing r =
    (eqb r.op 1 || (eqb r.op 3 || eqb r.op 5))
    && all (λ t. is_not t || (eqb t.kind 1 || eqb t.kind 3)) (take r.n r.terms)

-- "at most one rule for each op, a and v": whatever the roles are.
unfoldable pub same_key : Rule → Rule → Bool
same_key r s = eqb r.op s.op && (eqb r.a s.a && eqb r.v s.v)

-- Two rules of a list for one op, a and v. "A rule given twice counts as two here."
unfoldable pub twice : List Rule → Bool
twice [] = false
twice (r ∷ rs) = any (same_key r) rs || twice rs

-- 16: "A book breaking the first limits": those of the ops, the rules and the terms, which a book with a "not" term has.
unfoldable pub beyond_not : List Rule → Bool
beyond_not rs = not (all_plain rs) && (not (all growing rs) || twice rs)

-- 17: "mode 03 without a "not" term or another mode with one".
unfoldable pub wrong_mode : List Rule → ℕ → Bool
wrong_mode rs mode = cond (eqb mode 3) (all_plain rs) (not (all_plain rs))
