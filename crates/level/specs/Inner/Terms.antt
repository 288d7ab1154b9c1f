-- The terms of rules, by kind, and the places that they become.
use Rattle.std.specs.Prelude.{◌≡◌, Bool, true, false, cond, ◌||◌, List, ℕ, ◌+◌, ◌*◌, ◌≤◌, ◌<◌, eqb, length, get_or, take}
use Rattle.widths.specs.Inner.Widths.{level_size, higher_at}
use Rattle.theory.specs.Inner.Facts.{State}
use Rattle.shown.specs.Inner.Shown.{inherited}
use Rattle.level.specs.Inner.Moves.{Fine, place_of}
use Rattle.quantifiers.specs.Quantifiers.{all, any_from}
use Rattle.level.specs.declared.Move.{Move}
use Rattle.gate.specs.Gate.{asks_value}
use Rattle.frames.specs.declared.Term.{Term}
use Rattle.frames.specs.declared.Rule.{Rule}
use Rattle.frames.specs.Book.{no_term}

-- Whether a subject with the direct facts `S` effectively has the fact `f`.
unfoldable pub effective : List Bool → State → ℕ → Bool
effective T S f = S f || inherited T S f

-- Whether a subject shows what a term asks: 01 directly holds, 02 effectively holds, 05 effectively holds v or any higher value of a;
-- 03 directly in crew a, 04 effectively in crew a. A level's rules have no "not" terms.
unfoldable pub term_shown : List Bool → State → Term → Bool
term_shown T S t =
    cond (eqb t.kind 1) (S (16 * t.a + t.v))
    (cond (eqb t.kind 2) (effective T S (16 * t.a + t.v))
    (cond (eqb t.kind 5) (any_from (λ w. effective T S (16 * t.a + w)) t.v 16)
    (cond (eqb t.kind 3) (S (128 + t.a)) (effective T S (128 + t.a)))))

-- The place of what a term asks. The "not" terms 81 and 83 have the places of 02 and 04: in a book that only grows, which has no term
-- 02, 04 or 05, such a place asks that the fact level_size lower is lacking. (81 is 129, 83 is 131.)
unfoldable pub code_of : ℕ → ℕ → ℕ → ℕ
code_of kind a v =
    cond (eqb kind 1) (16 * a + v)
    (cond (eqb kind 2) (level_size + (16 * a + v))
    (cond (eqb kind 5) (higher_at + (16 * a + v))
    (cond (eqb kind 3) (128 + a)
    (cond (eqb kind 129) (level_size + (16 * a + v)) (288 + a)))))

-- The fields of a term are in range: of one that asks for a value, and of any other, which asks for a crew.
pub record TermInRange (t : Term) : Type 0 where
  pub value : asks_value t.kind ≡ true → (t.a < 8) × (t.v < 16)
  pub crew : asks_value t.kind ≡ false → t.a < 32

-- A rule's fields are in range: its fact is one of a level, and so is what each of its terms asks.
pub record GoodRule (r : Rule) : Type 0 where
  pub few : r.n ≤ 8
  pub size : length r.terms ≡ 8
  pub aims : place_of r.op r.a r.v < level_size
  pub terms : (j : ℕ) → j < r.n → TermInRange (get_or r.terms j no_term)

-- Whether a subject shows what each term of a rule asks.
unfoldable pub rule_shown : List Bool → State → Rule → Bool
rule_shown T S r = all (term_shown T S) (take r.n r.terms)

-- `m` is the move of the rule `r`.
pub record MoveOf (r : Rule) (m : Move) : Type 0 where
  pub fine : Fine m
  pub op : m.op ≡ r.op
  pub role : m.role ≡ r.role.0
  pub a : m.a ≡ r.a
  pub v : m.v ≡ r.v
  pub n : m.n ≡ r.n
  pub places : (j : ℕ) → j < r.n → get_or m.terms j 0 ≡ code_of (get_or r.terms j no_term).kind (get_or r.terms j no_term).a (get_or r.terms j no_term).v
