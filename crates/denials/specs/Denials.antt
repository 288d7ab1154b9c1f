-- Why no rule permits a request. Paper 02, wish 2: "A missing rule is not an unmet condition."
use Rattle.std.specs.Prelude.{ℕ, ◌+◌, Bool, not, cond, List, ltb, length, get_or, take}
use Rattle.facts.specs.declared.Fact.{Fact}
use Rattle.frames.specs.declared.Rule.{Rule}
use Rattle.frames.specs.Book.{no_rule}
use Rattle.requests.specs.declared.Request.{Request}
use Rattle.quantifiers.specs.Quantifiers.{first}
use Rattle.rules.specs.Rules.{subject_of, term_holds, names}
use Rattle.denials.specs.declared.Denial.{Denial}
use Rattle.denials.specs.declared.Denial.TheVariants.{NoRule, Unmet}

-- The place, from 0, of the first rule that has the request's "op, role, a and v"; the count of the rules where none has.
unfoldable pub first_named : Request → List Rule → ℕ
first_named q rs = first (names q) rs

-- The place, from 0, of a rule's first "term that does not hold"; the count of its terms where all hold.
unfoldable pub first_unmet : List ℕ → (Fact → Bool) → Request → Rule → ℕ
first_unmet js S q r = first (λ t. not (term_holds js S (subject_of q.fact) t)) (take r.n r.terms)

-- "13 stays for a request whose op, role, a and v match no rule. Where rules match and each has a term that does not hold, the
-- answer tells the first such rule by its place among all the book's rules, counted from 1, and its first unmet term, counted from 1."
-- Asked only where no rule permits the request; there the told term is one of the rule's (proofs/DenialLaws, `unmet-exactly`).
unfoldable pub why_not : List ℕ → List Rule → (Fact → Bool) → Request → Denial
why_not js rs S q =
    cond (ltb (first_named q rs) (length rs))
    (Unmet (first_named q rs + 1) (first_unmet js S q (get_or rs (first_named q rs) no_rule) + 1))
    NoRule

-- "That second case gets number 15, in the place that 13 had."
abbrev pub denial_number : Denial → ℕ
denial_number NoRule = 13
denial_number (Unmet rule term) = 15
