-- What lies within a book's sizes: a fact, a rule, the query; and the shape of a rule by value.
use Rattle.std.specs.Prelude.{◌≡◌, ℕ, ◌≤◌, ◌<◌, Bool, true, false, not, ◌&&◌, ◌||◌, leb, get_or, length}
use Rattle.quantifiers.specs.Inner.Lists.{Each}
use Rattle.sets.specs.Sets.{member, within}
use Rattle.facts.specs.Facts.{holds, ledger_size}
use Rattle.facts.specs.declared.Fact.{Fact}
use Rattle.facts.specs.declared.Fact.TheVariants.{Holds, CrewHolds, Member}
use Rattle.sizes.specs.declared.Sizes.{Sizes}
use Rattle.gate.specs.Gate.{head_good, asks_value, term_good}
use Rattle.sizes.specs.Sizes.{between, is_attr, values_of, is_person, is_crew, is_value}
use Rattle.sizes.specs.Inner.Ranges.{InRange}
use Rattle.quantifiers.specs.Quantifiers.{all_below}
use Rattle.frames.specs.declared.Term.{Term}
use Rattle.frames.specs.declared.Rule.{Rule}
use Rattle.frames.specs.declared.Want.{Want}
use Rattle.frames.specs.declared.Query.{Query}
use Rattle.frames.specs.Limits.{beyond_not, wrong_mode}
use Rattle.frames.specs.Book.{Contents, no_term, no_want}

-- A fact about a person, crew, attribute and value of the book.
unfoldable pub in_sizes : Sizes → Fact → Bool
in_sizes z (Holds p a v) = is_person z p.0 && is_value z a.0 v
in_sizes z (CrewHolds c a v) = is_crew z c.0 && is_value z a.0 v
in_sizes z (Member p c) = is_person z p.0 && is_crew z c.0

-- Term j of a rule.
unfoldable pub term_of : Rule → ℕ → Term
term_of r j = get_or r.terms j no_term

abbrev pub term_fits : Sizes → Rule → ℕ → Bool
term_fits z r j = term_good z (term_of r j).kind (term_of r j).a (term_of r j).v

-- A rule whose fields and terms are in their ranges, with terms about a crew in ops 05 and 06 alone.
unfoldable pub rule_fits : Sizes → Rule → Bool
rule_fits z r =
    head_good z r.op r.role.0 r.a r.v r.n && all_below (term_fits z r) r.n
    && (leb 5 r.op || all_below (λ j. asks_value (term_of r j).kind) r.n)

-- A rule by value has room for eight terms, and at most eight.
pub record Short (r : Rule) : Type 0 where
  pub few : r.n ≤ 8
  pub room : length r.terms ≡ 8

-- Named attribute j of a query, with its set.
unfoldable pub want_of : Query → ℕ → Want
want_of q j = get_or q.wants j no_want

-- A named attribute and its set lie within the sizes.
abbrev pub want_fits : Sizes → Query → ℕ → Bool
want_fits z q j = is_attr z (want_of q j).attr.0 && within (want_of q j).set (values_of z (want_of q j).attr.0)

-- A query whose mode, person and q are in their ranges, with its sets within the sizes, and in modes 02 and 03 its crews.
pub record GoodQuery (z : Sizes) (q : Query) : Type 0 where
  pub mode : between 1 3 q.mode ≡ true
  pub person : is_person z q.person.0 ≡ true
  pub few : q.q ≤ 8
  pub room : length q.wants ≡ 8
  pub wants : all_below (want_fits z q) q.q ≡ true
  pub crews : (not (between 2 3 q.mode) || within q.crews z.crews) ≡ true

-- What every accepted book has (proofs/BookLaws, `book_accepted`).
pub record Admitted (t : Contents) : Type 0 where
  -- Sizes are in their ranges.
  pub sized : InRange t.sizes
  -- A junior's number is lower than its senior's, and both are crews.
  pub edges : (i j : ℕ) → member (get_or t.juniors i 0) j ≡ true → (j < i) × (i < t.sizes.crews)
  pub edge_room : length t.juniors ≡ 32
  -- The starting facts are a ledger, within the sizes.
  pub facts_in : (f : Fact) → holds t.facts f ≡ true → in_sizes t.sizes f ≡ true
  pub facts_room : length t.facts ≡ ledger_size
  pub facts_bytes : (i : ℕ) → get_or t.facts i 0 < 256
  -- At most 512 rules, each within the sizes, of at most eight terms.
  pub rules_in : Each (λ r. rule_fits t.sizes r ≡ true) t.rules
  pub rules_short : Each Short t.rules
  pub rules_counted : length t.rules ≡ t.count
  pub rules_few : t.count ≤ 512
  -- The query lies within the sizes.
  pub query_in : GoodQuery t.sizes t.query
  -- With a "not" term the rules keep its limits, and the mode is the one for such a book; without one it is another.
  pub within_not : beyond_not t.rules ≡ false
  pub right_mode : wrong_mode t.rules t.query.mode ≡ false
