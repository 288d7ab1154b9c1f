-- The rules of an accepted book are good: what they aim at, and what their terms ask, has a place among a level's facts.
use mathlib.Core.Path.{◌≡◌, sym, ◌∙◌}
use mathlib.Core.Bool.{true, true≢false, ◌&&◌, ◌||◌}
use mathlib.Core.List.{List}
use Prim.Native.Nat.{ℕ, ◌≤◌, ◌<◌}
use native.Mathlib.Omega.{arith}
use lib.Dec.{eqb, leb}
use lib.ListN.{length, get_or}
use lib.Seq.{get_or-take, length-take-le}
use Rattle.std.proofs.lemmas.List.{length-take}
use borrow.Author.Tests.{ltb-true, lt-ltb, le-ltb}
use Rattle.gate.specs.Gate.{head_good, asks_value, asks_crew, term_good}
use Rattle.sizes.specs.Sizes.{between, is_crew, is_value, is_crew_field}
use Rattle.gate.proofs.TermKindLaws.{crew_not_value}
use Rattle.sizes.specs.Inner.Ranges.{InRange}
use Rattle.quantifiers.specs.Quantifiers.{all_below}
use Rattle.sizes.specs.declared.Sizes.{Sizes}
use Rattle.sizes.proofs.SizeLaws.{between-true, value_bounds}
use Rattle.quantifiers.proofs.BoolLaws.{and_both, or_either}
use Rattle.quantifiers.proofs.BelowLaws.{all_at}
use Rattle.quantifiers.proofs.ListLaws.{each_at}
use Rattle.frames.specs.Book.{no_term, no_rule, listed, contents_of}
use Rattle.frames.specs.Inner.Fits.{term_of, term_fits, rule_fits, Short, Admitted}
use Rattle.quantifiers.specs.Inner.Lists.{Each}
use Rattle.frames.specs.declared.Term.{Term}
use Rattle.frames.specs.declared.Rule.{Rule}
use Rattle.frames.specs.declared.Rules.{Rules}
use Rattle.frames.specs.declared.Book.{Book}
use Rattle.level.specs.Inner.Moves.{place_of}
use Rattle.level.specs.Inner.Terms.{TermInRange, GoodRule}
use Rattle.level.specs.Inner.Chosen.{rule_at, GoodRules}

module _ (z : Sizes) (sized : InRange z) where
  -- A crew of an accepted book is one of 32.
  crew_in : (a v : ℕ) → is_crew_field z a v ≡ true → a < 32
  crew_in a v e = omega (arith, ltb-true a z.crews (and_both (is_crew z a) (eqb v 0) e).0, sized.crews_most)

  -- What a rule aims at is a fact of a level.
  aims_in : (op role a v n : ℕ) → head_good z op role a v n ≡ true → place_of op a v < 160
  unfolding place_of
  aims_in op role a v n e =
      let value = between 1 4 op && is_value z a v in
      let crew = between 5 6 op && is_crew_field z a v in
      let fields = (and_both (value || crew) (leb role 15) (and_both ((value || crew) && leb role 15) (leb n 8) e).0).0 in
      or_either value crew fields
      (λ x.
      let both = and_both (between 1 4 op) (is_value z a v) x in
      let low : op < 5 = omega (arith, between-true 1 4 op both.0) in
      rw (lt-ltb op 5 low) (omega (arith, value_bounds z a v sized both.1)))
      (λ x.
      let both = and_both (between 5 6 op) (is_crew_field z a v) x in
      rw (le-ltb op 5 (omega (arith, between-true 5 6 op both.0))) (omega (arith, crew_in a v both.1)))

  -- What a term asks is a fact of a level.
  term_in : (t : Term) → term_good z t.kind t.a t.v ≡ true → TermInRange t
  term_in t e =
      let kind = t.kind in
      let value = asks_value kind && is_value z t.a t.v in
      let crew = asks_crew kind && is_crew_field z t.a t.v in
      or_either value crew e
      (λ x.
      let both = and_both (asks_value kind) (is_value z t.a t.v) x in
      record { value = λ _. value_bounds z t.a t.v sized both.1; crew = λ no. absurd (true≢false (sym both.0 ∙ no)) })
      (λ x.
      let both = and_both (asks_crew kind) (is_crew_field z t.a t.v) x in
      record { value = λ is. absurd (true≢false (sym is ∙ crew_not_value kind both.0)); crew = λ _. crew_in t.a t.v both.1 })

  -- A rule within an accepted book's sizes is good.
  pub rule_good_lem : (r : Rule) → rule_fits z r ≡ true → Short r → GoodRule r
  unfolding rule_fits term_of
  rule_good_lem r fits short =
      let head = head_good z r.op r.role.0 r.a r.v r.n in
      let terms = all_below (term_fits z r) r.n in
      let kinds = leb 5 r.op || all_below (λ j. asks_value (term_of r j).kind) r.n in
      let both = and_both head terms (and_both (head && terms) kinds fits).0 in
      record {
        few = short.few;
        size = short.room;
        aims = aims_in r.op r.role.0 r.a r.v r.n both.0;
        terms = λ j l. term_in (get_or r.terms j no_term) (all_at (term_fits z r) r.n j both.1 l);
      }

  -- The rules of an accepted book are good.
  pub rules_good : (rs : Rules) → rs.count ≤ 512 → rs.count ≤ length rs.rules → Each (λ r. rule_fits z r ≡ true) (listed rs) → Each Short (listed rs)
      → GoodRules rs
  unfolding listed rule_at
  rules_good rs few room fit short =
      record {
        few = few;
        good = λ i l. rule_good_lem (get_or rs.rules i no_rule)
            (each_at (λ r. rule_fits z r ≡ true) rs.rules rs.count i no_rule l (omega arith) fit)
            (each_at Short rs.rules rs.count i no_rule l (omega arith) short);
      }

-- The rules of a book are those of the list by value, place by place.
module _ {rules : List Rule} (rs : Rules) (same : rules ≡ listed rs) where
  pub listed_at : (j : ℕ) → j < rs.count → get_or rules j no_rule ≡ rule_at rs j
  unfolding listed rule_at
  listed_at j l = rw same (get_or-take rs.count rs.rules j no_rule l)

  pub listed-length : rs.count ≤ 512 → length rs.rules ≡ 512 → length rules ≡ rs.count
  unfolding listed
  listed-length few room = rw same (length-take-le rs.count rs.rules (omega arith))

-- So the list by value of an accepted book is good.
pub book_good : (bk : Book) → Admitted (contents_of bk) → GoodRules bk.rules
unfolding contents_of listed
book_good bk ok =
    let fits : bk.rules.count ≤ length bk.rules.rules = omega (arith, ok.rules_counted, length-take bk.rules.count bk.rules.rules) in
    rules_good bk.sizes ok.sized bk.rules ok.rules_few fits ok.rules_in ok.rules_short
