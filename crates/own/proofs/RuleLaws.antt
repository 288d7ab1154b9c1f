-- Terms and rules of a book that only grows, for the query's person: what a term's place says of the person's facts is what the term says;
-- a rule that adds a fact of a person is a request on the query's; rules with the same place have the same op, a and v.
use mathlib.Core.Path.{◌≡◌, refl, sym, ap, ◌∙◌}
use mathlib.Core.Logic.{◌⊎◌, inl, inr}
use mathlib.Core.Bool.{true, not}
use Prim.Native.Nat.{ℕ, ◌+◌, ◌-◌, ◌*◌, ◌<◌}
use native.Mathlib.Omega.{arith}
use borrow.Author.Tests.{lt-ltb, le-ltb, eq-eqb}
use Rattle.sizes.specs.Sizes.{is_value, is_crew_field}
use Rattle.sizes.proofs.SizeLaws.{value_bounds}
use Rattle.frames.specs.declared.Rule.{Rule}
use Rattle.frames.specs.declared.Term.{Term}
use Rattle.frames.specs.Book.{Contents}
use Rattle.frames.specs.Inner.Fits.{rule_fits, Admitted}
use Rattle.requests.specs.Requests.{adds, aimed, fields_good}
use Rattle.requests.proofs.RequestLaws.{aimed_value, aimed-member, fields_on_person, fields_joins}
use Rattle.rules.specs.declared.Subject.TheVariants.{User}
use Rattle.rules.specs.Rules.{subject_of, term_holds}
use Rattle.rules.proofs.RuleLaws.{subject_value, subject_member}
use Rattle.rules.proofs.RuleLaws.{term_person_direct, term_in_direct, term_person_lacks, term-not_in}
use Rattle.theory.specs.Inner.Facts.{State}
use Rattle.level.specs.Inner.Moves.{place_of}
use Rattle.level.specs.Inner.Terms.{TermInRange}
use Rattle.level.proofs.TermLaws.{code-direct, code_in, code_lacks, code-not_in}
use Rattle.level.proofs.RuleParts.{Parts, rule_parts, crew_low, rule_value, rule_crew}
use Rattle.reach.specs.Inner.Tracked.{person_level, tracked, number_of, lift}
use Rattle.own.specs.Inner.Own.{own, says_of, code_of_term, AddsOwn, place_of_rule}
use Rattle.own.proofs.OwnLaws.{own_value, own-member}

-- ---------------------------------------------------------------- terms

-- A place below 160 says that its fact is there, 160 + g that g is lacking.
pub says_there : (S : State) (k : ℕ) → k < 160 → says_of S k ≡ S k
unfolding says_of
says_there S k low = rw (lt-ltb k 160 low) refl

pub says_lacking : (S : State) (g : ℕ) → says_of S (160 + g) ≡ not (S g)
unfolding says_of
says_lacking S g = let e : 160 + g - 160 ≡ g = omega arith in rw (le-ltb (160 + g) 160 (omega arith), e) refl

-- The kinds of terms in a book that only grows.
abbrev pub GrowingKind : ℕ → Type 0
GrowingKind k = (k ≡ 1) ⊎ ((k ≡ 3) ⊎ ((k ≡ 129) ⊎ (k ≡ 131)))

module _ (t : Term) (range : TermInRange t) where
  in_value : (t.kind ≡ 1) ⊎ (t.kind ≡ 129) → (t.a < 8) × (t.v < 16)
  in_value (inl is) = range.value (rw is refl)
  in_value (inr is) = range.value (rw is refl)

  in_crew : (t.kind ≡ 3) ⊎ (t.kind ≡ 131) → t.a < 32
  in_crew (inl is) = range.crew (rw is refl)
  in_crew (inr is) = range.crew (rw is refl)

  -- Its place is one of 320.
  pub code_low : GrowingKind t.kind → code_of_term t < 320
  code_low (inl is) = let low = in_value (inl is) in rw (code-direct t.kind t.a t.v is) (omega arith)
  code_low (inr (inl is)) = let low = in_crew (inl is) in rw (code_in t.kind t.a t.v is) (omega arith)
  code_low (inr (inr (inl is))) = let low = in_value (inr is) in rw (code_lacks t.kind t.a t.v is) (omega arith)
  code_low (inr (inr (inr is))) = let low = in_crew (inr is) in rw (code-not_in t.kind t.a t.v is) (omega arith)

  -- A term holds of the query's person where its place says so of the person's facts.
  pub term-says : (b : Contents) (S : State) → GrowingKind t.kind
      → term_holds b.juniors (lift b S) (User b.query.person) t ≡ says_of (own b S) (code_of_term t)
  term-says b S (inl is) =
      let low = in_value (inl is) in
      term_person_direct b.juniors (lift b S) t b.query.person is ∙ own_value b S t.a t.v low.0 low.1
      ∙ sym (says_there (own b S) (16 * t.a + t.v) (omega arith))
      ∙ ap (says_of (own b S)) (sym (code-direct t.kind t.a t.v is))
  term-says b S (inr (inl is)) =
      let low = in_crew (inl is) in
      term_in_direct b.juniors (lift b S) t b.query.person is ∙ own-member b S t.a low
      ∙ sym (says_there (own b S) (128 + t.a) (omega arith))
      ∙ ap (says_of (own b S)) (sym (code_in t.kind t.a t.v is))
  term-says b S (inr (inr (inl is))) =
      let low = in_value (inr is) in
      term_person_lacks b.juniors (lift b S) t b.query.person is ∙ ap not (own_value b S t.a t.v low.0 low.1)
      ∙ sym (says_lacking (own b S) (16 * t.a + t.v))
      ∙ ap (says_of (own b S)) (sym (code_lacks t.kind t.a t.v is))
  term-says b S (inr (inr (inr is))) =
      let low = in_crew (inr is) in
      term-not_in b.juniors (lift b S) t b.query.person is ∙ ap not (own-member b S t.a low)
      ∙ sym (says_lacking (own b S) (128 + t.a))
      ∙ ap (says_of (own b S)) (sym (code-not_in t.kind t.a t.v is))

-- ---------------------------------------------------------------- the fields of a rule

-- What a rule that adds a fact of a person does for the query's person.
pub record OwnRule (b : Contents) (r : Rule) : Type 0 where
  pub adding : adds r.op ≡ true
  pub fields : fields_good b.sizes r.op r.role.0 b.query.person.0 r.a r.v ≡ true
  pub tracks : tracked b (aimed r.op b.query.person.0 r.a r.v) ≡ true
  pub number : number_of b (aimed r.op b.query.person.0 r.a r.v) ≡ 160 * person_level b + place_of_rule r
  pub subject : subject_of (aimed r.op b.query.person.0 r.a r.v) ≡ User b.query.person
  pub low : place_of_rule r < 160

module _ (b : Contents) (ok : Admitted b) (r : Rule) (fits : rule_fits b.sizes r ≡ true) where
  parts : Parts b.sizes r
  parts = rule_parts b.sizes r fits

  names_value : r.op ≡ 1 → is_value b.sizes r.a r.v ≡ true
  names_value is = rule_value b.sizes ok.sized r parts (omega arith)

  names_crew : r.op ≡ 5 → is_crew_field b.sizes r.a r.v ≡ true
  names_crew is = rule_crew b.sizes ok.sized r parts (omega arith)

  low_value : r.op ≡ 1 → (r.a < 8) × (r.v < 16)
  low_value is = value_bounds b.sizes r.a r.v ok.sized (names_value is)

  low_crew : r.op ≡ 5 → (r.a < 32) × (r.v ≡ 0)
  low_crew is = crew_low b.sizes ok.sized r.a r.v (names_crew is)

  place_value : r.op ≡ 1 → place_of_rule r ≡ 16 * r.a + r.v
  unfolding place_of
  place_value is = rw is refl

  place_crew : r.op ≡ 5 → place_of_rule r ≡ 128 + r.a
  unfolding place_of
  place_crew is = rw is refl

  pub own_rule : AddsOwn r.op → OwnRule b r
  unfolding tracked number_of
  own_rule (inl is) =
      let p = b.query.person.0 in
      let low = low_value is in
      let aim = aimed_value r.op p r.a r.v (omega arith) in
      record {
        adding = rw is refl;
        fields = fields_on_person b.sizes r.op r.role.0 p r.a r.v (omega arith) (omega arith) ok.query_in.person
            (names_value is) parts.role;
        tracks = rw (aim, eq-eqb p p refl, lt-ltb r.a 8 low.0, lt-ltb r.v 16 low.1) refl;
        number = rw (aim, place_value is) refl;
        subject = ap subject_of aim ∙ subject_value b.query.person (record { 0 = r.a }) r.v;
        low = omega (arith, place_value is);
      }
  own_rule (inr is) =
      let p = b.query.person.0 in
      let low = low_crew is in
      let aim = aimed-member r.op p r.a r.v (omega arith) in
      record {
        adding = rw is refl;
        fields = fields_joins b.sizes r.op r.role.0 p r.a r.v (omega arith) (omega arith) ok.query_in.person
            (names_crew is) parts.role;
        tracks = rw (aim, eq-eqb p p refl, lt-ltb r.a 32 low.0) refl;
        number = rw (aim, place_crew is) refl;
        subject = ap subject_of aim ∙ subject_member b.query.person (record { 0 = r.a });
        low = omega (arith, place_crew is);
      }

-- Rules with the same place have the same op, a and v.
module _ (b : Contents) (ok : Admitted b) (r s : Rule) (fits : rule_fits b.sizes r ≡ true) (fits-too : rule_fits b.sizes s ≡ true) where
  pub same_place : AddsOwn r.op → AddsOwn s.op → place_of_rule r ≡ place_of_rule s → (r.op ≡ s.op) × ((r.a ≡ s.a) × (r.v ≡ s.v))
  same_place (inl i) (inl j) e =
      let x = low_value b ok r fits i in
      let y = low_value b ok s fits-too j in
      let both : 16 * r.a + r.v ≡ 16 * s.a + s.v = sym (place_value b ok r fits i) ∙ e ∙ place_value b ok s fits-too j in
      (omega arith, (omega arith, omega arith))
  same_place (inl i) (inr j) e =
      let x = low_value b ok r fits i in
      let both : 16 * r.a + r.v ≡ 128 + s.a = sym (place_value b ok r fits i) ∙ e ∙ place_crew b ok s fits-too j in
      absurd (omega arith)
  same_place (inr i) (inl j) e =
      let y = low_value b ok s fits-too j in
      let both : 128 + r.a ≡ 16 * s.a + s.v = sym (place_crew b ok r fits i) ∙ e ∙ place_value b ok s fits-too j in
      absurd (omega arith)
  same_place (inr i) (inr j) e =
      let x = low_crew b ok r fits i in
      let y = low_crew b ok s fits-too j in
      let both : 128 + r.a ≡ 128 + s.a = sym (place_crew b ok r fits i) ∙ e ∙ place_crew b ok s fits-too j in
      (omega arith, (omega arith, omega arith))
