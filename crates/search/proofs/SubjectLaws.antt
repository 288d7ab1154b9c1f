-- The two kinds of levels: a crew's and the query's person's.
use mathlib.Core.Path.{◌≡◌, refl, ap, sym, ◌∙◌}
use mathlib.Core.Logic.{◌⊎◌, inl, inr, ⊎_elim, dite}
use mathlib.Core.Bool.{Bool, true, false, true≢false}
use mathlib.Core.List.{List}
use Prim.Native.Nat.{ℕ, ◌+◌, ◌*◌, ◌/◌, ◌≤◌, ◌<◌}
use native.Mathlib.Decide.{dec_lt}
use native.Mathlib.Omega.{arith}
use lib.Dec.{eqb}
use lib.ListN.{length, get_or}
use borrow.Author.Tests.{lt-ltb, le-ltb, eq-eqb}
use Rattle.facts.specs.declared.Person.{Person}
use Rattle.facts.specs.declared.Fact.TheVariants.{Holds, CrewHolds, Member}
use Rattle.frames.specs.declared.Rule.{Rule}
use Rattle.frames.specs.declared.Rules.{Rules}
use Rattle.frames.specs.Book.{Contents, listed, no_term}
use Rattle.frames.specs.Limits.{plain}
use Rattle.frames.specs.Inner.Fits.{term_of}
use Rattle.requests.specs.Requests.{aimed, fields_good}
use Rattle.sizes.proofs.SizeLaws.{value_bounds}
use Rattle.requests.proofs.RequestLaws.{aimed_value, aimed_crew, aimed-member, fields_on_person, fields_on_crew, fields_joins, fields_op}
use Rattle.rules.specs.declared.Subject.TheVariants.{User, Group}
use Rattle.rules.specs.Rules.{subject_of, term_holds}
use Rattle.rules.proofs.RuleLaws.{subject_value, subject_crew, subject_member}
use Rattle.theory.specs.Inner.Facts.{State}
use Rattle.level.specs.Inner.Moves.{place_of}
use Rattle.level.specs.Inner.Terms.{term_shown, GoodRule}
use Rattle.level.proofs.Levels.{on_level}
use Rattle.level.proofs.TermLaws.{term-plain}
use Rattle.reach.specs.Inner.Leveled.{Leveled}
use Rattle.reach.specs.Inner.Tracked.{person_level, tracked, number_of, lift}
use Rattle.reach.proofs.TrackLaws.{tracked_value, tracked_crew, tracked-member}
use Rattle.search.proofs.Tables.{CrewTableRight, PersonTableRight}
use Rattle.level.proofs.RuleParts.{Parts, crew_low, rule_value, rule_crew}
use Rattle.search.proofs.TermBridge.{crew-term, person-term}
use Rattle.search.proofs.WithinLaws.{LevelIs, SideIs}

-- The ops on a crew, and those on a person.
abbrev pub OnCrew : ℕ → Type 0
OnCrew op = (op ≡ 3) ⊎ (op ≡ 4)

abbrev pub OnPerson : ℕ → Type 0
OnPerson op = ((op ≡ 1) ⊎ (op ≡ 2)) ⊎ ((op ≡ 5) ⊎ (op ≡ 6))

module _ (b : Contents) (ok : Leveled b) (rs : Rules) (same-rules : b.rules ≡ listed rs) (few : rs.count ≤ 512) (room : length rs.rules ≡ 512) where
  -- ---------------------------------------------------------------- the level of a fact

  number_value : (p : Person) (a v : ℕ) → tracked b (Holds p (record { 0 = a }) v) ≡ true → number_of b (Holds p (record { 0 = a }) v) / 160 ≡ person_level b
  unfolding number_of
  number_value p a v t = let s = tracked_value b p (record { 0 = a }) v t in omega (arith, s.1.0, s.1.1)

  number_crew : (c a v : ℕ) → tracked b (CrewHolds (record { 0 = c }) (record { 0 = a }) v) ≡ true
      → (number_of b (CrewHolds (record { 0 = c }) (record { 0 = a }) v) / 160 ≡ c) × (c < person_level b)
  unfolding number_of
  number_crew c a v t = let s = tracked_crew b (record { 0 = c }) (record { 0 = a }) v t in (omega (arith, s.1.0, s.1.1), s.0)

  number_member : (p : Person) (c : ℕ) → tracked b (Member p (record { 0 = c })) ≡ true → number_of b (Member p (record { 0 = c })) / 160 ≡ person_level b
  unfolding number_of
  number_member p c t = let s = tracked-member b p (record { 0 = c }) t in omega (arith, s.1)

  -- ---------------------------------------------------------------- a crew's level

  module _ (k : ℕ) (is-crew : k < b.sizes.crews) where
    crew-op : (op : ℕ) → OnCrew op → (2 < op) × (op ≤ 4)
    crew-op op h = ⊎_elim (λ (e : op ≡ 3). (omega arith, omega arith)) (λ (e : op ≡ 4). (omega arith, omega arith)) h

    crew-good : (r : Rule) → Parts b.sizes r → OnCrew r.op → fields_good b.sizes r.op r.role.0 k r.a r.v ≡ true
    crew-good r p h =
        let at = crew-op r.op h in
        fields_on_crew b.sizes r.op r.role.0 k r.a r.v (omega (arith, at.0)) at.1 (lt-ltb k b.sizes.crews is-crew)
        (rule_value b.sizes ok.book.sized r p at.1) p.role

    crew-tracks : (r : Rule) → Parts b.sizes r → OnCrew r.op → tracked b (aimed r.op k r.a r.v) ≡ true
    unfolding tracked
    crew-tracks r p h =
        let at = crew-op r.op h in
        let low = value_bounds b.sizes r.a r.v ok.book.sized (rule_value b.sizes ok.book.sized r p at.1) in
        rw (aimed_crew r.op k r.a r.v at.0 at.1, lt-ltb k b.sizes.crews is-crew, lt-ltb r.a 8 low.0, lt-ltb r.v 16 low.1) refl

    crew-number : (r : Rule) → Parts b.sizes r → OnCrew r.op → number_of b (aimed r.op k r.a r.v) ≡ 160 * k + place_of r.op r.a r.v
    unfolding number_of place_of
    crew-number r p h =
        let at = crew-op r.op h in
        rw (aimed_crew r.op k r.a r.v at.0 at.1, lt-ltb r.op 5 (omega (arith, at.1))) refl

    crew-subject : (r : Rule) → OnCrew r.op → subject_of (aimed r.op k r.a r.v) ≡ Group (record { 0 = k })
    crew-subject r h =
        let at = crew-op r.op h in
        ap subject_of (aimed_crew r.op k r.a r.v at.0 at.1) ∙ subject_crew (record { 0 = k }) (record { 0 = r.a }) r.v

    crew_from : (op sub a v role : ℕ) → fields_good b.sizes op role sub a v ≡ true → tracked b (aimed op sub a v) ≡ true
        → number_of b (aimed op sub a v) / 160 ≡ k → OnCrew op × (sub ≡ k)
    crew_from op sub a v role good t at =
        let range = fields_op b.sizes op role sub a v good in
        dite (dec_lt op 3)
        (λ (two : op < 3).
        let e = aimed_value op sub a v (omega arith) in
        absurd (omega (arith, is-crew, number_value (record { 0 = sub }) a v (rw e at t), rw e at at)))
        (λ (more : op < 3 → ⊥).
        dite (dec_lt op 5)
        (λ (four : op < 5).
        let e = aimed_crew op sub a v (omega arith) (omega arith) in
        let n = number_crew sub a v (rw e at t) in
        (three-four op (omega arith) (omega arith), sym n.0 ∙ (rw e at at)))
        (λ (five : op < 5 → ⊥).
        let e = aimed-member op sub a v (omega arith) in
        absurd (omega (arith, is-crew, number_member (record { 0 = sub }) a (rw e at t), rw e at at))))
      where
        three-four : (op : ℕ) → 2 < op → op ≤ 4 → OnCrew op
        three-four op h l = dite (dec_lt op 4) (λ (m : op < 4). inl (omega arith)) (λ (m : op < 4 → ⊥). inr (omega arith))

    pub crew-level : LevelIs b ok rs same-rules few room OnCrew k k (Group (record { 0 = k }))
    crew-level = record {
      low = omega (arith, is-crew, ok.book.sized.crews_most);
      good = crew-good;
      tracks = crew-tracks;
      number = crew-number;
      subject = crew-subject;
      from_number = crew_from;
    }

    -- The terms of a rule on crews, at the crew's level.
    pub crew-terms : (T : List Bool) (R : State) → CrewTableRight b R k T → (S : State) (r : Rule) → Parts b.sizes r → GoodRule r → plain r ≡ true
        → OnCrew r.op → (j : ℕ) → j < r.n
        → term_shown T S (get_or r.terms j no_term) ≡ term_holds b.juniors (lift b (on_level k R S)) (Group (record { 0 = k })) (get_or r.terms j no_term)
    unfolding term_of
    crew-terms T R table S r p good no-not h j l =
        crew-term b R S k T table is-crew (get_or r.terms j no_term) (good.terms j l) (term-plain r good no-not j l) (p.own (crew-op r.op h).1 j l)

  pub crew_adds : SideIs b ok rs same-rules few room OnCrew 3 3 true
  crew_adds = record {
    to = λ op h. let e : op ≡ 3 = ⊎_elim (λ (x : op ≡ 3). x) (λ (x : op ≡ 3). x) h in (inl e, rw e refl);
    from = λ op h on. ⊎_elim (λ (e : op ≡ 3). inl e) (λ (e : op ≡ 4). absurd (true≢false (sym (rw e at on)))) h;
  }

  pub crew_dels : SideIs b ok rs same-rules few room OnCrew 4 4 false
  crew_dels = record {
    to = λ op h. let e : op ≡ 4 = ⊎_elim (λ (x : op ≡ 4). x) (λ (x : op ≡ 4). x) h in (inr e, rw e refl);
    from = λ op h on. ⊎_elim (λ (e : op ≡ 3). absurd (true≢false (rw e at on))) (λ (e : op ≡ 4). inl e) h;
  }

  -- ---------------------------------------------------------------- the query's person's level

  person : ℕ
  person = b.query.person.0

  is_asked_lem : eqb b.query.person.0 b.query.person.0 ≡ true
  is_asked_lem = eq-eqb b.query.person.0 b.query.person.0 refl

  -- An op on a person names a value or a crew.
  by_op : {C : Type 0} (op : ℕ) → OnPerson op → ((1 ≤ op) × (op ≤ 2) → C) → ((4 < op) × (op ≤ 6) → C) → C
  by_op op h low high =
      ⊎_elim
      (λ x. ⊎_elim (λ (e : op ≡ 1). low (omega arith, omega arith)) (λ (e : op ≡ 2). low (omega arith, omega arith)) x)
      (λ x. ⊎_elim (λ (e : op ≡ 5). high (omega arith, omega arith)) (λ (e : op ≡ 6). high (omega arith, omega arith)) x) h

  person_good : (r : Rule) → Parts b.sizes r → OnPerson r.op → fields_good b.sizes r.op r.role.0 person r.a r.v ≡ true
  unfolding person
  person_good r p h =
      let is = ok.book.query_in.person in
      by_op r.op h
      (λ at.
      fields_on_person b.sizes r.op r.role.0 b.query.person.0 r.a r.v at.0 at.1 is
      (rule_value b.sizes ok.book.sized r p (omega (arith, at.1))) p.role)
      (λ at.
      fields_joins b.sizes r.op r.role.0 b.query.person.0 r.a r.v at.0 at.1 is
      (rule_crew b.sizes ok.book.sized r p at.0) p.role)

  person_tracks : (r : Rule) → Parts b.sizes r → OnPerson r.op → tracked b (aimed r.op person r.a r.v) ≡ true
  unfolding tracked person
  person_tracks r p h =
      by_op r.op h
      (λ at.
      let low = value_bounds b.sizes r.a r.v ok.book.sized (rule_value b.sizes ok.book.sized r p (omega (arith, at.1))) in
      rw (aimed_value r.op b.query.person.0 r.a r.v at.1, is_asked_lem, lt-ltb r.a 8 low.0, lt-ltb r.v 16 low.1) refl)
      (λ at.
      let low = crew_low b.sizes ok.book.sized r.a r.v (rule_crew b.sizes ok.book.sized r p at.0) in
      rw (aimed-member r.op b.query.person.0 r.a r.v at.0, is_asked_lem, lt-ltb r.a 32 low.0) refl)

  person_number : (r : Rule) → Parts b.sizes r → OnPerson r.op
      → number_of b (aimed r.op person r.a r.v) ≡ 160 * person_level b + place_of r.op r.a r.v
  unfolding number_of place_of
  person_number r p h =
      by_op r.op h
      (λ at. rw (aimed_value r.op person r.a r.v at.1, lt-ltb r.op 5 (omega (arith, at.1))) refl)
      (λ at. rw (aimed-member r.op person r.a r.v at.0, le-ltb r.op 5 at.0) refl)

  person_subject : (r : Rule) → OnPerson r.op → subject_of (aimed r.op person r.a r.v) ≡ User b.query.person
  unfolding person
  person_subject r h =
      by_op r.op h
      (λ at. ap subject_of (aimed_value r.op b.query.person.0 r.a r.v at.1) ∙ subject_value b.query.person (record { 0 = r.a }) r.v)
      (λ at. ap subject_of (aimed-member r.op b.query.person.0 r.a r.v at.0) ∙ subject_member b.query.person (record { 0 = r.a }))

  person_from : (op sub a v role : ℕ) → fields_good b.sizes op role sub a v ≡ true → tracked b (aimed op sub a v) ≡ true
      → number_of b (aimed op sub a v) / 160 ≡ person_level b → OnPerson op × (sub ≡ person)
  unfolding person
  person_from op sub a v role good t at =
      let range = fields_op b.sizes op role sub a v good in
      dite (dec_lt op 3)
      (λ (two : op < 3).
      let e = aimed_value op sub a v (omega arith) in
      let is = (tracked_value b (record { 0 = sub }) (record { 0 = a }) v (rw e at t)).0 in
      (inl (dite (dec_lt op 2) (λ (m : op < 2). inl (omega (arith, range.0))) (λ (m : op < 2 → ⊥). inr (omega arith))), ap (λ (x : Person). x.0) is))
      (λ (more : op < 3 → ⊥).
      dite (dec_lt op 5)
      (λ (four : op < 5).
      let e = aimed_crew op sub a v (omega arith) (omega arith) in
      let n = number_crew sub a v (rw e at t) in
      absurd (omega (arith, n.0, n.1, rw e at at)))
      (λ (five : op < 5 → ⊥).
      let e = aimed-member op sub a v (omega arith) in
      let is = (tracked-member b (record { 0 = sub }) (record { 0 = a }) (rw e at t)).0 in
      (inr (dite (dec_lt op 6) (λ (m : op < 6). inl (omega arith)) (λ (m : op < 6 → ⊥). inr (omega (arith, range.1)))), ap (λ (x : Person). x.0) is)))

  pub person_level_lem : LevelIs b ok rs same-rules few room OnPerson (person_level b) b.query.person.0 (User b.query.person)
  unfolding person
  person_level_lem = record {
    low = ok.book.sized.crews_most;
    good = person_good;
    tracks = person_tracks;
    number = person_number;
    subject = person_subject;
    from_number = person_from;
  }

  pub person_terms : (T : List Bool) (R : State) → PersonTableRight b R T → (S : State) (r : Rule) → Parts b.sizes r → GoodRule r
      → plain r ≡ true → OnPerson r.op → (j : ℕ) → j < r.n
      → term_shown T S (get_or r.terms j no_term)
      ≡ term_holds b.juniors (lift b (on_level (person_level b) R S)) (User b.query.person) (get_or r.terms j no_term)
  unfolding term_of
  person_terms T R table S r p good no-not h j l =
      person-term b R S T table (get_or r.terms j no_term) (good.terms j l) (term-plain r good no-not j l) (p.kinds j l)

  pub person_adds : SideIs b ok rs same-rules few room OnPerson 1 5 true
  person_adds = record {
    to = λ op h. ⊎_elim (λ (e : op ≡ 1). (inl (inl e), rw e refl)) (λ (e : op ≡ 5). (inr (inl e), rw e refl)) h;
    from = λ op h on. ⊎_elim
        (λ x. ⊎_elim (λ (e : op ≡ 1). inl e) (λ (e : op ≡ 2). absurd (true≢false (sym (rw e at on)))) x)
        (λ x. ⊎_elim (λ (e : op ≡ 5). inr e) (λ (e : op ≡ 6). absurd (true≢false (sym (rw e at on)))) x) h;
  }

  pub person_dels : SideIs b ok rs same-rules few room OnPerson 2 6 false
  person_dels = record {
    to = λ op h. ⊎_elim (λ (e : op ≡ 2). (inl (inr e), rw e refl)) (λ (e : op ≡ 6). (inr (inr e), rw e refl)) h;
    from = λ op h on. ⊎_elim
        (λ x. ⊎_elim (λ (e : op ≡ 1). absurd (true≢false (rw e at on))) (λ (e : op ≡ 2). inl e) x)
        (λ x. ⊎_elim (λ (e : op ≡ 5). absurd (true≢false (rw e at on))) (λ (e : op ≡ 6). inr e) x) h;
  }
