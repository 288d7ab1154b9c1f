-- A level's terms are the ledger's at that level.
use mathlib.Core.Path.{◌≡◌, refl, ap, sym, ◌∙◌}
use mathlib.Core.Logic.{◌⊎◌, inl, inr, ⊎_elim}
use mathlib.Core.Bool.{Bool, true, false, ◌&&◌, ◌||◌, and-false, or-false}
use mathlib.Core.List.{List}
use Prim.Native.Nat.{ℕ, ◌+◌, ◌*◌, ◌/◌, ◌%◌, ◌≤◌, ◌<◌}
use native.Mathlib.Omega.{arith}
use lib.Dec.{eqb}
use borrow.Author.Tests.{lt-ltb, eq-eqb}
use Rattle.facts.specs.declared.Attr.{Attr}
use Rattle.facts.specs.declared.Fact.{Fact}
use Rattle.facts.specs.declared.Fact.TheVariants.{Holds, CrewHolds, Member}
use Rattle.inherit.specs.Inheritance.{is_junior, downward, crew_holds, person_in, person_holds}
use Rattle.quantifiers.specs.Quantifiers.{any_below}
use Rattle.inherit.proofs.InheritanceLaws.{downward_here, crew_holds_step, person_in_step, person_holds_step, crew_holds_local}
use Rattle.quantifiers.proofs.BelowLaws.{any_same, any_from_lem, any_false, from_same}
use Rattle.gate.specs.Gate.{asks_value, asks_crew}
use Rattle.gate.proofs.TermKindLaws.{value_kinds, crew_kinds, crew_not_value}
use Rattle.frames.specs.Limits.{is_not}
use Rattle.frames.proofs.LimitLaws.{no_not_kind}
use Rattle.frames.specs.Book.{Contents}
use Rattle.frames.specs.declared.Term.{Term}
use Rattle.rules.specs.declared.Subject.TheVariants.{User, Group}
use Rattle.rules.specs.Rules.{term_holds}
use Rattle.rules.proofs.RuleLaws.{term_person_direct, term_crew_direct, term_person_effective, term_crew_effective}
use Rattle.rules.proofs.RuleLaws.{term_person_at_least, term_crew_at_least, term_in_direct, term_in_effective}
use Rattle.theory.specs.Inner.Facts.{State}
use Rattle.shown.specs.Inner.Shown.{row, inherited}
use Rattle.level.specs.Inner.Terms.{effective, term_shown, TermInRange}
use Rattle.level.proofs.Levels.{on_level}
use Rattle.level.proofs.LevelLaws.{on_level_at, on_level_out}
use Rattle.reach.specs.Inner.Tracked.{person_level, tracked, number_of, lift}
use Rattle.reach.proofs.TrackLaws.{lift_same, tracked_crew}
use Rattle.search.proofs.Tables.{CrewTableRight, PersonTableRight}

module _ (b : Contents) (R S : State) where
  -- ---------------------------------------------------------------- what the state of a level says

  -- A crew's own value.
  crew_value : (k : ℕ) (a : Attr) (v : ℕ) → k < b.sizes.crews → a.0 < 8 → v < 16
      → lift b (on_level k R S) (CrewHolds (record { 0 = k }) a v) ≡ S (16 * a.0 + v)
  unfolding lift tracked number_of
  crew_value k a v h s t =
      rw (lt-ltb k b.sizes.crews h, lt-ltb a.0 8 s, lt-ltb v 16 t) (on_level_at k R S (16 * a.0 + v) (omega arith))

  -- The query's person's own values and crews.
  is_asked_lem : eqb b.query.person.0 b.query.person.0 ≡ true
  is_asked_lem = eq-eqb b.query.person.0 b.query.person.0 refl

  person_value : (a : Attr) (v : ℕ) → a.0 < 8 → v < 16 → lift b (on_level (person_level b) R S) (Holds b.query.person a v) ≡ S (16 * a.0 + v)
  unfolding lift tracked number_of
  person_value a v s t =
      rw (is_asked_lem, lt-ltb a.0 8 s, lt-ltb v 16 t) (on_level_at (person_level b) R S (16 * a.0 + v) (omega arith))

  person_member : (c : ℕ) → c < 32 → lift b (on_level (person_level b) R S) (Member b.query.person (record { 0 = c })) ≡ S (128 + c)
  unfolding lift tracked number_of
  person_member c h = rw (is_asked_lem, lt-ltb c 32 h) (on_level_at (person_level b) R S (128 + c) (omega arith))

  -- A lower crew's values are settled.
  lower_value : (k x : ℕ) (a : Attr) (v : ℕ) → (x < b.sizes.crews → x < k)
      → lift b (on_level k R S) (CrewHolds (record { 0 = x }) a v) ≡ lift b R (CrewHolds (record { 0 = x }) a v)
  unfolding number_of
  lower_value k x a v low =
      lift_same b (on_level k R S) R (CrewHolds (record { 0 = x }) a v)
      (λ t.
      let s = tracked_crew b (record { 0 = x }) a v t in
      let l : x < k = low s.0 in
      on_level_out k R S (160 * x + (16 * a.0 + v)) (λ e. omega (arith, s.1.0, s.1.1, l, e)))

  pub lower_holds : (k c : ℕ) (a : Attr) (v : ℕ) → ((x : ℕ) → x ≤ c → x < b.sizes.crews → x < k)
      → crew_holds b.juniors (lift b (on_level k R S)) a v c ≡ crew_holds b.juniors (lift b R) a v c
  lower_holds k c a v low = crew_holds_local b.juniors (lift b (on_level k R S)) (lift b R) a v c (λ x h. lower_value k x a v (low x h))

  -- ---------------------------------------------------------------- a crew's terms

  module _ (k : ℕ) (T : List Bool) (table : CrewTableRight b R k T) (is-crew : k < b.sizes.crews) where
    abbrev held-by-crews : Fact → Bool
    held-by-crews = lift b (on_level k R S)

    -- What a crew effectively holds.
    pub crew-effective : (a : Attr) (v : ℕ) → a.0 < 8 → v < 16 → effective T S (16 * a.0 + v) ≡ crew_holds b.juniors (lift b (on_level k R S)) a v k
    unfolding effective inherited
    crew-effective a v s t =
        let f = 16 * a.0 + v in
        let at : f / 16 ≡ a.0 = omega arith in
        let rest : f % 16 ≡ v = omega arith in
        let none : any_below (λ c. S (128 + c) && row T c f) 32 ≡ false =
        any_false (λ c. S (128 + c) && row T c f) 32
        (λ c l. ap (λ (x : Bool). S (128 + c) && x) (table.rows c f l (omega arith)) ∙ and-false (S (128 + c))) in
        rw (none, or-false (row T 32 f), table.own f (omega arith), at, rest)
        (sym (crew_holds_step b.juniors held-by-crews a v k
        ∙ rw (crew_value k a v is-crew s t)
        (ap (λ (x : Bool). S f || x)
        (any_same (λ j. is_junior b.juniors k j && crew_holds b.juniors held-by-crews a v j)
        (λ j. is_junior b.juniors k j && crew_holds b.juniors (lift b R) a v j) k
        (λ j l. ap (λ (x : Bool). is_junior b.juniors k j && x) (lower_holds k j a v (λ x h i. omega arith)))))))

    -- A term that asks for a value, of a crew, and is no "not" term.
    pub crew-term : (t : Term) → TermInRange t → is_not t ≡ false → asks_value t.kind ≡ true
        → term_shown T S t ≡ term_holds b.juniors (lift b (on_level k R S)) (Group (record { 0 = k })) t
    unfolding term_shown
    crew-term t good no-not asks = by_kind (value_kinds t.kind asks)
      where
        small : (t.a < 8) × (t.v < 16)
        small = good.value asks

        by_kind : (t.kind ≡ 1) ⊎ ((t.kind ≡ 2) ⊎ ((t.kind ≡ 5) ⊎ (t.kind ≡ 129)))
            → term_shown T S t ≡ term_holds b.juniors (lift b (on_level k R S)) (Group (record { 0 = k })) t
        by_kind (inl is) =
            rw (term_crew_direct b.juniors held-by-crews t (record { 0 = k }) is, is)
            (sym (crew_value k (record { 0 = t.a }) t.v is-crew small.0 small.1))
        by_kind (inr (inl is)) =
            rw (term_crew_effective b.juniors held-by-crews t (record { 0 = k }) is, is)
            (crew-effective (record { 0 = t.a }) t.v small.0 small.1)
        by_kind (inr (inr (inr is))) = absurd ((no_not_kind t no-not).0 is)
        by_kind (inr (inr (inl is))) =
            rw (term_crew_at_least b.juniors held-by-crews t (record { 0 = k }) is, is)
            (from_same (λ w. effective T S (16 * t.a + w)) (λ w. crew_holds b.juniors held-by-crews (record { 0 = t.a }) w k) t.v 16
            (λ w l. crew-effective (record { 0 = t.a }) w small.0 l))

  -- ---------------------------------------------------------------- the query's person's terms

  module _ (T : List Bool) (table : PersonTableRight b R T) where
    abbrev held : Fact → Bool
    held = lift b (on_level (person_level b) R S)

    -- The person is in crew d, and so in crew a by way of d.
    abbrev in_crew : ℕ → Bool
    in_crew d = held (Member b.query.person (record { 0 = d }))

    abbrev in-by : ℕ → ℕ → Bool
    in-by a d = in_crew d && downward b.juniors (λ y. eqb y a) d

    -- What the query's person effectively holds.
    pub person-effective : (a : Attr) (v : ℕ) → a.0 < 8 → v < 16
        → effective T S (16 * a.0 + v) ≡ person_holds b.juniors (lift b (on_level (person_level b) R S)) b.query.person a v
    unfolding effective inherited
    person-effective a v s t =
        let f = 16 * a.0 + v in
        let at : f / 16 ≡ a.0 = omega arith in
        let rest : f % 16 ≡ v = omega arith in
        rw (person_holds_step b.juniors held b.query.person a v, table.own f (omega arith), person_value a v s t)
        (ap (λ (x : Bool). S f || x)
        (any_same (λ c. S (128 + c) && row T c f) (λ d. in_crew d && crew_holds b.juniors held a v d) 32
        (λ c l. rw (person_member c l, table.values c f l (omega arith), at, rest)
        (ap (λ (x : Bool). S (128 + c) && x) (sym (lower_holds (person_level b) c a v (λ x h i. i)))))))

    person-reaches : (a : ℕ) → a < 32 → effective T S (128 + a) ≡ person_in b.juniors (lift b (on_level (person_level b) R S)) b.query.person a
    unfolding effective inherited
    person-reaches a s =
        rw (
          person_in_step b.juniors held b.query.person a,
          table.own (128 + a) (omega arith),
          any_same (λ c. S (128 + c) && row T c (128 + a)) (λ d. in-by a d) 32
              (λ c l. rw (person_member c l, table.crews c a l s) refl),
        )
        (absorbed (S (128 + a)) refl)
      where
        absorbed : (x : Bool) → S (128 + a) ≡ x → (x || any_below (λ d. in-by a d) 32) ≡ any_below (λ d. in-by a d) 32
        absorbed false e = refl
        absorbed true e =
            sym (any_from_lem (λ d. in-by a d) 32 a
            (rw (person_member a s, e, downward_here b.juniors (λ y. eqb y a) a (eq-eqb a a refl)) refl) s)

    -- Any term but a "not" term, of the query's person.
    pub person-term : (t : Term) → TermInRange t → is_not t ≡ false → (asks_value t.kind ≡ true) ⊎ (asks_crew t.kind ≡ true)
        → term_shown T S t ≡ term_holds b.juniors (lift b (on_level (person_level b) R S)) (User b.query.person) t
    unfolding term_shown
    person-term t good no-not kinds =
        ⊎_elim (λ asks. of-value (good.value asks) (value_kinds t.kind asks))
        (λ asks. of-crew (good.crew (crew_not_value t.kind asks)) (crew_kinds t.kind asks)) kinds
      where
        of-value : (t.a < 8) × (t.v < 16) → (t.kind ≡ 1) ⊎ ((t.kind ≡ 2) ⊎ ((t.kind ≡ 5) ⊎ (t.kind ≡ 129)))
            → term_shown T S t ≡ term_holds b.juniors (lift b (on_level (person_level b) R S)) (User b.query.person) t
        of-value small (inl is) =
            rw (term_person_direct b.juniors held t b.query.person is, is)
            (sym (person_value (record { 0 = t.a }) t.v small.0 small.1))
        of-value small (inr (inl is)) =
            rw (term_person_effective b.juniors held t b.query.person is, is)
            (person-effective (record { 0 = t.a }) t.v small.0 small.1)
        of-value small (inr (inr (inr is))) = absurd ((no_not_kind t no-not).0 is)
        of-value small (inr (inr (inl is))) =
            rw (term_person_at_least b.juniors held t b.query.person is, is)
            (from_same (λ w. effective T S (16 * t.a + w)) (person_holds b.juniors held b.query.person (record { 0 = t.a })) t.v 16
            (λ w l. person-effective (record { 0 = t.a }) w small.0 l))

        of-crew : t.a < 32 → (t.kind ≡ 3) ⊎ ((t.kind ≡ 4) ⊎ (t.kind ≡ 131))
            → term_shown T S t ≡ term_holds b.juniors (lift b (on_level (person_level b) R S)) (User b.query.person) t
        of-crew small (inl is) = rw (term_in_direct b.juniors held t b.query.person is, is) (sym (person_member t.a small))
        of-crew small (inr (inl is)) = rw (term_in_effective b.juniors held t b.query.person is, is) (person-reaches t.a small)
        of-crew small (inr (inr is)) = absurd ((no_not_kind t no-not).1 is)
