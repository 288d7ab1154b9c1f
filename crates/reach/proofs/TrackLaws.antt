-- What numbers, states and sets of facts have to do with each other.
use mathlib.Core.Path.{◌≡◌, refl, ap, sym, fun_ext, ◌∙◌}
use mathlib.Core.Logic.{dite}
use mathlib.Core.Bool.{Bool, true, false, ◌&&◌, and-false, true≢false}
use Prim.Native.Nat.{ℕ, ◌+◌, ◌-◌, ◌*◌, ◌/◌, ◌%◌, ◌≤◌, ◌<◌}
use native.Mathlib.Decide.{ℕ_discrete, dec_lt}
use native.Mathlib.Omega.{arith}
use lib.Dec.{ltb}
use borrow.Author.Tests.{eqb-true, ltb-true, lt-ltb, le-ltb, eq-eqb}
use Rattle.facts.specs.declared.Person.{Person}
use Rattle.facts.specs.declared.Crew.{Crew}
use Rattle.facts.specs.declared.Attr.{Attr}
use Rattle.facts.specs.declared.Fact.{Fact}
use Rattle.facts.specs.declared.Fact.TheVariants.{Holds, CrewHolds, Member}
use Rattle.facts.proofs.FactLaws.{same_person}
use Rattle.inherit.specs.Inheritance.{Subset}
use Rattle.quantifiers.proofs.BoolLaws.{and_both, and_from}
use Rattle.sizes.specs.Sizes.{is_person, is_crew, is_value}
use Rattle.frames.specs.Book.{Contents}
use Rattle.frames.specs.Inner.Fits.{in_sizes, Admitted}
use Rattle.sizes.proofs.SizeLaws.{value_bounds}
use Rattle.ledger.proofs.LedgerLaws.{SameOf}
use Rattle.theory.specs.Inner.Facts.{State, ◌⊆◌, update}
use Rattle.theory.proofs.FactLaws.{update_same, update_other}
use Rattle.reach.specs.Inner.Tracked.{person_level, is_asked, tracked, number_of, lift, fact_at, is_number, track}

-- ---------------------------------------------------------------- tracked facts

-- What being tracked says of each fact.
pub tracked_value : (b : Contents) (p : Person) (a : Attr) (v : ℕ) → tracked b (Holds p a v) ≡ true → (p ≡ b.query.person) × ((a.0 < 8) × (v < 16))
unfolding tracked
tracked_value b p a v e =
    let one = and_both (is_asked b p.0) (ltb a.0 8 && ltb v 16) e in
    let two = and_both (ltb a.0 8) (ltb v 16) one.1 in
    (same_person p b.query.person (eqb-true p.0 b.query.person.0 one.0), (ltb-true a.0 8 two.0, ltb-true v 16 two.1))

pub tracked_crew : (b : Contents) (c : Crew) (a : Attr) (v : ℕ) → tracked b (CrewHolds c a v) ≡ true → (c.0 < b.sizes.crews) × ((a.0 < 8) × (v < 16))
unfolding tracked
tracked_crew b c a v e =
    let one = and_both (ltb c.0 b.sizes.crews) (ltb a.0 8 && ltb v 16) e in
    let two = and_both (ltb a.0 8) (ltb v 16) one.1 in
    (ltb-true c.0 b.sizes.crews one.0, (ltb-true a.0 8 two.0, ltb-true v 16 two.1))

pub tracked-member : (b : Contents) (p : Person) (c : Crew) → tracked b (Member p c) ≡ true → (p ≡ b.query.person) × (c.0 < 32)
unfolding tracked
tracked-member b p c e =
    let one = and_both (is_asked b p.0) (ltb c.0 32) e in
    (same_person p b.query.person (eqb-true p.0 b.query.person.0 one.0), ltb-true c.0 32 one.1)

-- The level of a tracked fact is a crew's or the person's.
pub level_low : (b : Contents) (f : Fact) → tracked b f ≡ true → number_of b f / 160 ≤ person_level b
unfolding number_of
level_low b (Holds p a v) e = let t = tracked_value b p a v e in omega (arith, t.1.0, t.1.1)
level_low b (CrewHolds c a v) e = let t = tracked_crew b c a v e in omega (arith, t.0, t.1.0, t.1.1)
level_low b (Member p c) e = let t = tracked-member b p c e in omega (arith, t.1)

-- A tracked fact's number is a number, and its fact is that fact.
pub number_is : (b : Contents) (f : Fact) → tracked b f ≡ true → is_number b (number_of b f) ≡ true
unfolding number_of is_number
number_is b (Holds p a v) e =
    let t = tracked_value b p a v e in
    let k : (160 * person_level b + (16 * a.0 + v)) / 160 ≡ person_level b = omega (arith, t.1.0, t.1.1) in
    rw (k, le-ltb (person_level b) (person_level b) (omega arith), eq-eqb (person_level b) (person_level b) refl) refl
number_is b (CrewHolds c a v) e =
    let t = tracked_crew b c a v e in
    let k : (160 * c.0 + (16 * a.0 + v)) / 160 ≡ c.0 = omega (arith, t.1.0, t.1.1) in
    let i : (160 * c.0 + (16 * a.0 + v)) % 160 ≡ 16 * a.0 + v = omega (arith, t.1.0, t.1.1) in
    rw (k, i, lt-ltb c.0 (person_level b) t.0, lt-ltb (16 * a.0 + v) 128 (omega (arith, t.1.0, t.1.1))) refl
number_is b (Member p c) e =
    let t = tracked-member b p c e in
    let k : (160 * person_level b + (128 + c.0)) / 160 ≡ person_level b = omega (arith, t.1) in
    rw (k, le-ltb (person_level b) (person_level b) (omega arith), eq-eqb (person_level b) (person_level b) refl) refl

pub number_fact : (b : Contents) (f : Fact) → tracked b f ≡ true → fact_at b (number_of b f / 160) (number_of b f % 160) ≡ f
unfolding number_of fact_at
number_fact b (Holds p a v) e =
    let t = tracked_value b p a v e in
    let k : (160 * person_level b + (16 * a.0 + v)) / 160 ≡ person_level b = omega (arith, t.1.0, t.1.1) in
    let i : (160 * person_level b + (16 * a.0 + v)) % 160 ≡ 16 * a.0 + v = omega (arith, t.1.0, t.1.1) in
    let d : (16 * a.0 + v) / 16 ≡ a.0 = omega (arith, t.1.1) in
    let m : (16 * a.0 + v) % 16 ≡ v = omega (arith, t.1.1) in
    rw (k, i, le-ltb (person_level b) (person_level b) (omega arith), lt-ltb (16 * a.0 + v) 128 (omega (arith, t.1.0, t.1.1)), d, m, ← t.0) refl
number_fact b (CrewHolds c a v) e =
    let t = tracked_crew b c a v e in
    let k : (160 * c.0 + (16 * a.0 + v)) / 160 ≡ c.0 = omega (arith, t.1.0, t.1.1) in
    let i : (160 * c.0 + (16 * a.0 + v)) % 160 ≡ 16 * a.0 + v = omega (arith, t.1.0, t.1.1) in
    let d : (16 * a.0 + v) / 16 ≡ a.0 = omega (arith, t.1.1) in
    let m : (16 * a.0 + v) % 16 ≡ v = omega (arith, t.1.1) in
    rw (k, i, lt-ltb c.0 (person_level b) t.0, d, m) refl
number_fact b (Member p c) e =
    let t = tracked-member b p c e in
    let k : (160 * person_level b + (128 + c.0)) / 160 ≡ person_level b = omega (arith, t.1) in
    let i : (160 * person_level b + (128 + c.0)) % 160 ≡ 128 + c.0 = omega (arith, t.1) in
    let d : 128 + c.0 - 128 ≡ c.0 = omega arith in
    rw (k, i, le-ltb (person_level b) (person_level b) (omega arith), le-ltb (128 + c.0) 128 (omega arith), d, ← t.0) refl

-- The fact of a number is tracked, and has that number.
pub fact_tracked : (b : Contents) (g : ℕ) → is_number b g ≡ true
    → (tracked b (fact_at b (g / 160) (g % 160)) ≡ true) × (number_of b (fact_at b (g / 160) (g % 160)) ≡ g)
unfolding is_number fact_at tracked number_of
fact_tracked b g e =
    dite (dec_lt (g / 160) (person_level b))
    (λ (low : g / 160 < person_level b).
    let i : g % 160 < 128 = ltb-true (g % 160) 128 (rw (lt-ltb (g / 160) (person_level b) low) at e) in
    rw (lt-ltb (g / 160) (person_level b) low) (
      and_from (ltb (g / 160) b.sizes.crews) (ltb (g % 160 / 16) 8 && ltb (g % 160 % 16) 16) (lt-ltb (g / 160) b.sizes.crews low)
          (and_from (ltb (g % 160 / 16) 8) (ltb (g % 160 % 16) 16) (lt-ltb (g % 160 / 16) 8 (omega arith)) (lt-ltb (g % 160 % 16) 16 (omega arith))),
      omega arith,
    ))
    (λ (high : g / 160 < person_level b → ⊥).
    let k : g / 160 ≡ person_level b = eqb-true (g / 160) (person_level b) (rw (le-ltb (g / 160) (person_level b) (omega arith)) at e) in
    dite (dec_lt (g % 160) 128)
    (λ (value : g % 160 < 128).
    rw (le-ltb (g / 160) (person_level b) (omega arith), lt-ltb (g % 160) 128 value) (
      and_from (is_asked b b.query.person.0) (ltb (g % 160 / 16) 8 && ltb (g % 160 % 16) 16) (eq-eqb b.query.person.0 b.query.person.0 refl)
          (and_from (ltb (g % 160 / 16) 8) (ltb (g % 160 % 16) 16) (lt-ltb (g % 160 / 16) 8 (omega arith)) (lt-ltb (g % 160 % 16) 16 (omega arith))),
      omega (arith, k),
    ))
    (λ (crew : g % 160 < 128 → ⊥).
    rw (le-ltb (g / 160) (person_level b) (omega arith), le-ltb (g % 160) 128 (omega arith)) (
      and_from (is_asked b b.query.person.0) (ltb (g % 160 - 128) 32) (eq-eqb b.query.person.0 b.query.person.0 refl)
          (lt-ltb (g % 160 - 128) 32 (omega arith)),
      omega (arith, k),
    )))

-- ---------------------------------------------------------------- states and sets of facts

-- The state of a set of facts at a tracked fact.
pub track_at : (b : Contents) (F : Fact → Bool) (f : Fact) → tracked b f ≡ true → track b F (number_of b f) ≡ F f
unfolding track
track_at b F f e = rw (number_is b f e, number_fact b f e) refl

-- The set of a set's state: its tracked facts.
pub lift-track : (b : Contents) (F : Fact → Bool) (f : Fact) → lift b (track b F) f ≡ tracked b f && F f
unfolding lift
lift-track b F f = by-tracked (tracked b f) refl
  where
    by-tracked : (t : Bool) → tracked b f ≡ t → (t && track b F (number_of b f)) ≡ t && F f
    by-tracked true i = track_at b F f i
    by-tracked false i = refl

-- More tracked facts are more facts.
pub lift_mono : (b : Contents) {S T : State} → S ⊆ T → Subset (lift b S) (lift b T)
unfolding lift
lift_mono b {S} {T} le =
    record {
      each = λ f e.
          let both = and_both (tracked b f) (S (number_of b f)) e in
          and_from (tracked b f) (T (number_of b f)) both.0 (le (number_of b f) both.1);
    }

-- States that agree at a tracked fact agree on it.
pub lift_same : (b : Contents) (S T : State) (f : Fact) → (tracked b f ≡ true → S (number_of b f) ≡ T (number_of b f)) → lift b S f ≡ lift b T f
unfolding lift
lift_same b S T f h = by-tracked (tracked b f) refl
  where
    by-tracked : (t : Bool) → tracked b f ≡ t → (t && S (number_of b f)) ≡ t && T (number_of b f)
    by-tracked true i = h i
    by-tracked false i = refl

-- One tracked fact changed.
pub track-put : (b : Contents) (F H : Fact → Bool) (f : Fact) (on : Bool) → tracked b f ≡ true → H f ≡ on → ((g : Fact) → (g ≡ f → ⊥) → H g ≡ F g)
    → track b H ≡ update (track b F) (number_of b f) on
unfolding track
track-put b F H f on t here other = fun_ext at-number
  where
    at-number : (g : ℕ) → (is_number b g && H (fact_at b (g / 160) (g % 160))) ≡ update (track b F) (number_of b f) on g
    at-number g =
        dite (ℕ_discrete g (number_of b f))
        (λ (same : g ≡ number_of b f). rw same (rw (number_is b f t, number_fact b f t, here) (sym (update_same (track b F) (number_of b f) on))))
        (λ (apart : g ≡ number_of b f → ⊥). by_number (is_number b g) refl apart ∙ sym (update_other (track b F) (number_of b f) on apart))
      where
        by_number : (n : Bool) → is_number b g ≡ n → (g ≡ number_of b f → ⊥)
            → (n && H (fact_at b (g / 160) (g % 160))) ≡ is_number b g && F (fact_at b (g / 160) (g % 160))
        by_number true i apart = rw i (other (fact_at b (g / 160) (g % 160)) (λ e. apart (sym (fact_tracked b g i).1 ∙ ap (number_of b) e)))
        by_number false i apart = rw i refl

-- A fact changed that is not tracked.
pub track_other : (b : Contents) (F H : Fact → Bool) (f : Fact) → tracked b f ≡ false → ((g : Fact) → (g ≡ f → ⊥) → H g ≡ F g) → track b H ≡ track b F
unfolding track
track_other b F H f t other = fun_ext at-number
  where
    at-number : (g : ℕ) → (is_number b g && H (fact_at b (g / 160) (g % 160))) ≡ is_number b g && F (fact_at b (g / 160) (g % 160))
    at-number g = by_number (is_number b g) refl
      where
        by_number : (n : Bool) → is_number b g ≡ n → (n && H (fact_at b (g / 160) (g % 160))) ≡ n && F (fact_at b (g / 160) (g % 160))
        by_number true i = other (fact_at b (g / 160) (g % 160)) (λ e. true≢false (sym (fact_tracked b g i).0 ∙ ap (tracked b) e ∙ t))
        by_number false i = refl

-- ---------------------------------------------------------------- facts within the sizes

module _ (b : Contents) (ok : Admitted b) where
  -- A fact within the sizes that is a crew's, or the query's person's, is tracked.
  pub crew_in : (c : Crew) (a : Attr) (v : ℕ) → in_sizes b.sizes (CrewHolds c a v) ≡ true → tracked b (CrewHolds c a v) ≡ true
  unfolding in_sizes tracked
  crew_in c a v e =
      let both = and_both (is_crew b.sizes c.0) (is_value b.sizes a.0 v) e in
      let small = value_bounds b.sizes a.0 v ok.sized both.1 in
      and_from (ltb c.0 b.sizes.crews) (ltb a.0 8 && ltb v 16) both.0
      (and_from (ltb a.0 8) (ltb v 16) (lt-ltb a.0 8 small.0) (lt-ltb v 16 small.1))

  pub value_in : (p : Person) (a : Attr) (v : ℕ) → p ≡ b.query.person → in_sizes b.sizes (Holds p a v) ≡ true → tracked b (Holds p a v) ≡ true
  unfolding in_sizes tracked
  value_in p a v is e =
      let both = and_both (is_person b.sizes p.0) (is_value b.sizes a.0 v) e in
      let small = value_bounds b.sizes a.0 v ok.sized both.1 in
      and_from (is_asked b p.0) (ltb a.0 8 && ltb v 16) (eq-eqb p.0 b.query.person.0 (ap (λ (x : Person). x.0) is))
      (and_from (ltb a.0 8) (ltb v 16) (lt-ltb a.0 8 small.0) (lt-ltb v 16 small.1))

  pub member_in : (p : Person) (c : Crew) → p ≡ b.query.person → in_sizes b.sizes (Member p c) ≡ true → tracked b (Member p c) ≡ true
  unfolding in_sizes tracked
  member_in p c is e =
      let both = and_both (is_person b.sizes p.0) (is_crew b.sizes c.0) e in
      and_from (is_asked b p.0) (ltb c.0 32) (eq-eqb p.0 b.query.person.0 (ap (λ (x : Person). x.0) is))
      (lt-ltb c.0 32 (omega (arith, ltb-true c.0 b.sizes.crews both.1, ok.sized.crews_most)))

  module _ (F : Fact → Bool) (inside : (f : Fact) → F f ≡ true → in_sizes b.sizes f ≡ true) where
    -- A fact that is tracked where it is within the sizes is in the set's state as in the set.
    same-held : (f : Fact) → (in_sizes b.sizes f ≡ true → tracked b f ≡ true) → F f ≡ lift b (track b F) f
    same-held f h = by-held (F f) refl ∙ sym (lift-track b F f)
      where
        by-held : (x : Bool) → F f ≡ x → x ≡ tracked b f && F f
        by-held true i = sym (and_from (tracked b f) (F f) (h (inside f i)) i)
        by-held false i = sym (rw i (and-false (tracked b f)))

    -- So is what each crew holds.
    pub crew-held : (x : ℕ) (a : Attr) (v : ℕ) → F (CrewHolds (record { 0 = x }) a v) ≡ lift b (track b F) (CrewHolds (record { 0 = x }) a v)
    crew-held x a v = same-held (CrewHolds (record { 0 = x }) a v) (crew_in (record { 0 = x }) a v)

    -- The tracked facts of a set have all that is read of the query's person.
    pub person_held : (p : Person) → p ≡ b.query.person → SameOf F (lift b (track b F)) p
    person_held p is =
        record {
          value = λ a v. same-held (Holds p a v) (value_in p a v is);
          crew_of = λ c. same-held (Member p c) (member_in p c is);
          crews = crew-held;
        }
