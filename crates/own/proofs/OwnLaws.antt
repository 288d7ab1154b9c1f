-- The facts of the query's person, in a tracked state and in a set of facts: one fact set, and when they meet the query of mode 03.
use mathlib.Core.Path.{◌≡◌, refl, sym, fun_ext, ◌∙◌}
use mathlib.Core.Logic.{◌≢◌, dite}
use mathlib.Core.Bool.{Bool, false}
use Prim.Native.Nat.{ℕ, ◌+◌, ◌*◌, ◌/◌, ◌%◌, ◌≤◌, ◌<◌}
use native.Mathlib.Decide.{dec_lt, ℕ_discrete}
use native.Mathlib.Omega.{arith}
use borrow.Author.Tests.{lt-ltb, le-ltb, eq-eqb}
use Rattle.facts.specs.declared.Fact.{Fact}
use Rattle.facts.specs.declared.Fact.TheVariants.{Holds, Member}
use Rattle.frames.specs.Book.{Contents}
use Rattle.theory.specs.Inner.Facts.{State, update}
use Rattle.theory.proofs.FactLaws.{update_same, update_other}
use Rattle.reach.specs.Inner.Tracked.{person_level, tracked, number_of, lift, track}
use Rattle.reach.proofs.TrackLaws.{lift-track}
use Rattle.own.specs.Inner.Own.{own}

module _ (b : Contents) where
  -- ---------------------------------------------------------------- states

  -- The person's fact f is the tracked fact f of the person's level.
  pub own_at : (S : State) (f : ℕ) → f < 160 → own b S f ≡ S (160 * person_level b + f)
  unfolding own
  own_at S f low = rw (lt-ltb f 160 low) refl

  own_beyond : (S : State) (f : ℕ) → 160 ≤ f → own b S f ≡ false
  unfolding own
  own_beyond S f far = rw (le-ltb f 160 far) refl

  -- A tracked fact of that level set sets the person's fact.
  pub own_put : (S : State) (g : ℕ) (on : Bool) → g / 160 ≡ person_level b → own b (update S g on) ≡ update (own b S) (g % 160) on
  own_put S g on here = fun_ext each
    where
      each : (f : ℕ) → own b (update S g on) f ≡ update (own b S) (g % 160) on f
      each f =
          dite (dec_lt f 160)
          (λ (low : f < 160).
          own_at (update S g on) f low
          ∙ dite (ℕ_discrete f (g % 160))
          (λ (e : f ≡ g % 160).
          let is : 160 * person_level b + f ≡ g = omega arith in
          rw (is, e) (update_same S g on ∙ sym (update_same (own b S) (g % 160) on)))
          (λ (n : f ≡ g % 160 → ⊥).
          let apart : 160 * person_level b + f ≢ g = λ e. n (omega arith) in
          update_other S g on apart ∙ sym (own_at S f low) ∙ sym (update_other (own b S) (g % 160) on n)))
          (λ (high : f < 160 → ⊥).
          let apart : f ≢ g % 160 = λ e. high (omega arith) in
          own_beyond (update S g on) f (omega arith) ∙ sym (own_beyond S f (omega arith)) ∙ sym (update_other (own b S) (g % 160) on apart))

  -- A tracked fact of another level changes none of the person's.
  pub own_other : (S : State) (g : ℕ) (on : Bool) → g / 160 ≢ person_level b → own b (update S g on) ≡ own b S
  own_other S g on apart = fun_ext each
    where
      each : (f : ℕ) → own b (update S g on) f ≡ own b S f
      each f =
          dite (dec_lt f 160)
          (λ (low : f < 160).
          let other : 160 * person_level b + f ≢ g = λ e. apart (omega arith) in
          own_at (update S g on) f low ∙ update_other S g on other ∙ sym (own_at S f low))
          (λ (high : f < 160 → ⊥). own_beyond (update S g on) f (omega arith) ∙ sym (own_beyond S f (omega arith)))

  -- ---------------------------------------------------------------- states and sets of facts

  -- What the person holds, and the crews that the person is in.
  pub own_value : (S : State) (a v : ℕ) → a < 8 → v < 16 → lift b S (Holds b.query.person (record { 0 = a }) v) ≡ own b S (16 * a + v)
  unfolding lift tracked number_of
  own_value S a v attr value =
      rw (eq-eqb b.query.person.0 b.query.person.0 refl, lt-ltb a 8 attr, lt-ltb v 16 value) (sym (own_at S (16 * a + v) (omega arith)))

  pub own-member : (S : State) (c : ℕ) → c < 32 → lift b S (Member b.query.person (record { 0 = c })) ≡ own b S (128 + c)
  unfolding lift tracked number_of
  own-member S c crew = rw (eq-eqb b.query.person.0 b.query.person.0 refl, lt-ltb c 32 crew) (sym (own_at S (128 + c) (omega arith)))

  -- The same of a set's state.
  pub held_value : (F : Fact → Bool) (a v : ℕ) → a < 8 → v < 16 → own b (track b F) (16 * a + v) ≡ F (Holds b.query.person (record { 0 = a }) v)
  unfolding tracked
  held_value F a v attr value =
      sym (own_value (track b F) a v attr value)
      ∙ lift-track b F (Holds b.query.person (record { 0 = a }) v)
      ∙ rw (eq-eqb b.query.person.0 b.query.person.0 refl, lt-ltb a 8 attr, lt-ltb v 16 value) refl

  pub held_member : (F : Fact → Bool) (c : ℕ) → c < 32 → own b (track b F) (128 + c) ≡ F (Member b.query.person (record { 0 = c }))
  unfolding tracked
  held_member F c crew =
      sym (own-member (track b F) c crew)
      ∙ lift-track b F (Member b.query.person (record { 0 = c }))
      ∙ rw (eq-eqb b.query.person.0 b.query.person.0 refl, lt-ltb c 32 crew) refl
