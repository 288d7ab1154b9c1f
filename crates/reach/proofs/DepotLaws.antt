-- The laws of the depot as a world of the theory: its permission is monotone, where no rule has a "not" term, and turns on the facts of its
-- own level and those below.
use mathlib.Core.Path.{◌≡◌, sym, ◌∙◌}
use mathlib.Core.Bool.{Bool, true}
use Prim.Native.Nat.{◌+◌, ◌*◌, ◌/◌, ◌<◌}
use native.Mathlib.Omega.{arith}
use Rattle.facts.specs.declared.Person.{Person}
use Rattle.facts.specs.declared.Fact.{Fact}
use Rattle.facts.specs.declared.Fact.TheVariants.{Holds, CrewHolds, Member}
use Rattle.frames.specs.Limits.{all_plain}
use Rattle.frames.specs.Book.{Contents}
use Rattle.frames.specs.declared.Term.{Term}
use Rattle.requests.specs.declared.Request.{Request}
use Rattle.rules.specs.Rules.{subject_of, term_holds, permitted}
use Rattle.rules.proofs.RuleLaws.{subject_value, subject_crew, subject_member}
use Rattle.ledger.proofs.LedgerLaws.{SameOf, permitted_mono, permitted_local, term_of_crew, term_of_person}
use Rattle.theory.specs.Inner.Facts.{State, ◌⊆◌}
use Rattle.theory.specs.Inner.Plan.{Ask, Req, req, Lawful}
use Rattle.theory.specs.Inner.Tiers.{Local, Agree}
use Rattle.reach.specs.Inner.Tracked.{person_level, tracked, number_of, lift, asked}
use Rattle.reach.specs.Inner.Depot.{depot, level_of}
use Rattle.reach.proofs.TrackLaws.{tracked_value, tracked_crew, tracked-member, level_low, lift_mono, lift_same}

-- Of rules without "not" terms more facts permit no fewer requests; and every request is about a tracked fact.
pub depot_lawful : (b : Contents) → all_plain b.rules ≡ true → Lawful (depot b)
depot_lawful b plain-rules = record { mono = more; known = in-F }
  where
    more : {S T : State} (r : Req) → S ⊆ T → (depot b).May S r → (depot b).May T r
    more {S} {T} (req on q) le m =
        record {
          formed = m.formed;
          role = m.role;
          adding = m.adding;
          of_fact = m.of_fact;
          number = m.number;
          bounded = m.bounded;
          allows = permitted_mono b.juniors (lift_mono b le) b.rules (asked q) plain-rules m.allows;
        }

    in-F : (S : State) (on : Bool) (q : Ask) → (depot b).May S (req on q) → q.fact < 5280
    in-F S on q m = m.bounded

module _ (b : Contents) (S T : State) where
  -- A term about a tracked subject reads facts of its level and those below alone.
  terms_agree : (f : Fact) → tracked b f ≡ true → Agree level_of (number_of b f / 160) S T
      → (t : Term) → term_holds b.juniors (lift b S) (subject_of f) t ≡ term_holds b.juniors (lift b T) (subject_of f) t
  unfolding number_of
  terms_agree (Holds p a v) e agree t =
      let h = tracked_value b p a v e in
      let k : (160 * person_level b + (16 * a.0 + v)) / 160 ≡ person_level b = omega (arith, h.1.0, h.1.1) in
      rw (subject_value p a v) (term_of_person b.juniors (lift b S) (lift b T) p
      (all_of p (λ f i. agree (number_of b f) (omega (arith, level_low b f i, k)))) t)
    where
      all_of : (p : Person) → ((f : Fact) → tracked b f ≡ true → S (number_of b f) ≡ T (number_of b f)) → SameOf (lift b S) (lift b T) p
      all_of p h =
          record {
            value = λ a v. lift_same b S T (Holds p a v) (h (Holds p a v));
            crew_of = λ c. lift_same b S T (Member p c) (h (Member p c));
            crews = λ x a v. lift_same b S T (CrewHolds (record { 0 = x }) a v) (h (CrewHolds (record { 0 = x }) a v));
          }
  terms_agree (CrewHolds c a v) e agree t =
      let h = tracked_crew b c a v e in
      let k : (160 * c.0 + (16 * a.0 + v)) / 160 ≡ c.0 = omega (arith, h.1.0, h.1.1) in
      rw (subject_crew c a v) (term_of_crew b.juniors (lift b S) (lift b T) c
      (record {
        crew = λ x a' v' le. lift_same b S T (CrewHolds (record { 0 = x }) a' v') (λ i.
            let j = tracked_crew b (record { 0 = x }) a' v' i in
            agree (160 * x + (16 * a'.0 + v')) (omega (arith, j.1.0, j.1.1, k, le)));
      }) t)
  terms_agree (Member p c) e agree t =
      let h = tracked-member b p c e in
      let k : (160 * person_level b + (128 + c.0)) / 160 ≡ person_level b = omega (arith, h.1) in
      rw (subject_member p c) (term_of_person b.juniors (lift b S) (lift b T) p
      (record {
        value = λ a v. lift_same b S T (Holds p a v) (λ i. agree (number_of b (Holds p a v)) (omega (arith, level_low b (Holds p a v) i, k)));
        crew_of = λ d. lift_same b S T (Member p d) (λ i. agree (number_of b (Member p d)) (omega (arith, level_low b (Member p d) i, k)));
        crews = λ x a v. lift_same b S T (CrewHolds (record { 0 = x }) a v)
            (λ i. agree (number_of b (CrewHolds (record { 0 = x }) a v)) (omega (arith, level_low b (CrewHolds (record { 0 = x }) a v) i, k)));
      }) t)

  -- So does a permission.
  pub permitted_agree : (r : Request) → tracked b r.fact ≡ true → Agree level_of (number_of b r.fact / 160) S T
      → permitted b.juniors b.rules (lift b S) r ≡ permitted b.juniors b.rules (lift b T) r
  permitted_agree r e agree = permitted_local b.juniors (lift b S) (lift b T) b.rules r (terms_agree r.fact e agree)

-- A request is permitted alike wherever the facts of its level and of those below are alike: the levels are tiers of the theory.
pub depot_local : (b : Contents) → Local (depot b) level_of
depot_local b = record {
  local = λ {S} {T} on q agree m. record {
    formed = m.formed;
    role = m.role;
    adding = m.adding;
    of_fact = m.of_fact;
    number = m.number;
    bounded = m.bounded;
    allows = sym (permitted_agree b S T (asked q) m.of_fact (λ g h. agree g (rw m.number at h))) ∙ m.allows;
  };
}
