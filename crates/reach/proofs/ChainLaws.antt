-- Chains of the depot are runs of the theory's world, and runs of the world are chains.
use mathlib.Core.Path.{◌≡◌, refl, ap, sym, subst, ◌∙◌}
use mathlib.Core.Logic.{dite}
use mathlib.Core.Bool.{Bool, true, false}
use mathlib.Core.List.{List, [], ◌∷◌, map}
use Prim.Native.Nat.{ℕ, ◌+◌}
use native.Mathlib.Omega.{arith}
use lib.ListN.{length, get_or}
use Rattle.sets.specs.Sets.{member}
use Rattle.facts.specs.Facts.{holds}
use Rattle.facts.specs.declared.Fact.{Fact}
use Rattle.facts.specs.declared.Fact.TheVariants.{Holds, CrewHolds, Member}
use Rattle.facts.proofs.FactLaws.{fact_discrete}
use Rattle.frames.specs.Book.{Contents}
use Rattle.frames.specs.Inner.Fits.{Admitted}
use Rattle.frames.specs.declared.Term.{Term}
use Rattle.requests.specs.declared.Request.{Request}
use Rattle.requests.specs.Requests.{adds, request_of, well_formed}
use Rattle.requests.proofs.RequestLaws.{in_sizes-fits, request_parts, well_formed-length, well_formed_fact}
use Rattle.rules.specs.Rules.{subject_of, term_holds, permitted}
use Rattle.rules.proofs.RuleLaws.{subject_value, subject_crew, subject_member}
use Rattle.ledger.specs.Ledger.{after}
use Rattle.ledger.proofs.LedgerLaws.{after_same, after_other, after-length, allowed-permitted, permitted_local, term_of_crew, term_of_person}
use Rattle.replay.specs.Chains.{goes, ends, run}
use Rattle.replay.proofs.ReplayLaws.{one_end, goes_parts, goes_from, run_none, run-goes, run_parts}
use Rattle.theory.specs.Inner.Facts.{State, update}
use Rattle.theory.specs.Inner.Plan.{Ask, Req, req, Runs, end}
use Rattle.reach.specs.Inner.Tracked.{tracked, number_of, lift, track, bytes_of, asked, May}
use Rattle.reach.proofs.Chained.{Kept, ask_for, tracked_of, five_of}
use Rattle.reach.proofs.TrackLaws.{tracked_value, tracked-member, level_low, track-put, track_other, crew-held, person_held}
use Rattle.reach.specs.Inner.Depot.{depot}

-- A list of five is its five elements.
five : (q : List ℕ) → length q ≡ 5 → (get_or q 0 0 ∷ get_or q 1 0 ∷ get_or q 2 0 ∷ get_or q 3 0 ∷ get_or q 4 0 ∷ []) ≡ q
five [] e = absurd (omega arith)
five (o ∷ []) e = absurd (omega arith)
five (o ∷ r ∷ []) e = absurd (omega arith)
five (o ∷ r ∷ s ∷ []) e = absurd (omega arith)
five (o ∷ r ∷ s ∷ a ∷ []) e = absurd (omega arith)
five (o ∷ r ∷ s ∷ a ∷ v ∷ []) e = refl
five (o ∷ r ∷ s ∷ a ∷ v ∷ x ∷ xs) e = absurd (omega arith)

module _ (b : Contents) (ok : Admitted b) where
  module _ (l : List ℕ) (kept : Kept b l) where
    -- A term about a tracked subject holds in the ledger as in its state.
    terms-held : (f : Fact) → tracked b f ≡ true → (t : Term)
        → term_holds b.juniors (holds l) (subject_of f) t ≡ term_holds b.juniors (lift b (track b (holds l))) (subject_of f) t
    terms-held (Holds p a v) e t =
        rw (subject_value p a v) (term_of_person b.juniors (holds l) (lift b (track b (holds l))) p
        (person_held b ok (holds l) kept.inside p (tracked_value b p a v e).0) t)
    terms-held (CrewHolds c a v) e t =
        rw (subject_crew c a v) (term_of_crew b.juniors (holds l) (lift b (track b (holds l))) c
        (record { crew = λ x a' v' le. crew-held b ok (holds l) kept.inside x a' v' }) t)
    terms-held (Member p c) e t =
        rw (subject_member p c) (term_of_person b.juniors (holds l) (lift b (track b (holds l))) p
        (person_held b ok (holds l) kept.inside p (tracked-member b p c e).0) t)

    -- So does a permission.
    pub permitted-held : (r : Request) → tracked b r.fact ≡ true
        → permitted b.juniors b.rules (holds l) r ≡ permitted b.juniors b.rules (lift b (track b (holds l))) r
    permitted-held r e = permitted_local b.juniors (holds l) (lift b (track b (holds l))) b.rules r (terms-held r.fact e)

    -- ---------------------------------------------------------------- one request

    -- A well-formed request keeps the ledger so.
    pub kept-after : (q : List ℕ) → well_formed b.sizes q ≡ true → Kept b (after l (request_of q))
    kept-after q formed =
        record {
          room = after-length l (request_of q) ∙ kept.room;
          inside = λ f e. dite (fact_discrete f (request_of q).fact)
              (λ (here : f ≡ (request_of q).fact). rw here (well_formed_fact b.sizes q formed))
              (λ (other : f ≡ (request_of q).fact → ⊥). kept.inside f (sym (after_other l (request_of q) f other) ∙ e));
        }

    -- It changes the state at its fact, where that is tracked, and nothing where it is not.
    pub track-after : (q : List ℕ) → well_formed b.sizes q ≡ true → tracked b (request_of q).fact ≡ true
        → track b (holds (after l (request_of q))) ≡ update (track b (holds l)) (number_of b (request_of q).fact) (adds (request_of q).op)
    track-after q formed t =
        track-put b (holds l) (holds (after l (request_of q))) (request_of q).fact (adds (request_of q).op) t
        (after_same l (request_of q) kept.room (in_sizes-fits b.sizes (request_of q).fact ok.sized (well_formed_fact b.sizes q formed)))
        (λ g other. after_other l (request_of q) g other)

    track-unmoved : (q : List ℕ) → tracked b (request_of q).fact ≡ false → track b (holds (after l (request_of q))) ≡ track b (holds l)
    track-unmoved q t = track_other b (holds l) (holds (after l (request_of q))) (request_of q).fact t (λ g other. after_other l (request_of q) g other)

    -- A request that goes is permitted in the state.
    may-from : (q : List ℕ) → goes b b.query.roles l q ≡ true → tracked b (request_of q).fact ≡ true
        → May b (track b (holds l)) (adds (request_of q).op) (ask_for b q)
    unfolding ask_for
    may-from q g t =
        let parts = goes_parts b b.query.roles l q g in
        let whole = five q (well_formed-length b.sizes q parts.0) in
        record {
          formed = rw whole parts.0;
          role = ap (λ (r : Request). member b.query.roles r.role.0) (sym (request_parts q)) ∙ parts.1.0;
          adding = ap (λ (r : Request). adds r.op) (sym (request_parts q));
          of_fact = rw whole t;
          number = rw whole refl;
          bounded = omega (arith, level_low b (request_of q).fact t, ok.sized.crews_most);
          allows = rw whole (sym (permitted-held (request_of q) t) ∙ sym (allowed-permitted b l (request_of q)) ∙ parts.1.1);
        }

    -- A request that is permitted in the state goes.
    may-goes : (on : Bool) (q : Ask) → May b (track b (holds l)) on q → goes b b.query.roles l (bytes_of q) ≡ true
    may-goes on q m =
        goes_from b b.query.roles l (bytes_of q) m.formed
        (ap (λ (r : Request). member b.query.roles r.role.0) (request_parts (bytes_of q)) ∙ m.role)
        (allowed-permitted b l (asked q) ∙ permitted-held (asked q) m.of_fact ∙ m.allows)

  -- ---------------------------------------------------------------- chains

  pub adding_of : (q : Ask) {on : Bool} → adds q.op ≡ on → adds (asked q).op ≡ on
  adding_of q e = ap (λ (r : Request). adds r.op) (request_parts (bytes_of q)) ∙ e

  -- A chain that leads from a ledger to another runs in the world between their states.
  pub record Ran (l : List ℕ) (chain : List (List ℕ)) (last : List ℕ) : Type 0 where
    pub runs : Runs (depot b).May (track b (holds l)) (tracked_of b chain)
    pub ends_at : end (track b (holds l)) (tracked_of b chain) ≡ track b (holds last)
    pub kept : Kept b last

  pub chain_ran : (chain : List (List ℕ)) (l : List ℕ) (k : ℕ) (last : List ℕ) → Kept b l → run b b.query.roles l k chain ≡ ends last → Ran l chain last
  unfolding tracked_of ask_for
  chain_ran [] l k last kept e =
      let same = one_end l last (sym (run_none b b.query.roles l k) ∙ e) in
      record { runs = tt; ends_at = ap (λ (x : List ℕ). track b (holds x)) same; kept = subst (Kept b) same kept }
  chain_ran (q ∷ qs) l k last kept e =
      let parts = run_parts b b.query.roles l k q qs last e in
      let formed = (goes_parts b b.query.roles l q parts.0).0 in
      by-tracked (tracked b (request_of q).fact) refl parts.0 formed
      (chain_ran qs (after l (request_of q)) (k + 1) last (kept-after l kept q formed) parts.1)
    where
      by-tracked : (t : Bool) → tracked b (request_of q).fact ≡ t → goes b b.query.roles l q ≡ true → well_formed b.sizes q ≡ true
          → Ran (after l (request_of q)) qs last → Ran l (q ∷ qs) last
      by-tracked true t g formed rest =
          let next = track-after l kept q formed t in
          record {
            runs = rw t (may-from l kept q g t, subst (λ (S : State). Runs (depot b).May S (tracked_of b qs)) next rest.runs);
            ends_at = rw t (sym (ap (λ (S : State). end S (tracked_of b qs)) next) ∙ rest.ends_at);
            kept = rest.kept;
          }
      by-tracked false t g formed rest =
          let next = track-unmoved l kept q t in
          record {
            runs = rw t (subst (λ (S : State). Runs (depot b).May S (tracked_of b qs)) next rest.runs);
            ends_at = rw t (sym (ap (λ (S : State). end S (tracked_of b qs)) next) ∙ rest.ends_at);
            kept = rest.kept;
          }

  -- A run of the world from a ledger's state is a chain from that ledger.
  pub record Chained (l : List ℕ) (k : ℕ) (rs : List Req) : Type 0 where
    pub last : List ℕ
    pub led : run b b.query.roles l k (map five_of rs) ≡ ends last
    pub ends_at : track b (holds last) ≡ end (track b (holds l)) rs
    pub kept : Kept b last

  pub run_chained : (rs : List Req) (l : List ℕ) (k : ℕ) → Kept b l → Runs (depot b).May (track b (holds l)) rs → Chained l k rs
  run_chained [] l k kept ok = record { last = l; led = run_none b b.query.roles l k; ends_at = refl; kept = kept }
  run_chained (req on q ∷ rs) l k kept ok =
      let may = ok.0 in
      let next : track b (holds (after l (asked q))) ≡ update (track b (holds l)) q.fact on =
      track-after l kept (bytes_of q) may.formed may.of_fact ∙ rw (may.number, adding_of q may.adding) refl in
      let rest = run_chained rs (after l (asked q)) (k + 1) (kept-after l kept (bytes_of q) may.formed)
      (subst (λ (S : State). Runs (depot b).May S rs) (sym next) ok.1) in
      record {
        last = rest.last;
        led = run-goes b b.query.roles l k (bytes_of q) (map five_of rs) (may-goes l kept on q may) ∙ rest.led;
        ends_at = rest.ends_at ∙ ap (λ (S : State). end S rs) next;
        kept = rest.kept;
      }
