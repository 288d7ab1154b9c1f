-- A way to the wanted facts, written as requests: each is permitted when its turn comes and is a change, all are on the query's person, no
-- fact is added twice, and a ledger with the facts at the end meets the query.
use mathlib.Core.Path.{◌≡◌, refl, sym, ap, subst, ◌∙◌}
use mathlib.Core.Bool.{true, false}
use mathlib.Core.List.{List, [], ◌∷◌, map}
use Prim.Native.Nat.{ℕ, ◌+◌, ◌*◌, ◌/◌}
use native.Mathlib.Omega.{arith}
use Rattle.quantifiers.specs.Inner.Lists.{Each}
use Rattle.facts.specs.Facts.{holds}
use Rattle.frames.specs.Book.{Contents}
use Rattle.replay.specs.Met.{met}
use Rattle.theory.specs.Inner.Facts.{State, update}
use Rattle.theory.specs.Inner.Plan.{Ask, req, end, Runs, Step, Distinct}
use Rattle.theory.proofs.PlanLaws.{distinct}
use Rattle.reach.specs.Inner.Tracked.{person_level, track, bytes_of}
use Rattle.reach.specs.Inner.Depot.{depot}
use Rattle.reach.specs.Inner.Growing.{Growing}
use Rattle.growth.specs.Inner.Growth.{Rules, Gains, grown, Way}
use Rattle.own.specs.Inner.Own.{own, wanted_by, RulesOf}
use Rattle.own.proofs.OwnLaws.{own_at, own_put}
use Rattle.own.proofs.MetLaws.{own-met}
use Rattle.own.proofs.MayLaws.{rule_ask, own-may, ask-fact}

-- The requests that add the facts fs of the person in the tracked state S, each of the bytes that `bytesFor` gives.
pub record AsksFor (b : Contents) (bytes_for : ℕ → List ℕ) (S : State) (fs : List ℕ) : Type 0 where
  pub us : List Ask
  pub runs : Runs (Step (depot b)) S (map (req true) us)
  pub on_level : Each (λ u. u.fact / 160 ≡ person_level b) us
  pub ends : own b (end S (map (req true) us)) ≡ grown (own b S) fs
  pub bytes : map bytes_of us ≡ map bytes_for fs

-- The requests of a way from the starting facts.
pub record OwnWay (b : Contents) (bytes_for : ℕ → List ℕ) (fs : List ℕ) : Type 0 where
  pub asks : AsksFor b bytes_for (track b (holds b.facts)) fs
  pub once : Distinct asks.us
  pub meets : (l : List ℕ) → track b (holds l) ≡ end (track b (holds b.facts)) (map (req true) asks.us) → met b (holds l) ≡ true

module _ (b : Contents) (ok : Growing b) {R : Rules} (rules : RulesOf b R) (bytes_for : ℕ → List ℕ)
    (same_bytes_lem : (f : ℕ) (u : R.usable f) → bytes_of (rule_ask b ok rules f u) ≡ bytes_for f) where
  pub gains_asked : (fs : List ℕ) (S : State) → Gains R (own b S) fs → AsksFor b bytes_for S fs
  unfolding Each
  gains_asked [] S gains = record { us = []; runs = tt; on_level = tt; ends = refl; bytes = refl }
  gains_asked (f ∷ fs) S gains =
      let may = gains.0.0 in
      let u = rule_ask b ok rules f may.rule in
      let place = ask-fact b ok rules f may.rule in
      let next : own b (update S u.fact true) ≡ update (own b S) f true =
      own_put b S u.fact true place.0 ∙ ap (λ (g : ℕ). update (own b S) g true) place.1 in
      let whole : u.fact ≡ 160 * person_level b + f = omega (arith, place.0, place.1) in
      let new : S u.fact ≡ false = ap S whole ∙ sym (own_at b S f (omega (arith, place.1))) ∙ gains.0.1 in
      let rest = gains_asked fs (update S u.fact true) (subst (λ (X : State). Gains R X fs) (sym next) gains.1) in
      record {
        us = u ∷ rest.us;
        runs = (record { may = own-may b ok rules S f may; new = new }, rest.runs);
        on_level = (place.0, rest.on_level);
        ends = rest.ends ∙ ap (λ (X : State). grown X fs) next;
        bytes = ap (λ (x : List (List ℕ)). bytes_of u ∷ x) rest.bytes ∙ ap (λ (x : List ℕ). x ∷ map bytes_for fs) (same_bytes_lem f may.rule);
      }

  pub own_way : (fs : List ℕ) → Way R (own b (track b (holds b.facts))) (wanted_by b) fs → OwnWay b bytes_for fs
  own_way fs way =
      let asked = gains_asked fs (track b (holds b.facts)) way.gains in
      record {
        asks = asked;
        once = distinct (depot b) true (track b (holds b.facts)) asked.us asked.runs;
        meets = λ l e. own-met b ok (holds l) (λ f w. ap (λ (X : State). X f) (ap (own b) e ∙ asked.ends) ∙ way.meets f w);
      }
