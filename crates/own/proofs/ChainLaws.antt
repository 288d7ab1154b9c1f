-- Chains of the depot as additions of the query's person's facts: a request on the person adds a fact that may be added, and every other
-- request leaves the person's facts as they are. So where no additions end with the wanted facts, no chain meets the query.
use mathlib.Core.Path.{◌≡◌, refl, sym, ap, subst, ◌∙◌}
use mathlib.Core.Logic.{◌≢◌, dite}
use mathlib.Core.Bool.{true}
use mathlib.Core.List.{List, [], ◌∷◌}
use Prim.Native.Nat.{ℕ, ◌/◌, ◌%◌}
use native.Mathlib.Decide.{ℕ_discrete}
use Rattle.facts.specs.Facts.{holds}
use Rattle.frames.specs.Book.{Contents}
use Rattle.replay.specs.Chains.{Leads}
use Rattle.replay.specs.Met.{met}
use Rattle.theory.specs.Inner.Facts.{State, update}
use Rattle.theory.specs.Inner.Plan.{Req, req, end, Runs}
use Rattle.reach.specs.Inner.Tracked.{person_level, track}
use Rattle.reach.specs.Inner.Depot.{depot}
use Rattle.reach.specs.Inner.Growing.{Growing}
use Rattle.reach.proofs.Chained.{Kept, tracked_of}
use Rattle.reach.proofs.ChainLaws.{chain_ran}
use Rattle.growth.specs.Inner.Growth.{Rules, Grows, grown, NoWay}
use Rattle.own.specs.Inner.Own.{own, wanted_by, RulesOf}
use Rattle.own.proofs.OwnLaws.{own_put, own_other}
use Rattle.own.proofs.MetLaws.{met-own}
use Rattle.own.proofs.MayLaws.{may-own}

-- The facts of the person that a run adds, in order.
pub record OwnRun (b : Contents) (R : Rules) (S : State) (rs : List Req) : Type 0 where
  pub facts : List ℕ
  pub grows : Grows R (own b S) facts
  pub ends : grown (own b S) facts ≡ own b (end S rs)

module _ (b : Contents) (ok : Growing b) {R : Rules} (rules : RulesOf b R) where
  pub runs_own : (rs : List Req) (S : State) → Runs (depot b).May S rs → OwnRun b R S rs
  runs_own [] S r = record { facts = []; grows = tt; ends = refl }
  runs_own (req on q ∷ rs) S r =
      let rest = runs_own rs (update S q.fact on) r.1 in
      dite (ℕ_discrete (q.fact / 160) (person_level b))
      (λ (here : q.fact / 160 ≡ person_level b).
      let may = may-own b ok S on q r.0 here rules in
      let next : own b (update S q.fact on) ≡ update (own b S) (q.fact % 160) true =
      own_put b S q.fact on here ∙ ap (update (own b S) (q.fact % 160)) may.0 in
      record {
        facts = q.fact % 160 ∷ rest.facts;
        grows = (may.1, subst (λ (X : State). Grows R X rest.facts) next rest.grows);
        ends = ap (λ (X : State). grown X rest.facts) (sym next) ∙ rest.ends;
      })
      (λ (apart : q.fact / 160 ≢ person_level b).
      let next : own b (update S q.fact on) ≡ own b S = own_other b S q.fact on apart in
      record {
        facts = rest.facts;
        grows = subst (λ (X : State). Grows R X rest.facts) next rest.grows;
        ends = ap (λ (X : State). grown X rest.facts) (sym next) ∙ rest.ends;
      })

  -- Where there is no way to the wanted facts, no chain leads to a ledger that meets the query.
  pub own-none : NoWay R (own b (track b (holds b.facts))) (wanted_by b) → (chain : List (List ℕ)) (l : List ℕ) → Leads b chain l
      → met b (holds l) ≡ true → ⊥
  own-none never chain l leads meets =
      let first : Kept b b.facts = record { room = ok.book.facts_room; inside = ok.book.facts_in } in
      let ran = chain_ran b ok.book chain b.facts 1 l first leads.led in
      let run = runs_own (tracked_of b chain) (track b (holds b.facts)) ran.runs in
      never.none run.facts run.grows
      (λ f w. ap (λ (X : State). X f) (run.ends ∙ ap (own b) ran.ends_at) ∙ met-own b ok (holds l) meets f w)
