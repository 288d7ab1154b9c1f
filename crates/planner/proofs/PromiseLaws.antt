-- Additions and deletions that run, and end with a ledger that meets the query, are a plan that works. The best plan's last ledger
-- decides: where it does not meet the query, no chain does.
use mathlib.Core.Path.{◌≡◌, refl, ap, sym, subst, ◌∙◌}
use mathlib.Core.Bool.{Bool, true, false, not, true≢false}
use mathlib.Core.List.{List, [], ◌∷◌, ◌++◌, map}
use Prim.Native.Nat.{ℕ}
use Rattle.facts.specs.Facts.{holds}
use Rattle.facts.specs.declared.Fact.{Fact}
use Rattle.frames.specs.Book.{Contents}
use Rattle.frames.specs.Inner.Fits.{Admitted}
use Rattle.requests.specs.Requests.{adds, request_of}
use Rattle.requests.proofs.RequestLaws.{in_sizes-fits, well_formed_fact}
use Rattle.ledger.specs.Ledger.{after}
use Rattle.ledger.proofs.LedgerLaws.{after_same}
use Rattle.replay.specs.Chains.{run, Leads}
use Rattle.replay.specs.Met.{met}
use Rattle.theory.specs.Inner.Facts.{State, ◌⊆◌, update, Clear}
use Rattle.theory.specs.Inner.Plan.{Ask, Req, req, end, Runs, add_then_delete, Absent, Distinct, Step, Best}
use Rattle.theory.proofs.PlanLaws.{runs_map, not_self}
use Rattle.reach.specs.Inner.Tracked.{number_of, lift, track, bytes_of, asked}
use Rattle.reach.proofs.Chained.{Kept, tracked_of, five_of}
use Rattle.reach.specs.Inner.Goal.{goal, bad}
use Rattle.reach.proofs.TrackLaws.{lift_mono, track_at}
use Rattle.reach.specs.Inner.Depot.{depot}
use Rattle.reach.specs.Inner.Leveled.{Leveled}
use Rattle.reach.proofs.ChainLaws.{kept-after, track-after, adding_of, Ran, Chained, chain_ran, run_chained}
use Rattle.reach.proofs.GoalLaws.{goal_mono, met-goal, met-clear, goal-met, goal_local, clear_of, clear_from}
use Rattle.search.specs.Inner.Drive.{starts}
use Rattle.search.specs.Inner.Scan.{NoRun}
use Rattle.planner.proofs.CountLaws.{runs_first, runs_last}
use Rattle.planner.specs.Promise.{NoWay, Changing, Never, Once, Works}

-- The requests of a plan, as bytes.
fives-plan : (us ds : List Ask) → map five_of (add_then_delete us ds) ≡ map bytes_of us ++ map bytes_of ds
fives-plan [] [] = refl
fives-plan [] (d ∷ ds) = ap (λ (x : List (List ℕ)). bytes_of d ∷ x) (fives-plan [] ds)
fives-plan (u ∷ us) ds = ap (λ (x : List (List ℕ)). bytes_of u ∷ x) (fives-plan us ds)

-- ---------------------------------------------------------------- no fact twice

module _ (b : Contents) where
  -- Requests on tracked facts by their numbers, all additions or all deletions.
  abbrev Named : Bool → List Ask → Type 0
  Named on [] = Unit {0}
  Named on (q ∷ qs) = ((number_of b (asked q).fact ≡ q.fact) × (adds (asked q).op ≡ on)) × Named on qs

  named_all : (ok : Admitted b) (on : Bool) (S : State) (qs : List Ask) → Runs (Step (depot b)) S (map (req on) qs) → Named on qs
  named_all ok on S [] r = tt
  named_all ok on S (q ∷ qs) r = ((r.0.may.number, adding_of b ok q r.0.may.adding), named_all ok on (update S q.fact on) qs r.1)

  never_absent : (on : Bool) (f : Fact) (n : ℕ) → number_of b f ≡ n → (qs : List Ask) → Absent n qs → Named on qs → Never on f (map bytes_of qs)
  unfolding Never
  never_absent on f n e [] a named = tt
  never_absent on f n e (q ∷ qs) a named = (λ i same. a.0 (sym e ∙ ap (number_of b) (sym same) ∙ named.0.0), never_absent on f n e qs a.1 named.1)

  never_other : (on : Bool) (f : Fact) (qs : List Ask) → Named (not on) qs → Never on f (map bytes_of qs)
  unfolding Never
  never_other on f [] named = tt
  never_other on f (q ∷ qs) named = (λ i same. not_self on (sym i ∙ named.0.1), never_other on f qs named.1)

  never_append : (on : Bool) (f : Fact) (ps qs : List (List ℕ)) → Never on f ps → Never on f qs → Never on f (ps ++ qs)
  unfolding Never
  never_append on f [] qs a c = c
  never_append on f (p ∷ ps) qs a c = (a.0, never_append on f ps qs a.1 c)

  once_own : (on : Bool) (qs : List Ask) → Distinct qs → Named on qs → Once on (map bytes_of qs)
  unfolding Once
  once_own on [] d named = tt
  once_own on (q ∷ qs) d named = (λ i. never_absent on (asked q).fact q.fact named.0.0 qs d.0 named.1, once_own on qs d.1 named.1)

  once_other : (on : Bool) (qs : List Ask) → Named (not on) qs → Once on (map bytes_of qs)
  unfolding Once
  once_other on [] named = tt
  once_other on (q ∷ qs) named = (λ i. absurd (not_self on (sym i ∙ named.0.1)), once_other on qs named.1)

  once_before : (on : Bool) (ps qs : List (List ℕ)) → Once on ps → ((f : Fact) → Never on f qs) → Once on qs → Once on (ps ++ qs)
  unfolding Once
  once_before on [] qs a none c = c
  once_before on (p ∷ ps) qs a none c = (λ i. never_append on (request_of p).fact ps qs (a.0 i) (none (request_of p).fact), once_before on ps qs a.1 none c)

  once_behind : (on : Bool) (us : List Ask) (qs : List (List ℕ)) → Named (not on) us → Once on qs → Once on (map bytes_of us ++ qs)
  unfolding Once
  once_behind on [] qs named c = c
  once_behind on (u ∷ us) qs named c = (λ i. absurd (not_self on (sym i ∙ named.0.1)), once_behind on us qs named.1 c)

-- ---------------------------------------------------------------- each request a change

module _ (b : Contents) (ok : Admitted b) where
  kept_first : Kept b b.facts
  kept_first = record { room = ok.facts_room; inside = ok.facts_in }

  changing : (rs : List Req) (l : List ℕ) → Kept b l → Runs (Step (depot b)) (track b (holds l)) rs → Changing l (map five_of rs)
  unfolding Changing
  changing [] l kept r = tt
  changing (req on q ∷ rs) l kept r =
      let may = r.0.may in
      let op : adds (asked q).op ≡ on = adding_of b ok q may.adding in
      let next : track b (holds (after l (asked q))) ≡ update (track b (holds l)) q.fact on =
      track-after b ok l kept (bytes_of q) may.formed may.of_fact ∙ rw (may.number, op) refl in
      let before : holds l (asked q).fact ≡ not on =
      sym (track_at b (holds l) (asked q).fact may.of_fact) ∙ ap (track b (holds l)) may.number ∙ r.0.new in
      let fits = in_sizes-fits b.sizes (asked q).fact ok.sized (well_formed_fact b.sizes (bytes_of q) may.formed) in
      let behind : holds (after l (asked q)) (asked q).fact ≡ on = after_same l (asked q) kept.room fits ∙ op in (
        λ same. not_self on (sym behind ∙ ap (λ (x : List ℕ). holds x (asked q).fact) same ∙ before),
        changing rs (after l (asked q)) (kept-after b ok l kept (bytes_of q) may.formed)
            (subst (λ (S : State). Runs (Step (depot b)) S rs) (sym next) r.1),
      )

  -- ---------------------------------------------------------------- additions, then deletions

  module _ (us ds : List Ask) (runs : Runs (Step (depot b)) (starts b) (add_then_delete us ds)) where
    may-run : Runs (depot b).May (starts b) (add_then_delete us ds)
    may-run = runs_map (Step (depot b)) (depot b).May (λ S r m. m.may) (starts b) (add_then_delete us ds) runs

    -- Carried out from the starting facts.
    pub run-done : Chained b ok b.facts 1 (add_then_delete us ds)
    run-done = run_chained b ok (add_then_delete us ds) b.facts 1 kept_first may-run

    up_named : Named b true us
    up_named = named_all b ok true (starts b) us (runs_first (Step (depot b)) (starts b) (map (req true) us) (map (req false) ds) runs)

    down-named : Named b false ds
    down-named =
        named_all b ok false (end (starts b) (map (req true) us)) ds
        (runs_last (Step (depot b)) (starts b) (map (req true) us) (map (req false) ds) runs)

    -- They lead to their last ledger.
    pub run-leads : Leads b (map bytes_of us ++ map bytes_of ds) run-done.last
    run-leads = record { led = ap (run b b.query.roles b.facts 1) (sym (fives-plan us ds)) ∙ run-done.led }

    -- Where that meets the query, and no fact is added twice nor deleted twice, the plan works.
    pub run-works : Distinct us → Distinct ds → met b (holds run-done.last) ≡ true → Works b (map bytes_of us ++ map bytes_of ds)
    run-works once-up once-down meets =
        record {
          last = run-done.last;
          led = run-leads;
          meets = meets;
          changes = subst (Changing b.facts) (fives-plan us ds) (changing (add_then_delete us ds) b.facts kept_first runs);
          added_once = once_before b true (map bytes_of us) (map bytes_of ds) (once_own b true us once-up up_named)
              (λ f. never_other b true f ds down-named) (once_other b true ds down-named);
          deleted_once = once_behind b false us (map bytes_of ds) up_named (once_own b false ds once-down down-named);
        }

  -- The best plan, carried out from the starting facts, leads to its last ledger, and works where that meets the query.
  module _ {us ds : List Ask} (best : Best (depot b) (bad b) (starts b) us ds) where
    abbrev pub done : Chained b ok b.facts 1 (add_then_delete us ds)
    done = run-done us ds best.way.runs

    abbrev pub last_ledger : List ℕ
    last_ledger = done.last

    pub best-leads : Leads b (map bytes_of us ++ map bytes_of ds) last_ledger
    best-leads = run-leads us ds best.way.runs

    pub best-works : met b (holds last_ledger) ≡ true → Works b (map bytes_of us ++ map bytes_of ds)
    best-works meets = run-works us ds best.way.runs best.way.once-up best.way.once-down meets

-- ---------------------------------------------------------------- no way

module _ (b : Contents) (leveled : Leveled b) where
  abbrev ok : Admitted b
  ok = leveled.book

  -- A chain to a ledger that meets the query ends clear of the forbidden facts.
  clear_ran : {chain : List (List ℕ)} {l : List ℕ} → Ran b ok b.facts chain l → met b (holds l) ≡ true
      → Clear (bad b) (end (starts b) (tracked_of b chain))
  clear_ran {chain} {l} ran m =
      subst (Clear (bad b)) (sym ran.ends_at) (clear_of b (holds l) (met-clear b ok (holds l) ran.kept.inside leveled.mode m))

  -- Where no run ends clear, no chain leads to a ledger that meets the query.
  pub no_run-no_way : NoRun b → NoWay b
  no_run-no_way never =
      record {
        none = λ chain l leads m.
            let ran = chain_ran b ok chain b.facts 1 l (kept_first b ok) leads.led in
            never.never (tracked_of b chain) ran.runs (clear_ran ran m);
      }

  module _ {us ds : List Ask} (best : Best (depot b) (bad b) (starts b) us ds) where
    abbrev last : List ℕ
    last = last_ledger b ok best

    clear-last : Clear (bad b) (track b (holds last))
    clear-last = subst (Clear (bad b)) (sym (done b ok best).ends_at) best.way.clear

    -- Where the best plan's last ledger does not meet the query, no chain leads to one that does.
    pub best-no-way : met b (holds last) ≡ false → NoWay b
    best-no-way short =
        record {
          none = λ chain l leads m.
              let ran = chain_ran b ok chain b.facts 1 l (kept_first b ok) leads.led in
              let inside = (done b ok best).kept.inside in
              let within = best.best (tracked_of b chain) ran.runs (clear_ran ran m) in
              let more : track b (holds l) ⊆ track b (holds last) =
              λ g e. ap (λ (S : State). S g) (done b ok best).ends_at ∙ within g (ap (λ (S : State). S g) ran.ends_at ∙ e) in
              let here : goal b (lift b (track b (holds l))) ≡ true =
              sym (goal_local b ok (holds l) ran.kept.inside) ∙ met-goal b leveled.mode (holds l) m in
              let there : goal b (holds last) ≡ true = goal_local b ok (holds last) inside ∙ goal_mono b (lift_mono b more) here in
              true≢false (sym (goal-met b ok (holds last) inside leveled.mode (clear_from b (holds last) clear-last) there) ∙ short);
        }

-- "Exactly": where there is a plan that works, no way is not given.
pub never_both : {b : Contents} {chain : List (List ℕ)} → NoWay b → Works b chain → ⊥
never_both {b} {chain} none works = none.none chain works.last works.led works.meets
