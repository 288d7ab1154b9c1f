-- One closure for a person decides each of the person's values: the best plan of a query that asks for nothing ends with all that any chain
-- ends with, and so with each value that the person can come to hold.
use mathlib.Core.Path.{◌≡◌, refl, ap, sym, ◌∙◌}
use mathlib.Core.Logic.{dite}
use mathlib.Core.Bool.{Bool, true, false, ◌&&◌, true≢false}
use mathlib.Core.List.{List, [], ◌∷◌, ◌++◌, map}
use Prim.Native.Nat.{ℕ, ◌+◌, ◌*◌}
use native.Mathlib.Decide.{ℕ_discrete}
use native.Mathlib.Omega.{arith}
use lib.ListN.{get_or, replicate}
use Rattle.quantifiers.specs.Quantifiers.{all, all_below}
use Rattle.quantifiers.proofs.BoolLaws.{and_both}
use Rattle.sets.specs.Sets.{member, put, subset, number_at}
use Rattle.sets.proofs.SetLaws.{member-put_same, member-put_other, member-zero, subset-member, subset_from}
use Rattle.facts.specs.Facts.{holds}
use Rattle.facts.specs.declared.Fact.{Fact}
use Rattle.lines.specs.Digits.{byte_at}
use Rattle.gate.specs.Gate.{pair_at, quad_at}
use Rattle.sizes.specs.Sizes.{is_person, is_value}
use Rattle.sizes.proofs.SizeLaws.{value_bounds}
use Rattle.frames.specs.declared.Query.{Query}
use Rattle.frames.specs.Book.{Contents, with_query, no_want, query_of, wants_of, want_at}
use Rattle.frames.specs.Limits.{all_plain}
use Rattle.frames.specs.Inner.Fits.{in_sizes, Admitted}
use Rattle.frames.proofs.LimitLaws.{plain-within, plain_right}
use Rattle.inherit.specs.Inheritance.{person_holds}
use Rattle.inherit.proofs.InheritanceLaws.{person_holds_mono, person_holds_local}
use Rattle.ledger.specs.Show.{value_set}
use Rattle.ledger.proofs.LedgerLaws.{member-value_set}
use Rattle.replay.specs.Chains.{Leads}
use Rattle.replay.specs.Met.{wants, met_at_least, met}
use Rattle.replay.proofs.LentLaws.{run-standing}
use Rattle.theory.specs.Inner.Facts.{State, ◌⊆◌}
use Rattle.theory.specs.Inner.Plan.{Ask, end, add_then_delete, Best}
use Rattle.reach.specs.Inner.Tracked.{is_number, lift, track, bytes_of}
use Rattle.reach.specs.Inner.Goal.{forbidden, bad}
use Rattle.reach.specs.Inner.Depot.{depot}
use Rattle.reach.specs.Inner.Leveled.{Leveled}
use Rattle.reach.proofs.Chained.{Kept, tracked_of}
use Rattle.reach.proofs.TrackLaws.{lift_mono, person_held}
use Rattle.reach.proofs.ChainLaws.{chain_ran}
use Rattle.search.specs.Inner.Drive.{starts}
use Rattle.search.specs.Inner.Scan.{to_person}
use Rattle.search.proofs.StepLaws.{PersonEnds}
use Rattle.planner.specs.Promise.{NoWay, Works}
use Rattle.planner.proofs.PromiseLaws.{last_ledger, done, best-leads, best-works}
use Rattle.page.specs.Page.{asking, Reachable}
use Rattle.page.specs.Inner.Rows.{roaming, Roams}

-- ---------------------------------------------------------------- a query that asks for nothing

-- Put for another person it is that person's.
pub to_roaming : (b : Contents) (p : ℕ) → Roams b → to_person b p ≡ roaming b p
unfolding to_person roaming with_query
to_roaming b p roams = ap (λ (t : Contents). to_person t p) (sym roams.same)

-- What a value's query asks does not depend on the query that it takes the place of, but for its roles.
pub roams_asking : (b : Contents) (p a v : ℕ) → asking (roaming b 0) p a v ≡ asking b p a v
unfolding asking roaming with_query
roams_asking b p a v = refl

pub roams_itself : (b : Contents) → Roams (roaming b 0)
unfolding roaming with_query
roams_itself b = record { same = refl }

-- A book without "not" terms stays accepted with it, and is planned level by level.
roaming_admitted : (b : Contents) (p : ℕ) → Admitted b → all_plain b.rules ≡ true → is_person b.sizes p ≡ true → Admitted (roaming b p)
unfolding roaming with_query all_below
roaming_admitted b p ok no-not is =
    record {
      sized = ok.sized;
      edges = ok.edges;
      edge_room = ok.edge_room;
      facts_in = ok.facts_in;
      facts_room = ok.facts_room;
      facts_bytes = ok.facts_bytes;
      rules_in = ok.rules_in;
      rules_short = ok.rules_short;
      rules_counted = ok.rules_counted;
      rules_few = ok.rules_few;
      query_in = record { mode = refl; person = is; few = omega arith; room = refl; wants = refl; crews = refl };
      within_not = plain-within b.rules no-not;
      right_mode = plain_right b.rules no-not 1 refl;
    }

pub roaming_leveled : (b : Contents) (p : ℕ) → Admitted b → all_plain b.rules ≡ true → is_person b.sizes p ≡ true → Leveled (roaming b p)
unfolding roaming with_query
roaming_leveled b p ok no-not is = record { book = roaming_admitted b p ok no-not is; plain = no-not; mode = refl }

-- Mode 01 forbids nothing.
pub roaming_free : (b : Contents) (p g : ℕ) → bad (roaming b p) g ≡ false
unfolding bad forbidden roaming with_query
roaming_free b p g = none (is_number (roaming b p) g)
  where
    none : (x : Bool) → (x && false) ≡ false
    none true = refl
    none false = refl

module _ (b : Contents) (p : ℕ) where
  -- A chain leads alike whatever the query asks, as long as its roles are the same.
  leads_alike : (a v : ℕ) (chain : List (List ℕ)) (l : List ℕ) → Leads (roaming b p) chain l → Leads (asking b p a v) chain l
  unfolding roaming asking with_query
  leads_alike a v chain l leads =
      record {
        led = run-standing (asking b p a v) b.query.roles b.facts 1 chain
            ∙ sym (run-standing (roaming b p) b.query.roles b.facts 1 chain) ∙ leads.led;
      }

  leads_back : (a v : ℕ) (chain : List (List ℕ)) (l : List ℕ) → Leads (asking b p a v) chain l → Leads (roaming b p) chain l
  unfolding roaming asking with_query
  leads_back a v chain l leads =
      record {
        led = run-standing (roaming b p) b.query.roles b.facts 1 chain
            ∙ sym (run-standing (asking b p a v) b.query.roles b.facts 1 chain) ∙ leads.led;
      }

  -- Nothing is asked, so every ledger meets it.
  roaming-met : (F : Fact → Bool) → met (roaming b p) F ≡ true
  unfolding roaming with_query met met_at_least wants all
  roaming-met F = refl

  -- ---------------------------------------------------------------- one value asked

  module _ (a v : ℕ) (value : is_value b.sizes a v ≡ true) where
    -- The one value is met exactly where the person effectively holds it.
    asking-met : (F : Fact → Bool) → person_holds b.juniors F (record { 0 = p }) (record { 0 = a }) v ≡ true → met (asking b p a v) F ≡ true
    unfolding asking with_query met met_at_least wants all
    asking-met F e =
        let values = value_set b.sizes b.juniors F (record { 0 = p }) a in
        let held : member values v ≡ true = member-value_set b.sizes b.juniors (record { 0 = p }) a F v ∙ rw (value, e) refl in
        let sub : subset (put 0 v true) values ≡ true =
        subset_from (put 0 v true) values
        (λ u m. dite (ℕ_discrete u v) (λ (i : u ≡ v). rw i held)
        (λ (n : u ≡ v → ⊥). absurd (true≢false (sym m ∙ member-put_other 0 v u true n ∙ member-zero u)))) in
        rw sub refl

    met-asking : (F : Fact → Bool) → met (asking b p a v) F ≡ true → person_holds b.juniors F (record { 0 = p }) (record { 0 = a }) v ≡ true
    unfolding asking with_query met met_at_least wants all
    met-asking F e =
        let values = value_set b.sizes b.juniors F (record { 0 = p }) a in
        let sub = (and_both (subset (put 0 v true) values) true e).0 in
        let held = subset-member (put 0 v true) values v sub (member-put_same 0 v true) in
        (and_both (is_value b.sizes a v) (person_holds b.juniors F (record { 0 = p }) (record { 0 = a }) v)
        (sym (member-value_set b.sizes b.juniors (record { 0 = p }) a F v) ∙ held)).1

  -- ---------------------------------------------------------------- the best plan of nothing asked

  module _ (ok : Admitted (roaming b p)) {us ds : List Ask} (best : Best (depot (roaming b p)) (bad (roaming b p)) (starts (roaming b p)) us ds) where
    abbrev last : List ℕ
    last = last_ledger (roaming b p) ok best

    -- What the person effectively holds in a ledger, by its tracked facts.
    by_state : (l : List ℕ) → ((f : Fact) → holds l f ≡ true → in_sizes b.sizes f ≡ true) → (a v : ℕ)
        → person_holds b.juniors (holds l) (record { 0 = p }) (record { 0 = a }) v
        ≡ person_holds b.juniors (lift (roaming b p) (track (roaming b p) (holds l))) (record { 0 = p }) (record { 0 = a }) v
    unfolding roaming with_query
    by_state l inside a v =
        let same = person_held (roaming b p) ok (holds l) inside (record { 0 = p }) refl in
        person_holds_local b.juniors (holds l) (lift (roaming b p) (track (roaming b p) (holds l))) (record { 0 = p }) (record { 0 = a }) v
        (same.value (record { 0 = a }) v) (λ d m. same.crew_of (record { 0 = d })) (λ x m. same.crews x (record { 0 = a }) v)

    -- In the last ledger it is what it is at the plan's end.
    at_end : (a v : ℕ) → person_holds b.juniors (holds last) (record { 0 = p }) (record { 0 = a }) v
        ≡ person_holds b.juniors (lift (roaming b p) (end (starts (roaming b p)) (add_then_delete us ds))) (record { 0 = p }) (record { 0 = a }) v
    unfolding roaming with_query
    at_end a v =
        by_state last (done (roaming b p) ok best).kept.inside a v
        ∙ ap (λ (S : State). person_holds b.juniors (lift (roaming b p) S) (record { 0 = p }) (record { 0 = a }) v) (done (roaming b p) ok best).ends_at

    module _ (a v : ℕ) (value : is_value b.sizes a v ≡ true) where
      -- Where the best plan ends with the value, the query for it gets a plan.
      page-works : person_holds b.juniors (holds last) (record { 0 = p }) (record { 0 = a }) v ≡ true
          → Works (asking b p a v) (map bytes_of us ++ map bytes_of ds)
      unfolding roaming asking with_query
      page-works e =
          let w = best-works (roaming b p) ok best (roaming-met (holds last)) in
          record {
            last = last;
            led = leads_alike a v (map bytes_of us ++ map bytes_of ds) last (best-leads (roaming b p) ok best);
            meets = asking-met a v value (holds last) e;
            changes = w.changes;
            added_once = w.added_once;
            deleted_once = w.deleted_once;
          }

      -- Where it ends without it, there is no way.
      page-no-way : person_holds b.juniors (holds last) (record { 0 = p }) (record { 0 = a }) v ≡ false → NoWay (asking b p a v)
      unfolding roaming with_query
      page-no-way e =
          record {
            none = λ chain l leads m.
                let first : Kept (roaming b p) b.facts = record { room = ok.facts_room; inside = ok.facts_in } in
                let ran = chain_ran (roaming b p) ok chain b.facts 1 l first (leads_back a v chain l leads).led in
                let within = best.best (tracked_of (roaming b p) chain) ran.runs (λ g held. roaming_free b p g) in
                let more : track (roaming b p) (holds l) ⊆ track (roaming b p) (holds last) =
                λ g i. ap (λ (S : State). S g) (done (roaming b p) ok best).ends_at ∙ within g (ap (λ (S : State). S g) ran.ends_at ∙ i) in
                let here = sym (by_state l ran.kept.inside a v) ∙ met-asking a v value (holds l) m in
                let there = person_holds_mono b.juniors (lift_mono (roaming b p) more) (record { 0 = p }) (record { 0 = a }) v here in
                true≢false (sym (by_state last (done (roaming b p) ok best).kept.inside a v ∙ there) ∙ e);
          }

-- ---------------------------------------------------------------- the flags decide

module _ (b : Contents) (p : ℕ) (ok : Admitted (roaming b p)) {x : List Bool} (ended : PersonEnds (roaming b p) x) (a v : ℕ)
    (value : is_value b.sizes a v ≡ true) where
  -- The flag of a value is what the person effectively holds in the last ledger.
  flag_held : get_or x (160 + (16 * a + v)) false
      ≡ person_holds b.juniors (holds (last_ledger (roaming b p) ok ended.best)) (record { 0 = p }) (record { 0 = a }) v
  unfolding roaming with_query
  flag_held = let low = value_bounds b.sizes a v ok.sized value in ended.shows a v low.0 low.1 ∙ sym (at_end b p ok ended.best a v)

  pub flag-set : get_or x (160 + (16 * a + v)) false ≡ true → Reachable (asking b p a v)
  flag-set e = record { chain = _; works = page-works b p ok ended.best a v value (sym flag_held ∙ e) }

  pub flag_clear : get_or x (160 + (16 * a + v)) false ≡ false → NoWay (asking b p a v)
  flag_clear e = page-no-way b p ok ended.best a v value (sym flag_held ∙ e)

-- ---------------------------------------------------------------- the query of a bit, as a line of the book writes it

-- A query of mode 01 that names one set.
abbrev named : ℕ → ℕ → ℕ → ℕ → Query
named p a roles set =
    record {
      mode = 1;
      person = record { 0 = p };
      roles = roles;
      q = 1;
      wants = record { attr = record { 0 = a }; set = set } ∷ replicate 7 no_want;
      crews = 0;
    }

-- "05 mode person roles(2) q, then q of attribute set(2)": mode 01, the person, the roles, one set of one value.
pub asking_frame : (b : Contents) (p a v r₁ r₀ s₁ s₀ : ℕ) → r₁ * 256 + r₀ ≡ b.query.roles → s₁ * 256 + s₀ ≡ put 0 v true
    → with_query b (query_of (5 ∷ 1 ∷ p ∷ r₁ ∷ r₀ ∷ 1 ∷ a ∷ s₁ ∷ s₀ ∷ [])) ≡ asking b p a v
unfolding asking query_of wants_of want_at pair_at quad_at byte_at number_at
asking_frame b p a v r₁ r₀ s₁ s₀ roles set =
    let is-roles : (0 + r₁) * 256 + r₀ ≡ b.query.roles = omega (arith, roles) in
    let is_set : (0 + s₁) * 256 + s₀ ≡ put 0 v true = omega (arith, set) in
    ap (λ (r : ℕ). with_query b (named p a r ((0 + s₁) * 256 + s₀))) is-roles ∙ ap (λ (s : ℕ). with_query b (named p a b.query.roles s)) is_set
