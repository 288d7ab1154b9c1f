-- In modes 01 and 02 the query is met where nothing forbidden holds and the goal is reached.
use mathlib.Core.Path.{◌≡◌, refl, ap, sym, ◌∙◌}
use mathlib.Core.Logic.{⊎_elim}
use mathlib.Core.Bool.{Bool, true, false, not, cond, ◌&&◌, true≢false}
use mathlib.Core.List.{List}
use Prim.Native.Nat.{ℕ, zero, suc, ◌+◌, ◌*◌, ◌/◌, ◌%◌, ◌^◌, ◌≤◌, ◌<◌}
use native.Mathlib.Nat.{mod-lt}
use native.Mathlib.Omega.{arith}
use lib.Dec.{eqb}
use lib.Pow.{pow_pos, pow_mono, split}
use borrow.Author.Tests.{eqb-true, eqb-false, eq-eqb, ltb-true, not-true, not-false}
use Rattle.sets.specs.Sets.{member, within, subset}
use Rattle.sets.proofs.SetLaws.{same_members, subset-member, subset_from}
use Rattle.facts.specs.declared.Attr.{Attr}
use Rattle.facts.specs.declared.Crew.{Crew}
use Rattle.facts.specs.declared.Person.{Person}
use Rattle.facts.specs.declared.Fact.{Fact}
use Rattle.facts.specs.declared.Fact.TheVariants.{Holds, CrewHolds, Member}
use Rattle.sizes.specs.Sizes.{between, is_person, is_crew, is_attr, is_value, values_of}
use Rattle.sizes.proofs.SizeLaws.{between-true}
use Rattle.inherit.specs.Inheritance.{is_junior, Falling, Below, here, down, downward, crew_holds, person_holds, Subset}
use Rattle.inherit.proofs.InheritanceLaws.{junior_member, reached, reaches, crew_holds-direct, crew_holds_junior, crew_holds_cases, person_holds_cases}
use Rattle.inherit.proofs.InheritanceLaws.{person_holds-direct, person_holds_from}
use Rattle.quantifiers.proofs.BelowLaws.{any_from_lem, any_cases, all_at}
use Rattle.quantifiers.proofs.BoolLaws.{and_both, not_on, and_from}
use Rattle.frames.specs.declared.Want.{Want}
use Rattle.frames.specs.Book.{Contents, no_want}
use Rattle.frames.specs.Inner.Fits.{in_sizes, want_of, want_fits, Admitted}
use Rattle.quantifiers.specs.Quantifiers.{all, any}
use Rattle.quantifiers.proofs.ListLaws.{all_in, all_any, all_mono, all-front}
use Rattle.ledger.specs.Show.{set_below}
use Rattle.ledger.proofs.OperationLaws.{set_below_from, set_below_parts, set_below_lt}
use Rattle.ledger.proofs.LedgerLaws.{SameOf, value_set_below, member-value_set}
use Rattle.replay.specs.Met.{wants, effective_set, direct_crews, met_at_least, met_exactly, met}
use Rattle.replay.proofs.MetLaws.{wants-front, direct_crews_below, at_least_each, exactly_parts, exactly_from, met_at_least_lem, met_exactly_lem, at_least_mono}
use Rattle.replay.proofs.MetLaws.{direct_crews_mono, at_least_local, direct_crews_local}
use Rattle.theory.specs.Inner.Facts.{Clear}
use Rattle.reach.specs.Inner.Tracked.{tracked, number_of, lift, fact_at, is_number, track}
use Rattle.reach.specs.Inner.Goal.{banned, below_listed, forbids, forbidden, goal, bad}
use Rattle.reach.proofs.TrackLaws.{tracked_value, tracked-member, number_is, number_fact, fact_tracked, track_at, crew_in, value_in, member_in}
use Rattle.reach.proofs.TrackLaws.{person_held}

-- ---------------------------------------------------------------- tests

-- A flag that is not false is true.
not_off : (a : Bool) → (a ≡ false → ⊥) → a ≡ true
not_off true h = refl
not_off false h = absurd (h refl)

same_flag : (a b : Bool) → (a ≡ true → b ≡ true) → (b ≡ true → a ≡ true) → a ≡ b
same_flag true b h k = sym (h refl)
same_flag false true h k = k refl
same_flag false false h k = refl

-- By the mode.
by_mode : (m x y : Bool) {R : Type 0} → cond m x y ≡ true → (m ≡ true → x ≡ true → R) → (m ≡ false → y ≡ true → R) → R
by_mode true x y e f g = f refl e
by_mode false x y e f g = g refl e

-- ---------------------------------------------------------------- sets

-- A set within n is of each width from n on.
within_lt : (x n w : ℕ) → within x n ≡ true → n ≤ w → x < 2 ^ w
unfolding within
within_lt x n w e h =
    let whole : 0 * 2 ^ n + x % 2 ^ n ≡ x = rw (eqb-true (x / 2 ^ n) 0 e) at (split x n) in
    omega (arith, mod-lt x (pow_pos n), pow_mono h)

-- A set within n ≤ 32 is the set of the numbers below n that pass a test, where it has all of them and no other.
same_set : (p : ℕ → Bool) (n y : ℕ) → n ≤ 32 → within y n ≡ true
    → ((v : ℕ) → v < n → p v ≡ true → member y v ≡ true) → subset y (set_below p n) ≡ true → set_below p n ≡ y
same_set p n y small wide h sub =
    same_members 32 (set_below p n) y (set_below_lt p n 32 small) (within_lt y n 32 wide small)
    (λ v l. same_flag (member (set_below p n) v) (member y v)
    (λ m. let both = set_below_parts p n v m in h v both.0 both.1)
    (λ m. subset-member y (set_below p n) v sub m))

subset_refl : (x : ℕ) → subset x x ≡ true
subset_refl x = subset_from x x (λ v m. m)

-- ---------------------------------------------------------------- the parts of the query

-- Of modes 01 and 02 the one that is not 01 is 02.
second : (m : ℕ) → between 1 2 m ≡ true → eqb m 1 ≡ false → m ≡ 2
second m range e = let other : m ≡ 1 → ⊥ = eqb-false m 1 e in omega (arith, between-true 1 2 m range, other)

-- A met query, by its mode.
met_by_mode : (b : Contents) → between 1 2 b.query.mode ≡ true → (F : Fact → Bool) {R : Type 0} → met b F ≡ true
    → (eqb b.query.mode 1 ≡ true → met_at_least b F ≡ true → R) → (eqb b.query.mode 1 ≡ false → met_exactly b F ≡ true → R) → R
met_by_mode b range F {R} e least exactly = by_flag (eqb b.query.mode 1) refl
  where
    by_flag : (m : Bool) → eqb b.query.mode 1 ≡ m → R
    by_flag true m = least m (sym (met_at_least_lem b F m) ∙ e)
    by_flag false m = exactly m (sym (met_exactly_lem b F (second b.query.mode range m)) ∙ e)

module _ (b : Contents) {F H : Fact → Bool} (sub : Subset F H) where
  -- With more facts the goal stays reached.
  pub goal_mono : goal b F ≡ true → goal b H ≡ true
  unfolding goal
  goal_mono e =
      by_mode (eqb b.query.mode 1) (met_at_least b F) (subset b.query.crews (direct_crews b F) && met_at_least b F) e
      (λ m f. rw m (at_least_mono b sub f))
      (λ m f.
      let both = and_both (subset b.query.crews (direct_crews b F)) (met_at_least b F) f in
      rw m (and_from (subset b.query.crews (direct_crews b H)) (met_at_least b H) (direct_crews_mono b sub b.query.crews both.0)
      (at_least_mono b sub both.1)))

-- Where the query is met, its goal is reached.
pub met-goal : (b : Contents) → between 1 2 b.query.mode ≡ true → (F : Fact → Bool) → met b F ≡ true → goal b F ≡ true
unfolding goal
met-goal b range F e =
    met_by_mode b range F e
    (λ m f. rw m f)
    (λ m f.
    let parts = exactly_parts b F f in
    rw m
    (and_from (subset b.query.crews (direct_crews b F)) (met_at_least b F)
    (rw parts.0 (subset_refl b.query.crews))
    (at_least_each b F
    ∙ all_mono (λ w. eqb (effective_set b F w.attr.0) w.set) (λ w. subset w.set (effective_set b F w.attr.0)) (wants b)
    (λ w i. rw (eqb-true (effective_set b F w.attr.0) w.set i) (subset_refl w.set)) parts.1)))

-- ---------------------------------------------------------------- down the hierarchy

module _ (js : List ℕ) (F : Fact → Bool) (a : Attr) (v : ℕ) (falls : Falling js) where
  -- A value that a crew holds reaches each crew above it.
  holds_above : {d c : ℕ} → Below js d c → F (CrewHolds (record { 0 = c }) a v) ≡ true → crew_holds js F a v d ≡ true
  holds_above {d} {c} here e = crew_holds-direct js F a v d e
  holds_above {d} {c} (down {s} {j} i below) e = crew_holds_junior js F a v falls d j i (holds_above below e)

  -- What a crew effectively holds, it or a crew below it directly holds.
  record Source (d : ℕ) : Type 0 where
    crew : ℕ
    below : Below js d crew
    held : F (CrewHolds (record { 0 = crew }) a v) ≡ true

  source_within : (n d : ℕ) → d < n → crew_holds js F a v d ≡ true → Source d
  source_within zero d h e = absurd (omega arith)
  source_within (suc n) d h e =
      ⊎_elim
      (λ (i : F (CrewHolds (record { 0 = d }) a v) ≡ true). record { crew = d; below = here; held = i })
      (λ (i : (j : ℕ) × ((is_junior js d j ≡ true) × (crew_holds js F a v j ≡ true))).
      let lower : i.0 < d = falls.lower d i.0 i.1.0 in
      let s = source_within n i.0 (omega arith) i.1.1 in
      record { crew = s.crew; below = down i.1.0 s.below; held = s.held })
      (crew_holds_cases js F a v d e)

-- ---------------------------------------------------------------- an admitted book

module _ (b : Contents) (ok : Admitted b) where
  falling : Falling b.juniors
  falling = record { lower = λ s j e. (ok.edges s j (sym (junior_member b.juniors s j) ∙ e)).0 }

  values_most : (a : ℕ) → values_of b.sizes a ≤ 32
  values_most a = omega (arith, ok.sized.values_most a)

  -- Each named attribute is one of the book's, with its set within that attribute's values.
  wants_fit : all (λ w. is_attr b.sizes w.attr.0 && within w.set (values_of b.sizes w.attr.0)) (wants b) ≡ true
  unfolding want_of
  wants_fit =
      rw (wants-front b)
      (all-front (λ w. is_attr b.sizes w.attr.0 && within w.set (values_of b.sizes w.attr.0)) no_want b.query.wants b.query.q
      (λ j l. all_at (want_fits b.sizes b.query) b.query.q j ok.query_in.wants l))

  -- In mode 02 the listed crews are the book's.
  listed-within : b.query.mode ≡ 2 → within b.query.crews b.sizes.crews ≡ true
  listed-within two = rw two at ok.query_in.crews

  member_bound : (p : Person) (c : Crew) → in_sizes b.sizes (Member p c) ≡ true → c.0 < b.sizes.crews
  unfolding in_sizes
  member_bound p c e = ltb-true c.0 b.sizes.crews (and_both (is_person b.sizes p.0) (is_crew b.sizes c.0) e).1

  value_bound : (p : Person) (a : Attr) (v : ℕ) → in_sizes b.sizes (Holds p a v) ≡ true → is_value b.sizes a.0 v ≡ true
  unfolding in_sizes
  value_bound p a v e = (and_both (is_person b.sizes p.0) (is_value b.sizes a.0 v) e).1

  crew_bound : (c : Crew) (a : Attr) (v : ℕ) → in_sizes b.sizes (CrewHolds c a v) ≡ true → is_value b.sizes a.0 v ≡ true
  unfolding in_sizes
  crew_bound c a v e = (and_both (is_crew b.sizes c.0) (is_value b.sizes a.0 v) e).1

  module _ (F : Fact → Bool) (inside : (f : Fact) → F f ≡ true → in_sizes b.sizes f ≡ true) where
    -- -------------------------------------------------------------- a met query has no forbidden fact

    -- A value of the book that is effective is not banned, where each named attribute has its set.
    effective-free : all (λ w. eqb (effective_set b F w.attr.0) w.set) (wants b) ≡ true
        → (a : Attr) (v : ℕ) → is_value b.sizes a.0 v ≡ true → person_holds b.juniors F b.query.person a v ≡ true → banned b a.0 v ≡ false
    unfolding banned
    effective-free each a v range e = not_on (any (λ w. eqb w.attr.0 a.0 && not (member w.set v)) (wants b)) refuted
      where
        refuted : any (λ w. eqb w.attr.0 a.0 && not (member w.set v)) (wants b) ≡ true → ⊥
        refuted found =
            let w = all_any (λ w. eqb (effective_set b F w.attr.0) w.set) (λ w. eqb w.attr.0 a.0 && not (member w.set v))
            (wants b) each found in
            let both = and_both (eqb w.0.attr.0 a.0) (not (member w.0.set v)) w.1.1 in
            let attr : w.0.attr.0 ≡ a.0 = eqb-true w.0.attr.0 a.0 both.0 in
            let set : effective_set b F w.0.attr.0 ≡ w.0.set = eqb-true (effective_set b F w.0.attr.0) w.0.set w.1.0 in
            let has : member (effective_set b F a.0) v ≡ true =
            member-value_set b.sizes b.juniors b.query.person a.0 F v
            ∙ and_from (is_value b.sizes a.0 v) (person_holds b.juniors F b.query.person a v) range e in
            let same : effective_set b F a.0 ≡ w.0.set = ap (effective_set b F) (sym attr) ∙ set in
            true≢false (sym has ∙ ap (λ (s : ℕ). member s v) same ∙ not-true (member w.0.set v) both.1)

    -- The crews that the person is in are the members of the direct crews.
    direct-from : (c : Crew) → F (Member b.query.person c) ≡ true → member (direct_crews b F) c.0 ≡ true
    direct-from c e =
        rw (direct_crews_below b F) (set_below_from (λ x. F (Member b.query.person (record { 0 = x }))) b.sizes.crews c.0
        (member_bound b.query.person c (inside (Member b.query.person c) e)) e)

    direct_of : (c : ℕ) → member (direct_crews b F) c ≡ true → F (Member b.query.person (record { 0 = c })) ≡ true
    direct_of c m = (set_below_parts (λ x. F (Member b.query.person (record { 0 = x }))) b.sizes.crews c (rw (direct_crews_below b F) at m)).1

    -- Mode 02, met, forbids nothing that holds.
    exactly-clear : met_exactly b F ≡ true → (f : Fact) → tracked b f ≡ true → F f ≡ true → forbids b f ≡ false
    unfolding forbids below_listed
    exactly-clear e (Holds p a v) t h =
        let held : F (Holds b.query.person a v) ≡ true = rw (tracked_value b p a v t).0 at h in
        effective-free (exactly_parts b F e).1 a v (value_bound p a v (inside (Holds p a v) h))
        (person_holds-direct b.juniors F b.query.person a v held)
    exactly-clear e (CrewHolds c a v) t h = not_on (banned b a.0 v && below_listed b c.0) refuted
      where
        refuted : (banned b a.0 v && below_listed b c.0) ≡ true → ⊥
        refuted i =
            let both = and_both (banned b a.0 v) (below_listed b c.0) i in
            let listed = any_cases (λ d. member b.query.crews d && downward b.juniors (λ x. eqb x c.0) d) 32 both.1 in
            let d = listed.0 in
            let parts = and_both (member b.query.crews d) (downward b.juniors (λ x. eqb x c.0) d) listed.1.1 in
            let direct : F (Member b.query.person (record { 0 = d })) ≡ true =
            direct_of d (ap (λ (s : ℕ). member s d) (exactly_parts b F e).0 ∙ parts.0) in
            let holds = holds_above b.juniors F a v falling (reached b.juniors d c.0 parts.1) h in
            let free = effective-free (exactly_parts b F e).1 a v (crew_bound c a v (inside (CrewHolds c a v) h))
            (person_holds_from b.juniors F b.query.person a v d listed.1.0 direct holds) in
            true≢false (sym both.0 ∙ free)
    exactly-clear e (Member p c) t h =
        let held : F (Member b.query.person c) ≡ true = rw (tracked-member b p c t).0 at h in
        let listed : member b.query.crews c.0 ≡ true = ap (λ (s : ℕ). member s c.0) (sym (exactly_parts b F e).0) ∙ direct-from c held in
        rw listed refl

    -- Where the query is met, no tracked fact that holds is forbidden.
    pub met-clear : between 1 2 b.query.mode ≡ true → met b F ≡ true → (f : Fact) → tracked b f ≡ true → F f ≡ true → forbidden b f ≡ false
    unfolding forbidden
    met-clear range e f t h =
        met_by_mode b range F e
        (λ m i. rw m refl)
        (λ m i. rw m (exactly-clear i f t h))

    -- -------------------------------------------------------------- the goal without forbidden facts is the query

    module _ (two : b.query.mode ≡ 2) (clear : (f : Fact) → tracked b f ≡ true → F f ≡ true → forbidden b f ≡ false) where
      free : (f : Fact) → tracked b f ≡ true → F f ≡ true → forbids b f ≡ false
      unfolding forbidden
      free f t h = sym (ap (λ (m : ℕ). not (eqb m 1) && forbids b f) two) ∙ clear f t h

      listed_of : (c : ℕ) → F (Member b.query.person (record { 0 = c })) ≡ true → member b.query.crews c ≡ true
      unfolding forbids
      listed_of c h =
          let f = Member b.query.person (record { 0 = c }) in
          not-false (member b.query.crews c) (free f (member_in b ok b.query.person (record { 0 = c }) refl (inside f h)) h)

      crews-exact : subset b.query.crews (direct_crews b F) ≡ true → direct_crews b F ≡ b.query.crews
      crews-exact sub =
          direct_crews_below b F
          ∙ same_set (λ c. F (Member b.query.person (record { 0 = c }))) b.sizes.crews b.query.crews ok.sized.crews_most (listed-within two)
          (λ c l h. listed_of c h) (rw (direct_crews_below b F) at sub)

      -- An effective value is not banned.
      not-banned : (a : Attr) (v : ℕ) → person_holds b.juniors F b.query.person a v ≡ true → banned b a.0 v ≡ false
      unfolding forbids below_listed
      not-banned a v e =
          ⊎_elim
          (λ (h : F (Holds b.query.person a v) ≡ true). free (Holds b.query.person a v)
          (value_in b ok b.query.person a v refl (inside (Holds b.query.person a v) h)) h)
          (λ (h : (d : ℕ) × ((d < 32) × ((F (Member b.query.person (record { 0 = d })) ≡ true) × (crew_holds b.juniors F a v d ≡ true)))).
          let d = h.0 in
          let s = source_within b.juniors F a v falling (suc d) d (omega arith) h.1.1.1 in
          let f = CrewHolds (record { 0 = s.crew }) a v in
          let low : below_listed b s.crew ≡ true =
          any_from_lem (λ x. member b.query.crews x && downward b.juniors (λ y. eqb y s.crew) x) 32 d
          (and_from (member b.query.crews d) (downward b.juniors (λ y. eqb y s.crew) d) (listed_of d h.1.1.0)
          (reaches b.juniors falling s.below)) h.1.0 in
          not-both (banned b a.0 v) (below_listed b s.crew) low (free f (crew_in b ok (record { 0 = s.crew }) a v (inside f s.held)) s.held))
          (person_holds_cases b.juniors F b.query.person a v e)
        where
          not-both : (x y : Bool) → y ≡ true → (x && y) ≡ false → x ≡ false
          not-both true y e f = absurd (true≢false (sym e ∙ f))
          not-both false y e f = refl

      values-exact : met_at_least b F ≡ true → all (λ w. eqb (effective_set b F w.attr.0) w.set) (wants b) ≡ true
      unfolding banned
      values-exact least =
          all_in (λ w. subset w.set (effective_set b F w.attr.0))
          (λ w. is_attr b.sizes w.attr.0 && within w.set (values_of b.sizes w.attr.0))
          (λ w. eqb (effective_set b F w.attr.0) w.set) (wants b) (sym (at_least_each b F) ∙ least) wants_fit each-exact
        where
          each-exact : (w : Want) → subset w.set (effective_set b F w.attr.0) ≡ true
              → (is_attr b.sizes w.attr.0 && within w.set (values_of b.sizes w.attr.0)) ≡ true
              → ((t : Want → Bool) → t w ≡ true → any t (wants b) ≡ true) → eqb (effective_set b F w.attr.0) w.set ≡ true
          each-exact w sub fit found =
              let sizes = and_both (is_attr b.sizes w.attr.0) (within w.set (values_of b.sizes w.attr.0)) fit in
              let is = value_set_below b.sizes b.juniors b.query.person w.attr.0 F sizes.0 in
              let p = person_holds b.juniors F b.query.person w.attr in
              let outside : (v : ℕ) → member w.set v ≡ false → banned b w.attr.0 v ≡ true =
              λ v m. found (λ x. eqb x.attr.0 w.attr.0 && not (member x.set v))
              (and_from (eqb w.attr.0 w.attr.0) (not (member w.set v)) (eq-eqb w.attr.0 w.attr.0 refl) (rw m refl)) in
              eq-eqb (effective_set b F w.attr.0) w.set
              (is ∙ same_set p (values_of b.sizes w.attr.0) w.set (values_most w.attr.0) sizes.1
              (λ v l h. not_off (member w.set v) (λ m. true≢false (sym (outside v m) ∙ not-banned w.attr v h)))
              (rw is at sub))

      goal-exactly : (subset b.query.crews (direct_crews b F) && met_at_least b F) ≡ true → met_exactly b F ≡ true
      goal-exactly e =
          let both = and_both (subset b.query.crews (direct_crews b F)) (met_at_least b F) e in
          exactly_from b F (crews-exact both.0) (values-exact both.1)

    -- Where no tracked fact that holds is forbidden and the goal is reached, the query is met.
    pub goal-met : between 1 2 b.query.mode ≡ true → ((f : Fact) → tracked b f ≡ true → F f ≡ true → forbidden b f ≡ false) → goal b F ≡ true
        → met b F ≡ true
    unfolding goal
    goal-met range clear e =
        by_mode (eqb b.query.mode 1) (met_at_least b F) (subset b.query.crews (direct_crews b F) && met_at_least b F) e
        (λ m i. met_at_least_lem b F m ∙ i)
        (λ m i.
        let two = second b.query.mode range m in
        met_exactly_lem b F two ∙ goal-exactly two clear i)

-- ---------------------------------------------------------------- what the query reads

-- Whether the goal is reached depends on the crews' values and on the person's values and memberships alone.
pub goal_same : (b : Contents) (F H : Fact → Bool) → SameOf F H b.query.person → goal b F ≡ goal b H
unfolding goal
goal_same b F H same = rw (at_least_local b F H same, direct_crews_local b F H same) refl

module _ (b : Contents) (ok : Admitted b) (F : Fact → Bool) (inside : (f : Fact) → F f ≡ true → in_sizes b.sizes f ≡ true) where
  -- Of a set within the sizes, the tracked facts alone decide whether the goal is reached.
  pub goal_local : goal b F ≡ goal b (lift b (track b F))
  goal_local = goal_same b F (lift b (track b F)) (person_held b ok F inside b.query.person refl)

-- ---------------------------------------------------------------- by number

-- A tracked fact's number is bad exactly where the fact is forbidden.
pub bad_at : (b : Contents) (f : Fact) → tracked b f ≡ true → bad b (number_of b f) ≡ forbidden b f
unfolding bad
bad_at b f t = rw (number_is b f t, number_fact b f t) refl

module _ (b : Contents) (F : Fact → Bool) where
  -- Where no tracked fact that holds is forbidden, the state is clear of the bad numbers.
  pub clear_of : ((f : Fact) → tracked b f ≡ true → F f ≡ true → forbidden b f ≡ false) → Clear (bad b) (track b F)
  unfolding track bad
  clear_of clear g e =
      let both = and_both (is_number b g) (F (fact_at b (g / 160) (g % 160))) e in
      rw both.0 (clear (fact_at b (g / 160) (g % 160)) (fact_tracked b g both.0).0 both.1)

  -- Where the state is clear of the bad numbers, no tracked fact that holds is forbidden.
  pub clear_from : Clear (bad b) (track b F) → (f : Fact) → tracked b f ≡ true → F f ≡ true → forbidden b f ≡ false
  clear_from clear f t h = sym (bad_at b f t) ∙ clear (number_of b f) (track_at b F f t ∙ h)
