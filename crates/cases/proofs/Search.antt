-- No way, by search. Where a list of ledgers has the starting facts, no request of the query's roles leads out of it, and none of it
-- meets the query, no chain leads to the query. Only requests that some rule names are to be tried, and these are finitely many.
-- The search that finds such a list needs no law. Of the planner nothing is used but the meaning of "no way". Assumes nothing.
use mathlib.Core.Path.{◌≡◌, refl, sym, ◌∙◌}
use mathlib.Core.Logic.{dite}
use mathlib.Core.Bool.{Bool, true, false, not, cond, ◌&&◌, ◌||◌, true≢false}
use mathlib.Core.List.{List, [], ◌∷◌}
use Prim.Native.Nat.{ℕ, zero, suc, ◌+◌, ◌<◌}
use native.Mathlib.Decide.{ℕ_discrete}
use native.Mathlib.Omega.{arith}
use lib.Dec.{eqb, leb}
use lib.ListN.{length, get_or}
use borrow.Author.Tests.{eqb-true, ltb-true, not-true}
use Rattle.sets.specs.Sets.{member}
use Rattle.facts.specs.Facts.{holds}
use Rattle.facts.specs.declared.Fact.TheVariants.{Holds, CrewHolds, Member}
use Rattle.quantifiers.proofs.BoolLaws.{and_both}
use Rattle.sizes.specs.declared.Sizes.{Sizes}
use Rattle.sizes.specs.Sizes.{between, is_person, is_crew, is_value, is_crew_field}
use Rattle.frames.specs.declared.Rule.{Rule}
use Rattle.frames.specs.Book.{Contents}
use Rattle.frames.specs.Inner.Fits.{in_sizes}
use Rattle.requests.specs.Requests.{aimed, request_of, fields_good, well_formed}
use Rattle.requests.proofs.RequestLaws.{well_formed-length, well_formed_fact}
use Rattle.answers.proofs.AnswerLaws.{five_bytes}
use Rattle.quantifiers.specs.Quantifiers.{all, any}
use Rattle.rules.specs.Rules.{a_of, v_of, names, permits, permitted}
use Rattle.ledger.specs.Ledger.{after, allowed}
use Rattle.replay.specs.Chains.{goes}
use Rattle.replay.specs.Met.{met}
use Rattle.replay.proofs.ReplayLaws.{run_keeps}
use Rattle.planner.specs.Promise.{NoWay}

-- ---------------------------------------------------------------- the search

-- Whether two lists of bytes are equal.
unfoldable pub same_bytes : List ℕ → List ℕ → Bool
same_bytes [] [] = true
same_bytes [] (y ∷ ys) = false
same_bytes (x ∷ xs) [] = false
same_bytes (x ∷ xs) (y ∷ ys) = eqb x y && same_bytes xs ys

-- Whether a ledger is one of a list.
unfoldable pub among : List (List ℕ) → List ℕ → Bool
among ls l = any (same_bytes l) ls

-- The request that a rule names, on a subject.
unfoldable pub named : Rule → ℕ → List ℕ
named r s = r.op ∷ r.role.0 ∷ s ∷ r.a ∷ r.v ∷ []

-- The requests that a rule names on the subjects below n, in front of others.
unfoldable pub named_below : Rule → ℕ → List (List ℕ) → List (List ℕ)
named_below r zero rest = rest
named_below r (suc s) rest = named r s ∷ named_below r s rest

unfoldable pub all_named : List Rule → ℕ → List (List ℕ)
all_named [] n = []
all_named (r ∷ rs) n = named_below r n (all_named rs n)

-- The requests that a book's rules name.
unfoldable pub candidates : Contents → List (List ℕ)
candidates b = all_named b.rules (b.sizes.persons + b.sizes.crews)

-- A ledger put into a list that lacks it.
unfoldable pub join : List ℕ → List (List ℕ) → List (List ℕ)
join l ls = cond (among ls l) ls (l ∷ ls)

-- The list with the ledgers to which requests lead from one ledger.
unfoldable pub stepped : Contents → List ℕ → List (List ℕ) → List (List ℕ) → List (List ℕ)
stepped b l [] ls = ls
stepped b l (q ∷ qs) ls = cond (goes b b.query.roles l q) (join (after l (request_of q)) (stepped b l qs ls)) (stepped b l qs ls)

-- The list with the ledgers to which one request leads from some of it.
unfoldable pub spread : Contents → List (List ℕ) → List (List ℕ) → List (List ℕ)
spread b [] ls = ls
spread b (l ∷ more) ls = stepped b l (candidates b) (spread b more ls)

-- The ledgers to which at most n requests lead.
unfoldable pub reached : Contents → ℕ → List (List ℕ)
reached b zero = b.facts ∷ []
reached b (suc n) = spread b (reached b n) (reached b n)

-- ---------------------------------------------------------------- the test

-- A request does not lead from a ledger out of the list.
unfoldable pub stays : Contents → List (List ℕ) → List ℕ → List ℕ → Bool
stays b ls l q = cond (goes b b.query.roles l q) (among ls (after l (request_of q))) true

unfoldable pub closed : Contents → List (List ℕ) → Bool
closed b ls = all (λ l. all (stays b ls l) (candidates b)) ls

unfoldable pub unmet : Contents → List (List ℕ) → Bool
unmet b ls = all (λ l. not (met b (holds l))) ls

-- The list has the starting facts, no request leads out of it, and none of it meets the query.
unfoldable pub shut : Contents → List (List ℕ) → Bool
shut b ls = among ls b.facts && (closed b ls && unmet b ls)

-- ---------------------------------------------------------------- lists

pub same_bytes_lem : (xs ys : List ℕ) → same_bytes xs ys ≡ true → xs ≡ ys
unfolding same_bytes
same_bytes_lem [] [] e = refl
same_bytes_lem [] (y ∷ ys) e = absurd (true≢false (sym e))
same_bytes_lem (x ∷ xs) [] e = absurd (true≢false (sym e))
same_bytes_lem (x ∷ xs) (y ∷ ys) e =
    let both = and_both (eqb x y) (same_bytes xs ys) e in
    rw (eqb-true x y both.0, same_bytes_lem xs ys both.1) refl

-- What all of a list pass, one of it passes.
among_all : (P : List ℕ → Bool) (l : List ℕ) (ls : List (List ℕ)) → among ls l ≡ true → all P ls ≡ true → P l ≡ true
unfolding among any all
among_all P l [] e h = absurd (true≢false (sym e))
among_all P l (x ∷ xs) e h = let both = and_both (P x) (all P xs) h in by_first (same_bytes l x) refl e both.0 (λ f. among_all P l xs f both.1)
  where
    by_first : (t : Bool) → same_bytes l x ≡ t → (t || any (same_bytes l) xs) ≡ true → P x ≡ true → (any (same_bytes l) xs ≡ true → P l ≡ true) → P l ≡ true
    by_first true i f here rest = rw (same_bytes_lem l x i) here
    by_first false i f here rest = rest f

-- ---------------------------------------------------------------- every request that goes is a candidate

module _ (P : List ℕ → Bool) where
  below_all : (r : Rule) (n : ℕ) (rest : List (List ℕ)) → all P (named_below r n rest) ≡ true → ((s : ℕ) → s < n → P (named r s) ≡ true) × (all P rest ≡ true)
  unfolding named_below all
  below_all r zero rest h = (λ s less. absurd (omega arith), h)
  below_all r (suc n) rest h =
      let both = and_both (P (named r n)) (all P (named_below r n rest)) h in
      let fewer = below_all r n rest both.1 in (
        λ s less. dite (ℕ_discrete s n) (λ (here : s ≡ n). rw here both.0) (λ (other : s ≡ n → ⊥). fewer.0 s (omega arith)),
        fewer.1,
      )

  -- What every named request passes, a request that some rule names passes.
  named_all : (q : List ℕ) (s n : ℕ) (T : Rule → Bool) → s < n → ((r : Rule) → T r ≡ true → q ≡ named r s)
      → (rs : List Rule) → any T rs ≡ true → all P (all_named rs n) ≡ true → P q ≡ true
  unfolding all_named any
  named_all q s n T less is [] e h = absurd (true≢false (sym e))
  named_all q s n T less is (r ∷ rs) e h =
      let parts = below_all r n (all_named rs n) h in
      by_first (T r) refl e (parts.0 s less) (λ f. named_all q s n T less is rs f parts.1)
    where
      by_first : (t : Bool) → T r ≡ t → (t || any T rs) ≡ true → P (named r s) ≡ true → (any T rs ≡ true → P q ≡ true) → P q ≡ true
      by_first true i f here rest = rw (is r i) here
      by_first false i f here rest = rest f

-- The fields a and v of a good request are those of its fact, and its subject's number is a person's or a crew's.
module _ (z : Sizes) (op role s a v : ℕ) where
  aimed_a : a_of (aimed op s a v) ≡ a
  unfolding aimed a_of
  aimed_a = by_op (leb op 2) (leb op 4)
    where
      by_op : (x y : Bool)
          → a_of (cond x (Holds (record { 0 = s }) (record { 0 = a }) v)
          (cond y (CrewHolds (record { 0 = s }) (record { 0 = a }) v) (Member (record { 0 = s }) (record { 0 = a })))) ≡ a
      by_op true y = refl
      by_op false true = refl
      by_op false false = refl

  -- In 05 and 06 "v is 00".
  assigned_v : (between 5 6 op && is_person z s && is_crew_field z a v) && leb role 15 ≡ true → 0 ≡ v
  assigned_v e =
      let fields = (and_both (between 5 6 op && is_person z s && is_crew_field z a v) (leb role 15) e).0 in
      sym (eqb-true v 0 (and_both (is_crew z a) (eqb v 0) (and_both (between 5 6 op && is_person z s) (is_crew_field z a v) fields).1).1)

  aimed_v : fields_good z op role s a v ≡ true → v_of (aimed op s a v) ≡ v
  unfolding aimed v_of fields_good
  aimed_v e = by_op (leb op 2) (leb op 4) (leb 1 op) (leb 3 op) e
    where
      by_op : (x y lo mid : Bool)
          → ((lo && x && is_person z s && is_value z a v) || (mid && y && is_crew z s && is_value z a v)
          || (between 5 6 op && is_person z s && is_crew_field z a v)) && leb role 15 ≡ true
          → v_of (cond x (Holds (record { 0 = s }) (record { 0 = a }) v)
          (cond y (CrewHolds (record { 0 = s }) (record { 0 = a }) v) (Member (record { 0 = s }) (record { 0 = a })))) ≡ v
      by_op true y lo mid f = refl
      by_op false true lo mid f = refl
      by_op false false true true f = assigned_v f
      by_op false false true false f = assigned_v f
      by_op false false false true f = assigned_v f
      by_op false false false false f = assigned_v f

  aimed_subject : in_sizes z (aimed op s a v) ≡ true → s < z.persons + z.crews
  unfolding aimed in_sizes
  aimed_subject e = by_op (leb op 2) (leb op 4) e
    where
      by_op : (x y : Bool)
          → in_sizes z (cond x (Holds (record { 0 = s }) (record { 0 = a }) v)
          (cond y (CrewHolds (record { 0 = s }) (record { 0 = a }) v) (Member (record { 0 = s }) (record { 0 = a })))) ≡ true
          → s < z.persons + z.crews
      by_op true y f = omega (arith, ltb-true s z.persons (and_both (is_person z s) (is_value z a v) f).0)
      by_op false true f = omega (arith, ltb-true s z.crews (and_both (is_crew z s) (is_value z a v) f).0)
      by_op false false f = omega (arith, ltb-true s z.persons (and_both (is_person z s) (is_crew z a) f).0)

module _ (b : Contents) (l q : List ℕ) (g : goes b b.query.roles l q ≡ true) where
  goes_formed : well_formed b.sizes q ≡ true
  unfolding goes
  goes_formed = (and_both (well_formed b.sizes q) _ g).0

  goes-permitted : permitted b.juniors b.rules (holds l) (request_of q) ≡ true
  unfolding goes allowed
  goes-permitted = (and_both (member b.query.roles (request_of q).role.0) _ (and_both (well_formed b.sizes q) _ g).1).1

  fields_good_lem : fields_good b.sizes (get_or q 0 0) (get_or q 1 0) (get_or q 2 0) (get_or q 3 0) (get_or q 4 0) ≡ true
  unfolding well_formed
  fields_good_lem = (and_both (eqb (length q) 5) _ goes_formed).1

  subject_low : get_or q 2 0 < b.sizes.persons + b.sizes.crews
  unfolding request_of
  subject_low = aimed_subject b.sizes (get_or q 0 0) (get_or q 1 0) (get_or q 2 0) (get_or q 3 0) (get_or q 4 0) (well_formed_fact b.sizes q goes_formed)

  -- A rule that permits a well-formed request names it.
  permits_named : (r : Rule) → permits b.juniors (holds l) (request_of q) r ≡ true → q ≡ named r (get_or q 2 0)
  unfolding permits names request_of named
  permits_named r e =
      let is = (and_both (names (request_of q) r) _ e).0 in
      let one = and_both (eqb r.op (get_or q 0 0)) _ is in
      let two = and_both (eqb r.role.0 (get_or q 1 0)) _ one.1 in
      let three = and_both (eqb r.a (a_of (request_of q).fact)) _ two.1 in
      let a-is = eqb-true r.a _ three.0 ∙ aimed_a b.sizes (get_or q 0 0) (get_or q 1 0) (get_or q 2 0) (get_or q 3 0) (get_or q 4 0) in
      let v-is = eqb-true r.v _ three.1 ∙ aimed_v b.sizes (get_or q 0 0) (get_or q 1 0) (get_or q 2 0) (get_or q 3 0) (get_or q 4 0) fields_good_lem in
      five_bytes q (well_formed-length b.sizes q goes_formed)
      ∙ rw (eqb-true r.op (get_or q 0 0) one.0, eqb-true r.role.0 (get_or q 1 0) two.0, a-is, v-is) refl

  -- What every candidate passes, a request that goes passes.
  pub goes_candidate : (P : List ℕ → Bool) → all P (candidates b) ≡ true → P q ≡ true
  unfolding candidates permitted
  goes_candidate P h =
      named_all P q (get_or q 2 0) (b.sizes.persons + b.sizes.crews) (permits b.juniors (holds l) (request_of q))
      subject_low permits_named b.rules goes-permitted h

-- ---------------------------------------------------------------- the test tells

module _ (b : Contents) (ls : List (List ℕ)) where
  -- No request leads out of a closed list.
  closed_step : closed b ls ≡ true → (l q : List ℕ) → goes b b.query.roles l q ≡ true → among ls l ≡ true → among ls (after l (request_of q)) ≡ true
  unfolding closed stays
  closed_step c l q g here =
      rw g at (goes_candidate b l q g (stays b ls l) (among_all (λ x. all (stays b ls x) (candidates b)) l ls here c))

  pub shut_no_way : shut b ls ≡ true → NoWay b
  unfolding shut unmet
  shut_no_way e =
      let one = and_both (among ls b.facts) _ e in
      let two = and_both (closed b ls) _ one.1 in
      record {
        none = λ chain l leads m.
            let last = run_keeps b b.query.roles (λ (x : List ℕ). among ls x ≡ true) (closed_step two.0) b.facts 1 chain l leads.led one.0 in
            true≢false (sym m ∙ not-true (met b (holds l)) (among_all (λ x. not (met b (holds x))) l ls last two.1));
      }
