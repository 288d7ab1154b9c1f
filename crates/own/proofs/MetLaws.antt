-- The query of mode 03 is met exactly where the query's person has each wanted fact.
use mathlib.Core.Path.{◌≡◌, refl, sym, ap, ◌∙◌}
use mathlib.Core.Logic.{dite}
use mathlib.Core.Bool.{Bool, true, true≢false}
use Prim.Native.Nat.{ℕ, ◌+◌, ◌-◌, ◌*◌, ◌/◌, ◌%◌, ◌≤◌, ◌<◌}
use native.Mathlib.Decide.{dec_lt}
use native.Mathlib.Omega.{arith}
use lib.Dec.{eqb, ltb}
use lib.ListN.{length, take}
use lib.Seq.{get_or-take, length-take-le}
use borrow.Author.Tests.{ltb-true, lt-ltb, le-ltb, eqb-true, eq-eqb}
use Rattle.quantifiers.specs.Quantifiers.{all}
use Rattle.quantifiers.proofs.BoolLaws.{and_both, and_from}
use Rattle.quantifiers.proofs.BelowLaws.{any_from_lem, any_cases, all_at}
use Rattle.quantifiers.proofs.ListLaws.{all-front}
use Rattle.sets.specs.Sets.{member, within, subset}
use Rattle.sets.proofs.SetLaws.{subset-member, subset_from, within-member}
use Rattle.facts.specs.declared.Fact.{Fact}
use Rattle.facts.specs.declared.Fact.TheVariants.{Holds, Member}
use Rattle.sizes.specs.Sizes.{values_of, is_attr}
use Rattle.sizes.proofs.SizeLaws.{value_bounds}
use Rattle.frames.specs.declared.Want.{Want}
use Rattle.frames.specs.Book.{Contents, no_want}
use Rattle.frames.specs.Inner.Fits.{want_of, want_fits}
use Rattle.quantifiers.proofs.ListLaws.{all_get}
use Rattle.ledger.proofs.OperationLaws.{set_below_from, set_below_parts}
use Rattle.replay.specs.Met.{wants, direct_set, direct_crews, met_directly, met}
use Rattle.replay.proofs.MetLaws.{met_directly_lem, wants-front}
use Rattle.theory.specs.Inner.Facts.{◌⊆◌}
use Rattle.reach.specs.Inner.Tracked.{track}
use Rattle.reach.specs.Inner.Growing.{Growing}
use Rattle.own.specs.Inner.Wanted.{wanted_at, has_value}
use Rattle.own.specs.Inner.Own.{own, wanted_by}
use Rattle.own.proofs.OwnLaws.{held_value, held_member}

-- A member of a set within a bound is below it.
member_low : (x n v : ℕ) → within x n ≡ true → member x v ≡ true → v < n
member_low x n v e m = dite (dec_lt v n) (λ (k : v < n). k) (λ (k : v < n → ⊥). absurd (true≢false (sym m ∙ within-member x n v e (omega arith))))

-- ---------------------------------------------------------------- the wanted facts

module _ (b : Contents) where
  -- A wanted fact is a value of a named set, or membership in a listed crew.
  wanted_cases : {A : Type 0} (f : ℕ) → wanted_by b f ≡ true
      → (f < 128 → (j : ℕ) → j < b.query.q → (want_of b.query j).attr.0 ≡ f / 16 → member (want_of b.query j).set (f % 16) ≡ true → A)
      → (128 ≤ f → f < 160 → member b.query.crews (f - 128) ≡ true → A) → A
  unfolding wanted_by wanted_at
  wanted_cases f e value crew =
      let both = and_both (ltb f 160) (wanted_at b.query f) e in
      dite (dec_lt f 128)
      (λ (low : f < 128).
      let found = any_cases (has_value b.query (f / 16) (f % 16)) b.query.q (rw (lt-ltb f 128 low) at both.1) in
      let w = want_of b.query found.0 in
      let parts = and_both (eqb w.attr.0 (f / 16)) (member w.set (f % 16)) found.1.1 in
      value low found.0 found.1.0 (eqb-true w.attr.0 (f / 16) parts.0) parts.1)
      (λ (high : f < 128 → ⊥).
      crew (omega arith) (ltb-true f 160 both.0) (rw (le-ltb f 128 (omega arith)) at both.1))

  value_wanted : (j v : ℕ) → j < b.query.q → (want_of b.query j).attr.0 < 8 → v < 16 → member (want_of b.query j).set v ≡ true
      → wanted_by b (16 * (want_of b.query j).attr.0 + v) ≡ true
  unfolding wanted_by wanted_at
  value_wanted j v l attr low m =
      let a = (want_of b.query j).attr.0 in
      let d : (16 * a + v) / 16 ≡ a = omega arith in
      let r : (16 * a + v) % 16 ≡ v = omega arith in
      rw (lt-ltb (16 * a + v) 160 (omega arith), lt-ltb (16 * a + v) 128 (omega arith), d, r)
      (any_from_lem (has_value b.query a v) b.query.q j (and_from (eqb a a) (member (want_of b.query j).set v) (eq-eqb a a refl) m) l)

  crew_wanted : (c : ℕ) → c < 32 → member b.query.crews c ≡ true → wanted_by b (128 + c) ≡ true
  unfolding wanted_by wanted_at
  crew_wanted c low m =
      let d : 128 + c - 128 ≡ c = omega arith in
      rw (lt-ltb (128 + c) 160 (omega arith), le-ltb (128 + c) 128 (omega arith), d) m

-- ---------------------------------------------------------------- met

module _ (b : Contents) (ok : Growing b) where
  -- A listed crew is one of the book.
  listed_crew : (c : ℕ) → member b.query.crews c ≡ true → c < b.sizes.crews
  listed_crew c m = member_low b.query.crews b.sizes.crews c (rw ok.mode at ok.book.query_in.crews) m

  -- A value of a named set is one of the book.
  named_value : (j v : ℕ) → j < b.query.q → member (want_of b.query j).set v ≡ true
      → ((want_of b.query j).attr.0 < 8) × ((v < 16) × (v < values_of b.sizes (want_of b.query j).attr.0))
  named_value j v l m =
      let w = want_of b.query j in
      let a = w.attr.0 in
      let n = values_of b.sizes a in
      let fits = and_both (is_attr b.sizes a) (within w.set n)
      (all_at (want_fits b.sizes b.query) b.query.q j ok.book.query_in.wants l) in
      let low = member_low w.set n v fits.1 m in
      let bounds = value_bounds b.sizes a v ok.book.sized (and_from (is_attr b.sizes a) (ltb v n) fits.0 (lt-ltb v n low)) in
      (bounds.0, (bounds.1, low))

  module _ (F : Fact → Bool) where
    -- Where the query is met the person has each wanted fact.
    pub met-own : met b F ≡ true → wanted_by b ⊆ own b (track b F)
    unfolding met_directly direct_crews direct_set want_of
    met-own e f w =
        let crews = subset b.query.crews (direct_crews b F) in
        let set-of : Want → Bool = λ w. subset w.set (direct_set b F w.attr.0) in
        let parts = and_both crews (all set-of (wants b)) (sym (met_directly_lem b F ok.mode) ∙ e) in
        wanted_cases b f w
        (λ low j l is m.
        let n : length (take b.query.q b.query.wants) ≡ b.query.q =
        length-take-le b.query.q b.query.wants (omega (arith, ok.book.query_in.few, ok.book.query_in.room)) in
        let sets : all set-of (take b.query.q b.query.wants) ≡ true = ap (all set-of) (sym (wants-front b)) ∙ parts.1 in
        let sub : set-of (want_of b.query j) ≡ true =
        ap set-of (sym (get_or-take b.query.q b.query.wants j no_want l))
        ∙ all_get set-of (take b.query.q b.query.wants) no_want j sets (omega arith) in
        let a = (want_of b.query j).attr.0 in
        let here = subset-member (want_of b.query j).set (direct_set b F a) (f % 16) sub m in
        let holds = (set_below_parts (λ v. F (Holds b.query.person (record { 0 = a }) v)) (values_of b.sizes a) (f % 16) here).1 in
        let whole : 16 * a + f % 16 ≡ f = omega arith in
        ap (own b (track b F)) (sym whole) ∙ held_value b F a (f % 16) (omega arith) (omega arith) ∙ holds)
        (λ low high m.
        let here = subset-member b.query.crews (direct_crews b F) (f - 128) parts.0 m in
        let holds = (set_below_parts (λ c. F (Member b.query.person (record { 0 = c }))) b.sizes.crews (f - 128) here).1 in
        let whole : 128 + (f - 128) ≡ f = omega arith in
        ap (own b (track b F)) (sym whole) ∙ held_member b F (f - 128) (omega arith) ∙ holds)

    -- And where the person has each wanted fact the query is met.
    pub own-met : wanted_by b ⊆ own b (track b F) → met b F ≡ true
    unfolding met_directly direct_crews direct_set want_of
    own-met all_of =
        let set-of : Want → Bool = λ w. subset w.set (direct_set b F w.attr.0) in
        met_directly_lem b F ok.mode
        ∙ and_from (subset b.query.crews (direct_crews b F)) (all set-of (wants b))
        (subset_from b.query.crews (direct_crews b F)
        (λ c m.
        let low = listed_crew c m in
        let small : c < 32 = omega (arith, ok.book.sized.crews_most) in
        set_below_from (λ c. F (Member b.query.person (record { 0 = c }))) b.sizes.crews c low
        (sym (held_member b F c small) ∙ all_of (128 + c) (crew_wanted b c small m))))
        (ap (all set-of) (wants-front b)
        ∙ all-front set-of no_want b.query.wants b.query.q
        (λ j l.
        let a = (want_of b.query j).attr.0 in
        subset_from (want_of b.query j).set (direct_set b F a)
        (λ v m.
        let low = named_value j v l m in
        set_below_from (λ v. F (Holds b.query.person (record { 0 = a }) v)) (values_of b.sizes a) v low.1.1
        (sym (held_value b F a v low.0 low.1.0) ∙ all_of (16 * a + v) (value_wanted b j v l low.0 low.1.0 m)))))
