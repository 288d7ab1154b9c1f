-- Laws of terms: what is shown at a term's place is what the term asks, so a move is met where its rule's terms hold.
use mathlib.Core.Path.{◌≡◌, refl, sym, ap, ◌∙◌}
use mathlib.Core.Logic.{dite}
use mathlib.Core.Bool.{Bool, true, false}
use mathlib.Core.List.{List, [], ◌∷◌}
use Prim.Native.Nat.{ℕ, zero, suc, ◌+◌, ◌-◌, ◌*◌, ◌≤◌, ◌<◌}
use native.Mathlib.Decide.{dec_lt, ℕ_discrete}
use native.Mathlib.Omega.{arith}
use lib.ListN.{length, get_or, take}
use borrow.Author.Tests.{lt-ltb, le-ltb, eq-eqb, ne_eqb}
use Rattle.widths.specs.Inner.Widths.{level_size}
use Rattle.theory.specs.Inner.Facts.{State, ◌⊆◌}
use Rattle.gate.proofs.TermKindLaws.{no_value_kind}
use Rattle.shown.specs.Inner.Shown.{visible, visible_fact}
use Rattle.shown.proofs.ExtendedLaws.{extended_at, extended_low}
use Rattle.level.proofs.WorldLaws.{visible_mono}
use Rattle.level.specs.Inner.Moves.{places_of, move_shown, place_of}
use Rattle.quantifiers.specs.Quantifiers.{all, any_from}
use Rattle.quantifiers.proofs.BelowLaws.{from_same}
use Rattle.level.specs.declared.Move.{Move}
use Rattle.frames.specs.declared.Term.{Term}
use Rattle.frames.specs.declared.Rule.{Rule}
use Rattle.frames.specs.Limits.{is_not, plain}
use Rattle.frames.proofs.LimitLaws.{no_not_kind, plain_at}
use Rattle.frames.specs.Book.{no_term}
use Rattle.level.specs.Inner.Terms.{GoodRule, MoveOf, TermInRange, code_of, effective, rule_shown, term_shown}

visible-direct : (T : List Bool) (S : State) (k : ℕ) → k < 160 → visible T S k ≡ S k
unfolding visible visible_fact
visible-direct T S k h = extended_low (visible_fact T S) k (omega arith) ∙ rw (lt-ltb k 160 h)

effective_fact : (T : List Bool) (S : State) (k : ℕ) → visible_fact T S (160 + k) ≡ effective T S k
unfolding visible_fact effective
effective_fact T S k = let e : 160 + k - 160 ≡ k = omega arith in rw (le-ltb (160 + k) 160 (omega arith), e)

-- What is shown behind the direct facts is what is effective.
pub visible-effective : (T : List Bool) (S : State) (k : ℕ) → k < 160 → visible T S (160 + k) ≡ effective T S k
unfolding visible
visible-effective T S k h = extended_low (visible_fact T S) (160 + k) (omega arith) ∙ effective_fact T S k

visible_higher : (T : List Bool) (S : State) (a v : ℕ) → v < 16 → visible T S (320 + (16 * a + v)) ≡ any_from (λ w. effective T S (16 * a + w)) v 16
unfolding visible
visible_higher T S a v h =
    extended_at (visible_fact T S) a v h
    ∙ from_same (λ w. visible_fact T S (160 + (16 * a + w))) (λ w. effective T S (16 * a + w)) v 16 (λ w l. effective_fact T S (16 * a + w))

-- What each place asks: that a fact is there, or, of the "not" terms, that the fact level_size lower is lacking.
module _ (kind a v : ℕ) where
  pub code-direct : kind ≡ 1 → code_of kind a v ≡ 16 * a + v
  unfolding code_of
  code-direct is = rw is refl

  pub code_in : kind ≡ 3 → code_of kind a v ≡ 128 + a
  unfolding code_of
  code_in is = rw is refl

  pub code_lacks : kind ≡ 129 → code_of kind a v ≡ level_size + (16 * a + v)
  unfolding code_of
  code_lacks is = rw is refl

  pub code-not_in : kind ≡ 131 → code_of kind a v ≡ level_size + (128 + a)
  unfolding code_of
  code-not_in is = rw is (omega arith)

-- A kind by what it asks for, its fields in range.
module _ (t : Term) (r : TermInRange t) where
  value_1 : t.kind ≡ 1 → (t.a < 8) × (t.v < 16)
  value_1 e = r.value (rw e refl)

  value_2 : t.kind ≡ 2 → (t.a < 8) × (t.v < 16)
  value_2 e = r.value (rw e refl)

  value_5 : t.kind ≡ 5 → (t.a < 8) × (t.v < 16)
  value_5 e = r.value (rw e refl)

  value_129 : t.kind ≡ 129 → (t.a < 8) × (t.v < 16)
  value_129 e = r.value (rw e refl)

  crew_3 : t.kind ≡ 3 → t.a < 32
  crew_3 e = r.crew (rw e refl)

  crew_in : (t.kind ≡ 1 → ⊥) → (t.kind ≡ 2 → ⊥) → (t.kind ≡ 5 → ⊥) → (t.kind ≡ 129 → ⊥) → t.a < 32
  crew_in n₁ n₂ n₅ n₁₂₉ = r.crew (no_value_kind t.kind n₁ n₂ n₅ n₁₂₉)

  -- A term in range has a place.
  pub code_lt : code_of t.kind t.a t.v < 448
  unfolding code_of
  code_lt = dite (ℕ_discrete t.kind 1) (λ (e : t.kind ≡ 1). rw (eq-eqb t.kind 1 e) (omega (arith, value_1 e)))
      (λ (n₁ : t.kind ≡ 1 → ⊥). dite (ℕ_discrete t.kind 2)
      (λ (e : t.kind ≡ 2). rw (ne_eqb t.kind 1 n₁, eq-eqb t.kind 2 e) (omega (arith, value_2 e)))
      (λ (n₂ : t.kind ≡ 2 → ⊥). dite (ℕ_discrete t.kind 5)
      (λ (e : t.kind ≡ 5). rw (ne_eqb t.kind 1 n₁, ne_eqb t.kind 2 n₂, eq-eqb t.kind 5 e) (omega (arith, value_5 e)))
      (λ (n₅ : t.kind ≡ 5 → ⊥). dite (ℕ_discrete t.kind 3)
      (λ (e : t.kind ≡ 3). rw (ne_eqb t.kind 1 n₁, ne_eqb t.kind 2 n₂, ne_eqb t.kind 5 n₅, eq-eqb t.kind 3 e) (omega (arith, crew_3 e)))
      (λ (n₃ : t.kind ≡ 3 → ⊥). dite (ℕ_discrete t.kind 129)
      (λ (e : t.kind ≡ 129).
      rw (ne_eqb t.kind 1 n₁, ne_eqb t.kind 2 n₂, ne_eqb t.kind 5 n₅, ne_eqb t.kind 3 n₃, eq-eqb t.kind 129 e) (omega (arith, value_129 e)))
      (λ (n₁₂₉ : t.kind ≡ 129 → ⊥).
      rw (ne_eqb t.kind 1 n₁, ne_eqb t.kind 2 n₂, ne_eqb t.kind 5 n₅, ne_eqb t.kind 3 n₃, ne_eqb t.kind 129 n₁₂₉)
      (omega (arith, crew_in n₁ n₂ n₅ n₁₂₉)))))))

  module _ (no-not : is_not t ≡ false) where
    not-lacks : t.kind ≡ 129 → ⊥
    not-lacks = (no_not_kind t no-not).0

    -- What is shown at the place of a term that is no "not" term is whether it holds.
    pub term_place : (T : List Bool) (S : State) → visible T S (code_of t.kind t.a t.v) ≡ term_shown T S t
    unfolding code_of term_shown
    term_place T S =
        dite (ℕ_discrete t.kind 1) (λ (e : t.kind ≡ 1). rw (eq-eqb t.kind 1 e) (visible-direct T S (16 * t.a + t.v) (omega (arith, value_1 e))))
        (λ (n₁ : t.kind ≡ 1 → ⊥). dite (ℕ_discrete t.kind 2)
        (λ (e : t.kind ≡ 2). rw (ne_eqb t.kind 1 n₁, eq-eqb t.kind 2 e) (visible-effective T S (16 * t.a + t.v) (omega (arith, value_2 e))))
        (λ (n₂ : t.kind ≡ 2 → ⊥). dite (ℕ_discrete t.kind 5)
        (λ (e : t.kind ≡ 5). rw (ne_eqb t.kind 1 n₁, ne_eqb t.kind 2 n₂, eq-eqb t.kind 5 e) (visible_higher T S t.a t.v (value_5 e).1))
        (λ (n₅ : t.kind ≡ 5 → ⊥). dite (ℕ_discrete t.kind 3)
        (λ (e : t.kind ≡ 3). rw (ne_eqb t.kind 1 n₁, ne_eqb t.kind 2 n₂, ne_eqb t.kind 5 n₅, eq-eqb t.kind 3 e)
        (visible-direct T S (128 + t.a) (omega (arith, crew_3 e))))
        (λ (n₃ : t.kind ≡ 3 → ⊥).
        rw (ne_eqb t.kind 1 n₁, ne_eqb t.kind 2 n₂, ne_eqb t.kind 5 n₅, ne_eqb t.kind 3 n₃, ne_eqb t.kind 129 not-lacks)
        (crew t.a (crew_in n₁ n₂ n₅ not-lacks))))))
      where
        crew : (a : ℕ) → a < 32 → visible T S (288 + a) ≡ effective T S (128 + a)
        crew a h = let e : 288 + a ≡ 160 + (128 + a) = omega arith in rw e (visible-effective T S (128 + a) (omega arith))

    -- More facts break no such term.
    pub term_mono : (T : List Bool) {S Z : State} → S ⊆ Z → term_shown T S t ≡ true → term_shown T Z t ≡ true
    term_mono T {S} {Z} le h = sym (term_place T Z) ∙ visible_mono T le (code_of t.kind t.a t.v) (term_place T S ∙ h)

all_zip : (p : ℕ → Bool) (q : Term → Bool) (n : ℕ) (ks : List ℕ) (ts : List Term) → n ≤ length ks → n ≤ length ts
    → ((j : ℕ) → j < n → p (get_or ks j 0) ≡ q (get_or ts j no_term)) → all p (take n ks) ≡ all q (take n ts)
unfolding all
all_zip p q zero ks ts a b h = refl
all_zip p q (suc n) [] ts a b h = absurd (omega arith)
all_zip p q (suc n) (k ∷ ks) [] a b h = absurd (omega arith)
all_zip p q (suc n) (k ∷ ks) (t ∷ ts) a b h = rw (h 0 (omega arith), all_zip p q n ks ts (omega arith) (omega arith) (λ j l. h (suc j) (omega arith)))

-- The terms of a good rule without "not" terms are none.
pub term-plain : (r : Rule) → GoodRule r → plain r ≡ true → (j : ℕ) → j < r.n → is_not (get_or r.terms j no_term) ≡ false
term-plain r g no-not j l = plain_at r (record { few = g.few; room = g.size }) no-not j l

-- The move's terms hold just where the rule's do, of a rule without "not" terms.
pub move_met : (T : List Bool) (S : State) {r : Rule} {m : Move} → GoodRule r → plain r ≡ true → MoveOf r m → move_shown T S m ≡ rule_shown T S r
unfolding move_shown rule_shown places_of
move_met T S {r} {m} g no-not k =
    rw k.n (all_zip (visible T S) (term_shown T S) r.n m.terms r.terms (omega (arith, g.few, k.fine.size)) (omega (arith, g.few, g.size))
    (λ j l. ap (visible T S) (k.places j l) ∙ term_place (get_or r.terms j no_term) (g.terms j l) (term-plain r g no-not j l) T S))

-- The places of the first `j` terms are written, and no others.
pub record PlacesSoFar (r : Rule) (ks : List ℕ) (j : ℕ) : Type 0 where
  pub size : length ks ≡ 8
  pub fits : j ≤ r.n
  pub done : (i : ℕ) → i < j → get_or ks i 0 ≡ code_of (get_or r.terms i no_term).kind (get_or r.terms i no_term).a (get_or r.terms i no_term).v
  pub rest : (i : ℕ) → j ≤ i → get_or ks i 0 ≡ 0

module _ {r : Rule} {ks : List ℕ} {j : ℕ} (p : PlacesSoFar r ks j) (g : GoodRule r) where
  -- With all places written the move is made.
  pub move_made : r.n ≤ j → (r.op < 256) × ((r.role.0 < 256) × ((r.a < 256) × (r.v < 256))) → (f : ℕ) → f ≡ place_of r.op r.a r.v
      → MoveOf r (record { fact = f; n = r.n; op = r.op; role = r.role.0; a = r.a; v = r.v; terms = ks })
  move_made h bytes f e = record {
    fine = record { aim = e; fact = rw e g.aims; few = g.few; size = p.size; places = small; bytes = bytes };
    op = refl;
    role = refl;
    a = refl;
    v = refl;
    n = refl;
    places = λ i l. p.done i (omega arith);
  }
    where
      small : (i : ℕ) → get_or ks i 0 < 448
      small i = dite (dec_lt i r.n) (λ (l : i < r.n). rw (p.done i (omega arith)) (code_lt (get_or r.terms i no_term) (g.terms i l)))
          (λ (l : i < r.n → ⊥). rw (p.rest i (omega (arith, p.fits))) (omega arith))
