-- What the limits of a book with "not" terms come to: of a term, of a rule, of a list of rules, and of an accepted book.
use mathlib.Core.Path.{◌≡◌, refl, ap, sym, ◌∙◌}
use mathlib.Core.Bool.{Bool, true, false, not, ◌&&◌, ◌||◌, true≢false}
use mathlib.Core.List.{List, [], ◌∷◌, ◌++◌}
use mathlib.Core.Logic.{◌⊎◌, inl, inr}
use Prim.Native.Nat.{ℕ, zero, suc, ◌-◌, ◌≤◌, ◌<◌}
use native.Mathlib.Omega.{arith}
use lib.Dec.{eqb}
use lib.ListN.{length, get_or, take, drop}
use lib.Seq.{get_or-take, length-take-le, take_all}
use borrow.Author.Tests.{eqb-true, eq-eqb, not-true, not-false}
use Rattle.quantifiers.specs.Quantifiers.{all, any}
use Rattle.quantifiers.proofs.BoolLaws.{and_both, or_either, or_neither, or-none}
use Rattle.quantifiers.proofs.ListLaws.{all_get, any_get, all_behind}
use Rattle.frames.specs.declared.Term.{Term}
use Rattle.frames.specs.declared.Rule.{Rule}
use Rattle.frames.specs.Limits.{is_not, plain, all_plain, growing, same_key, twice, beyond_not, wrong_mode}
use Rattle.frames.specs.Book.{Contents, no_term}
use Rattle.frames.specs.Inner.Fits.{Short, Admitted}

-- ---------------------------------------------------------------- a term, a rule

-- A "not" term is of kind 81 or 83.
pub not_kinds : (t : Term) → is_not t ≡ true → (t.kind ≡ 129) ⊎ (t.kind ≡ 131)
unfolding is_not
not_kinds t e = or_either (eqb t.kind 129) (eqb t.kind 131) e (λ i. inl (eqb-true t.kind 129 i)) (λ i. inr (eqb-true t.kind 131 i))

-- A term that is not has neither kind.
pub no_not_kind : (t : Term) → is_not t ≡ false → (t.kind ≡ 129 → ⊥) × (t.kind ≡ 131 → ⊥)
unfolding is_not
no_not_kind t e = (
  (λ is. true≢false (sym (eq-eqb t.kind 129 is) ∙ or_neither (eqb t.kind 129) (eqb t.kind 131) e)),
  (λ is. true≢false (sym (eq-eqb t.kind 131 is) ∙ or-none (eqb t.kind 129) (eqb t.kind 131) e)),
)

module _ (r : Rule) where
  -- No term of a plain rule is a "not" term.
  pub plain_at : Short r → plain r ≡ true → (j : ℕ) → j < r.n → is_not (get_or r.terms j no_term) ≡ false
  unfolding plain
  plain_at s e j h =
      let size = length-take-le r.n r.terms (omega (arith, s.few, s.room)) in
      ap is_not (sym (get_or-take r.n r.terms j no_term h))
      ∙ not-true _ (all_get (λ t. not (is_not t)) (take r.n r.terms) no_term j e (omega (arith, size)))

  -- A rule of a book that only grows adds,
  pub growing_op : growing r ≡ true → (r.op ≡ 1) ⊎ ((r.op ≡ 3) ⊎ (r.op ≡ 5))
  unfolding growing
  growing_op e =
      or_either (eqb r.op 1) (eqb r.op 3 || eqb r.op 5)
      (and_both (eqb r.op 1 || (eqb r.op 3 || eqb r.op 5))
      (all (λ t. is_not t || (eqb t.kind 1 || eqb t.kind 3)) (take r.n r.terms)) e).0
      (λ i. inl (eqb-true r.op 1 i))
      (λ i. inr (or_either (eqb r.op 3) (eqb r.op 5) i (λ k. inl (eqb-true r.op 3 k)) (λ k. inr (eqb-true r.op 5 k))))

  -- and its terms are of kinds 01, 03, 81 and 83.
  pub growing_at : Short r → growing r ≡ true → (j : ℕ) → j < r.n
      → let t = get_or r.terms j no_term in (t.kind ≡ 1) ⊎ ((t.kind ≡ 3) ⊎ ((t.kind ≡ 129) ⊎ (t.kind ≡ 131)))
  unfolding growing
  growing_at s e j h =
      let p : Term → Bool = λ t. is_not t || (eqb t.kind 1 || eqb t.kind 3) in
      let size = length-take-le r.n r.terms (omega (arith, s.few, s.room)) in
      let terms = (and_both (eqb r.op 1 || (eqb r.op 3 || eqb r.op 5)) (all p (take r.n r.terms)) e).1 in
      of-term (get_or r.terms j no_term)
      (ap p (sym (get_or-take r.n r.terms j no_term h)) ∙ all_get p (take r.n r.terms) no_term j terms (omega (arith, size)))
    where
      of-term : (t : Term) → (is_not t || (eqb t.kind 1 || eqb t.kind 3)) ≡ true
          → (t.kind ≡ 1) ⊎ ((t.kind ≡ 3) ⊎ ((t.kind ≡ 129) ⊎ (t.kind ≡ 131)))
      of-term t f =
          or_either (is_not t) (eqb t.kind 1 || eqb t.kind 3) f (λ i. inr (inr (not_kinds t i)))
          (λ i. or_either (eqb t.kind 1) (eqb t.kind 3) i (λ k. inl (eqb-true t.kind 1 k)) (λ k. inr (inl (eqb-true t.kind 3 k))))

-- Two rules have one key where op, a and v are the same.
module _ (r s : Rule) where
  pub same_key_lem : same_key r s ≡ true → (r.op ≡ s.op) × ((r.a ≡ s.a) × (r.v ≡ s.v))
  unfolding same_key
  same_key_lem e =
      let head = and_both (eqb r.op s.op) (eqb r.a s.a && eqb r.v s.v) e in
      let rest = and_both (eqb r.a s.a) (eqb r.v s.v) head.1 in
      (eqb-true r.op s.op head.0, (eqb-true r.a s.a rest.0, eqb-true r.v s.v rest.1))

  pub key_same : r.op ≡ s.op → r.a ≡ s.a → r.v ≡ s.v → same_key r s ≡ true
  unfolding same_key
  key_same e f g = rw (eq-eqb r.op s.op e, eq-eqb r.a s.a f, eq-eqb r.v s.v g) refl

key_turned : (r s : Rule) → same_key r s ≡ true → same_key s r ≡ true
key_turned r s e = let same = same_key_lem r s e in key_same s r (sym same.0) (sym same.1.0) (sym same.1.1)

-- ---------------------------------------------------------------- a list of rules

pub none-plain : true ≡ all_plain []
unfolding all_plain all
none-plain = refl

-- One rule more behind the others.
pub plain_more : (rs : List Rule) (r : Rule) (b : Bool) → b ≡ all_plain rs → b && plain r ≡ all_plain (rs ++ (r ∷ []))
unfolding all_plain
plain_more rs r b e = ap (λ (u : Bool). u && plain r) e ∙ sym (all_behind plain rs r)

-- Each rule of a plain list is plain.
pub plain_each : (rs : List Rule) (d : Rule) (i : ℕ) → all_plain rs ≡ true → i < length rs → plain (get_or rs i d) ≡ true
unfolding all_plain
plain_each rs d i e h = all_get plain rs d i e h

-- Where no key is given twice, two places with one key are one place.
pub once_at : (rs : List Rule) (d : Rule) → twice rs ≡ false → (i j : ℕ) → i < length rs → j < length rs
    → same_key (get_or rs i d) (get_or rs j d) ≡ true → i ≡ j
unfolding twice
once_at [] d e i j h k s = absurd (omega arith)
once_at (r ∷ rs) d e zero zero h k s = refl
once_at (r ∷ rs) d e zero (suc j) h k s =
    absurd (true≢false (sym s ∙ any_get (same_key r) rs d j (or_neither (any (same_key r) rs) (twice rs) e) (omega arith)))
once_at (r ∷ rs) d e (suc i) zero h k s =
    absurd (true≢false
    (sym (key_turned (get_or rs i d) r s) ∙ any_get (same_key r) rs d i (or_neither (any (same_key r) rs) (twice rs) e) (omega arith)))
once_at (r ∷ rs) d e (suc i) (suc j) h k s = ap suc (once_at rs d (or-none (any (same_key r) rs) (twice rs) e) i j (omega arith) (omega arith) s)

-- A key is given twice where the first rule's is, or one of those behind it; d stands for a rule past the list's end.
pub twice_turn : (rs : List Rule) (d : Rule) → 1 ≤ length rs
    → let behind = take (length rs - 1) (drop 1 rs) in twice rs ≡ (any (same_key (get_or rs 0 d)) behind || twice behind)
unfolding twice
twice_turn [] d h = absurd (omega arith)
twice_turn (r ∷ rs) d h = rw (take_all (length (r ∷ rs) - 1) rs (omega arith)) refl

pub twice_none : (rs : List Rule) → length rs < 1 → twice rs ≡ false
unfolding twice
twice_none [] h = refl
twice_none (r ∷ rs) h = absurd (omega arith)

-- ---------------------------------------------------------------- both refusals

-- A book without "not" terms breaks no limit, and every mode but 03 is right for it.
module _ (rs : List Rule) (is : all_plain rs ≡ true) where
  pub plain-within : beyond_not rs ≡ false
  unfolding beyond_not
  plain-within = rw is refl

  pub plain_right : (mode : ℕ) → eqb mode 3 ≡ false → wrong_mode rs mode ≡ false
  unfolding wrong_mode
  plain_right mode e = rw (e, is) refl

-- An accepted book: in modes 01 and 02 it has no "not" term; in mode 03 its rules keep the limits.
module _ (t : Contents) (ok : Admitted t) where
  pub plain_mode : eqb t.query.mode 3 ≡ false → all_plain t.rules ≡ true
  unfolding wrong_mode
  plain_mode e = not-false (all_plain t.rules) (rw e at ok.right_mode)

  pub grows_mode : t.query.mode ≡ 3 → (all growing t.rules ≡ true) × (twice t.rules ≡ false)
  unfolding wrong_mode beyond_not
  grows_mode is =
      let marked : all_plain t.rules ≡ false = rw (eq-eqb t.query.mode 3 is) at ok.right_mode in
      let other = not (all growing t.rules) in
      let within : (other || twice t.rules) ≡ false = rw marked at ok.within_not in
      (not-false _ (or_neither other (twice t.rules) within), or-none other (twice t.rules) within)
