-- What a rule within the sizes says, field by field.
use mathlib.Core.Path.{◌≡◌}
use mathlib.Core.Logic.{◌⊎◌, inl, inr, ⊎_elim}
use mathlib.Core.Bool.{true, ◌&&◌, ◌||◌}
use Prim.Native.Nat.{ℕ, ◌≤◌, ◌<◌}
use native.Mathlib.Omega.{arith}
use lib.Dec.{eqb, leb}
use borrow.Author.Tests.{leb-true, ltb-true, eqb-true}
use Rattle.sizes.specs.declared.Sizes.{Sizes}
use Rattle.gate.specs.Gate.{head_good, asks_value, asks_crew}
use Rattle.sizes.specs.Sizes.{between, is_crew, is_value, is_crew_field}
use Rattle.sizes.specs.Inner.Ranges.{InRange}
use Rattle.quantifiers.specs.Quantifiers.{all_below}
use Rattle.sizes.proofs.SizeLaws.{between-true}
use Rattle.quantifiers.proofs.BoolLaws.{and_both, or_cases}
use Rattle.quantifiers.proofs.BelowLaws.{all_at}
use Rattle.frames.specs.declared.Rule.{Rule}
use Rattle.frames.specs.Inner.Fits.{term_of, term_fits, rule_fits}

-- The parts of a rule within the sizes.
pub record Parts (z : Sizes) (r : Rule) : Type 0 where
  pub aims : ((between 1 4 r.op ≡ true) × (is_value z r.a r.v ≡ true)) ⊎ ((between 5 6 r.op ≡ true) × (is_crew_field z r.a r.v ≡ true))
  pub role : leb r.role.0 15 ≡ true
  pub kinds : (j : ℕ) → j < r.n → (asks_value (term_of r j).kind ≡ true) ⊎ (asks_crew (term_of r j).kind ≡ true)
  pub own : r.op ≤ 4 → (j : ℕ) → j < r.n → asks_value (term_of r j).kind ≡ true

pub rule_parts : (z : Sizes) (r : Rule) → rule_fits z r ≡ true → Parts z r
unfolding rule_fits
rule_parts z r e =
    let on_value = between 1 4 r.op && is_value z r.a r.v in
    let on-crew = between 5 6 r.op && is_crew_field z r.a r.v in
    let head-good = head_good z r.op r.role.0 r.a r.v r.n in
    let terms-fit = all_below (term_fits z r) r.n in
    let terms-own = all_below (λ j. asks_value (term_of r j).kind) r.n in
    let three = and_both (head-good && terms-fit) (leb 5 r.op || terms-own) e in
    let two = and_both head-good terms-fit three.0 in
    let head = and_both ((on_value || on-crew) && leb r.role.0 15) (leb r.n 8) two.0 in
    let first = and_both (on_value || on-crew) (leb r.role.0 15) head.0 in
    record {
      aims = ⊎_elim
          (λ x. inl (and_both (between 1 4 r.op) (is_value z r.a r.v) x))
          (λ x. inr (and_both (between 5 6 r.op) (is_crew_field z r.a r.v) x))
          (or_cases on_value on-crew first.0);
      role = first.1;
      kinds = λ j l. kind-of j (all_at (term_fits z r) r.n j two.1 l);
      own = λ few j l. ⊎_elim
          (λ x. absurd (omega (arith, leb-true 5 r.op x)))
          (λ x. all_at (λ j. asks_value (term_of r j).kind) r.n j x l)
          (or_cases (leb 5 r.op) terms-own three.1);
    }
  where
    kind-of : (j : ℕ) → term_fits z r j ≡ true → (asks_value (term_of r j).kind ≡ true) ⊎ (asks_crew (term_of r j).kind ≡ true)
    kind-of j x =
        let kind = (term_of r j).kind in
        let value = is_value z (term_of r j).a (term_of r j).v in
        let crew = is_crew_field z (term_of r j).a (term_of r j).v in
        ⊎_elim
        (λ y. inl (and_both (asks_value kind) value y).0)
        (λ y. inr (and_both (asks_crew kind) crew y).0)
        (or_cases (asks_value kind && value) (asks_crew kind && crew) x)

module _ (z : Sizes) (range : InRange z) where
  -- A crew of the book is below 32.
  pub crew_low : (a v : ℕ) → is_crew_field z a v ≡ true → (a < 32) × (v ≡ 0)
  crew_low a v e =
      let both = and_both (is_crew z a) (eqb v 0) e in
      (omega (arith, ltb-true a z.crews both.0, range.crews_most), eqb-true v 0 both.1)

  -- A rule of op 01-04 names a value, one of op 05 or 06 a crew.
  pub rule_value : (r : Rule) → Parts z r → r.op ≤ 4 → is_value z r.a r.v ≡ true
  rule_value r p few = ⊎_elim (λ x. x.1) (λ x. absurd (omega (arith, (between-true 5 6 r.op x.0).0))) p.aims

  pub rule_crew : (r : Rule) → Parts z r → 5 ≤ r.op → is_crew_field z r.a r.v ≡ true
  rule_crew r p many = ⊎_elim (λ x. absurd (omega (arith, (between-true 1 4 r.op x.0).1))) (λ x. x.1) p.aims
