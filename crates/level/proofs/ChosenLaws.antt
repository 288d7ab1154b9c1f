-- Laws of the moves that the chosen rules become, rule by rule.
use mathlib.Core.Path.{◌≡◌, refl, sym, ◌∙◌}
use mathlib.Core.Logic.{dite, ◌⊎◌, inl, inr, ⊎_elim}
use mathlib.Core.Bool.{Bool, true, false, ◌||◌, true≢false}
use Prim.Native.Nat.{ℕ, ◌+◌, ◌<◌}
use native.Mathlib.Decide.{ℕ_discrete}
use native.Mathlib.Omega.{arith}
use borrow.Author.Tests.{eq-eqb, ne_eqb, eqb-true}
use lib.Dec.{eqb}
use mathlib.Core.List.{List}
use Rattle.level.specs.Inner.Moves.{Moves, Sound, moves_in, move_at}
use Rattle.level.specs.Inner.Terms.{MoveOf}
use Rattle.level.specs.declared.Move.{Move}
use Rattle.frames.specs.declared.Rule.{Rule}
use Rattle.frames.specs.declared.Rules.{Rules}
use Rattle.quantifiers.proofs.BoolLaws.{and_both}
use Rattle.sets.specs.Sets.{member}
use Rattle.level.specs.Inner.Chosen.{GoodRules, MovesOf, MovePut, chosen_in, rule_at}

-- The first k moves of a buffer.
abbrev pub first_moves : ℕ → List ℕ → Moves
first_moves k xs = record { count = k; numbers = xs }

module _ {rs : Rules} {one two : ℕ} {roles : ℕ} {n : ℕ} {xs : List ℕ} {i : ℕ} (w : MovesOf rs one two roles (first_moves n xs) i) (h : i < rs.count) where
  -- A chosen rule gives one move more.
  pub moves_more : {m : Move} {ys : List ℕ} → chosen_in one two roles (rule_at rs i) ≡ true → MoveOf (rule_at rs i) m → MovePut xs n m ys
      → MovesOf rs one two roles (first_moves (n + 1) ys) (i + 1)
  unfolding move_at
  moves_more {m} {ys} e o p = record {
    fits = omega arith;
    few = omega (arith, w.few);
    each = λ k l. dite (ℕ_discrete k n)
        (λ (q : k ≡ n). (i, omega arith, e, rw (q, p.here) o))
        (λ (q : k ≡ n → ⊥). let l' : k < n = omega arith in let (j, lj, ej, oj) = w.each k l' in (j, omega arith, ej, rw (p.there k l') oj));
    every = λ j l f. dite (ℕ_discrete j i)
        (λ (q : j ≡ i). (n, omega arith, rw (q, p.here) o))
        (λ (q : j ≡ i → ⊥). let (k, lk, ok) = w.every j (omega arith) f in (k, omega arith, rw (p.there k lk) ok));
  }

  -- Any other rule gives none.
  pub moves_skip : chosen_in one two roles (rule_at rs i) ≡ false → MovesOf rs one two roles (first_moves n xs) (i + 1)
  moves_skip e = record {
    fits = omega arith;
    few = omega (arith, w.few);
    each = λ k l. let (j, lj, ej, oj) = w.each k l in (j, omega arith, ej, oj);
    every = λ j l f. dite (ℕ_discrete j i) (λ (q : j ≡ i). absurd (true≢false (sym f ∙ rw q e))) (λ (q : j ≡ i → ⊥). w.every j (omega arith) f);
  }

-- The moves that a part of a buffer writes are sound.
pub moves_sound : {rs : Rules} {one two : ℕ} {roles : ℕ} {xs : List ℕ} → GoodRules rs → MovesOf rs one two roles (moves_in xs) rs.count → Sound (moves_in xs)
moves_sound g w = record { few = omega (arith, w.few, g.few); room = omega arith; fine = λ k l. (w.each k l).3.fine }

module _ (one two : ℕ) (roles : ℕ) (r : Rule) where
  -- A rule of the first op is chosen by its role.
  pub chosen_one : r.op ≡ one → member roles r.role.0 ≡ chosen_in one two roles r
  unfolding chosen_in
  chosen_one e = rw (eq-eqb r.op one e)

  -- A rule of the second op is chosen by its role.
  pub chosen_two : (r.op ≡ one → ⊥) → r.op ≡ two → member roles r.role.0 ≡ chosen_in one two roles r
  unfolding chosen_in
  chosen_two n e = rw (ne_eqb r.op one n, eq-eqb r.op two e)

  -- A rule of another op is not chosen.
  pub chosen_none : (r.op ≡ one → ⊥) → (r.op ≡ two → ⊥) → false ≡ chosen_in one two roles r
  unfolding chosen_in
  chosen_none n e = rw (ne_eqb r.op one n, ne_eqb r.op two e)

-- A chosen rule has one of the two ops, and its role is one of the roles.
pub chosen_parts : (one two roles : ℕ) (r : Rule) → chosen_in one two roles r ≡ true → ((r.op ≡ one) ⊎ (r.op ≡ two)) × (member roles r.role.0 ≡ true)
unfolding chosen_in
chosen_parts one two roles r e =
    let both = and_both (eqb r.op one || eqb r.op two) (member roles r.role.0) e in
    (either (eqb r.op one) refl both.0, both.1)
  where
    either : (b : Bool) → eqb r.op one ≡ b → (b || eqb r.op two) ≡ true → (r.op ≡ one) ⊎ (r.op ≡ two)
    either true q f = inl (eqb-true r.op one q)
    either false q f = inr (eqb-true r.op two f)

-- A rule with one of the two ops and one of the roles is chosen.
pub chosen_from : (one two roles : ℕ) (r : Rule) → ((r.op ≡ one) ⊎ (r.op ≡ two)) → member roles r.role.0 ≡ true → chosen_in one two roles r ≡ true
chosen_from one two roles r o m =
    dite (ℕ_discrete r.op one)
    (λ (e : r.op ≡ one). sym (chosen_one one two roles r e) ∙ m)
    (λ (n : r.op ≡ one → ⊥). ⊎_elim (λ (e : r.op ≡ one). absurd (n e)) (λ (e : r.op ≡ two). sym (chosen_two one two roles r n e) ∙ m) o)
