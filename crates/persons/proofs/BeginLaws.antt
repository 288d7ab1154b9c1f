-- The persons' starting facts, one person after another.
use mathlib.Core.Path.{◌≡◌, refl, ap, sym, subst, ◌∙◌}
use mathlib.Core.Logic.{dite}
use mathlib.Core.Bool.{Bool, false, ◌||◌}
use mathlib.Core.List.{List}
use Prim.Native.Nat.{ℕ, ◌+◌, ◌*◌, ◌%◌, ◌^◌, ◌≤◌, ◌<◌}
use native.Mathlib.Decide.{ℕ_discrete, dec_lt}
use native.Mathlib.Omega.{arith}
use lib.Bits.{bit_or}
use lib.Dec.{ltb, eqb}
use lib.ListN.{get_or}
use borrow.Author.Tests.{lt-ltb, le-ltb, eq-eqb, ne_eqb}
use Rattle.sets.specs.Sets.{member}
use Rattle.sets.proofs.SetLaws.{member-zero}
use Rattle.words.specs.Inner.Words.{ColumnClear, ColumnPut}
use Rattle.words.proofs.WordLaws.{member-or, member_one, column_at}
use Rattle.persons.specs.Inner.Persons.{Begins, NoFlags, Begun}

-- The first n persons begin with their starting facts, and nobody else shows anything.
pub record BegunSoFar (facts : List ℕ) (crews : ℕ) (T : List Bool) (n all : ℕ) (ws : List ℕ) : Type 0 where
  pub begun : Begun facts crews T n all ws
  pub clear : (p k : ℕ) → n ≤ p → member (get_or ws k 0) p ≡ false

pub begun_first : (facts : List ℕ) (crews : ℕ) (T : List Bool) {ws : List ℕ} → NoFlags ws → BegunSoFar facts crews T 0 0 ws
begun_first facts crews T {ws} nobody = record {
  begun = record { size = nobody.size; persons = λ p. member-zero p ∙ sym (le-ltb p 0 (omega arith)); each = λ p l. absurd (omega arith) };
  clear = λ p k l. ap (λ (w : ℕ). member w p) (nobody.none k) ∙ member-zero p;
}

module _ {facts : List ℕ} {crews : ℕ} {T : List Bool} {n everyone : ℕ} {ws : List ℕ} (so_far : BegunSoFar facts crews T n everyone ws) where
  -- The next person shows nothing yet.
  pub next_clear : ColumnClear n ws
  next_clear = record { none = λ k. so_far.clear n k (omega arith) }

  pub begun_more : n < 64 → {s : List Bool} {after : List ℕ} → Begins facts crews n T s → ColumnPut n s ws after
      → BegunSoFar facts crews T (n + 1) (bit_or everyone (1 * 2 ^ n % 2 ^ 64)) after
  begun_more low {s} {after} begins put = record {
    begun = record {
      size = put.size ∙ so_far.begun.size;
      persons = λ p. member-or everyone (1 * 2 ^ n % 2 ^ 64) p ∙ ap (λ (b : Bool). b || member (1 * 2 ^ n % 2 ^ 64) p) (so_far.begun.persons p)
          ∙ ap (λ (b : Bool). ltb p n || b) (member_one n low p) ∙ wider p;
      each = λ p l. dite (ℕ_discrete p n)
          (λ (e : p ≡ n). rw e (subst (λ (x : List Bool). Begins facts crews n T x) (sym put.here) begins))
          (λ (o : p ≡ n → ⊥). subst (λ (x : List Bool). Begins facts crews p T x) (sym (put.there p o)) (so_far.begun.each p (omega arith)));
    };
    clear = λ p k l. sym (column_at after p k) ∙ ap (λ (x : List Bool). get_or x k false) (put.there p (omega arith)) ∙ column_at ws p k
        ∙ so_far.clear p k (omega arith);
  }
    where
      wider : (p : ℕ) → (ltb p n || eqb p n) ≡ ltb p (n + 1)
      wider p = dite (dec_lt p n)
          (λ (l : p < n). rw (lt-ltb p n l, lt-ltb p (n + 1) (omega arith)) refl)
          (λ (l : p < n → ⊥). rw (le-ltb p n (omega arith)) (dite (ℕ_discrete p n)
          (λ (e : p ≡ n). eq-eqb p n e ∙ sym (lt-ltb p (n + 1) (omega arith)))
          (λ (e : p ≡ n → ⊥). ne_eqb p n e ∙ sym (le-ltb p (n + 1) (omega arith)))))

  pub begun_all : {m : ℕ} → n ≡ m → Begun facts crews T m everyone ws
  begun_all e = subst (λ (i : ℕ). Begun facts crews T i everyone ws) e so_far.begun
