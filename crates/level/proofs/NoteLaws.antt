-- Laws of requests in a buffer: one more behind, one more in front, and what five bytes write.
use mathlib.Core.Path.{◌≡◌, refl, ap, ◌∙◌}
use mathlib.Core.Logic.{◌≢◌, ◌⊎◌, inl, inr, ⊎_elim, by_cases}
use native.Mathlib.Decide.{dec_lt}
use mathlib.Core.List.{List, [], ◌∷◌, ◌++◌}
use Prim.Native.Nat.{ℕ, zero, suc, ◌+◌, ◌*◌, ◌≤◌, ◌<◌}
use native.Mathlib.Omega.{arith}
use lib.ListN.{length, get_or, set, length-set}
use lib.Seq.{get_or-set_same, get_or-set_other}
use Rattle.theory.specs.Inner.Plan.{Ask}
use Rattle.level.specs.Inner.Moves.{Fine, ask_of}
use Rattle.level.specs.declared.Move.{Move}
use Rattle.level.specs.Inner.Notes.{Noted, ask_at, asks}

-- There are `n` requests.
pub asks-length : (out : List ℕ) (k n : ℕ) → length (asks out k n) ≡ n
unfolding asks
asks-length out k zero = refl
asks-length out k (suc n) = ap suc (asks-length out (suc k) n)

-- Buffers with the same requests there.
pub asks_same : (out out' : List ℕ) (k n : ℕ) → ((j : ℕ) → k ≤ j → j < k + n → ask_at out j ≡ ask_at out' j) → asks out k n ≡ asks out' k n
unfolding asks
asks_same out out' k zero h = refl
asks_same out out' k (suc n) h = rw (h k (omega arith) (omega arith), asks_same out out' (suc k) n (λ j l u. h j (omega arith) (omega arith)))

-- The last request apart.
pub asks_last : (out : List ℕ) (k n : ℕ) → asks out k (suc n) ≡ asks out k n ++ ask_at out (k + n) ∷ []
unfolding asks
asks_last out k zero = let e : k + 0 ≡ k = omega arith in rw e
asks_last out k (suc n) = let e : k + suc n ≡ suc k + n = omega arith in ap (λ l. ask_at out k ∷ l) (asks_last out (suc k) n ∙ rw e)

-- One more behind.
pub asks_more : {out out' : List ℕ} (k n : ℕ) {q : Ask} → Noted out (k + n) q out' → asks out' k (n + 1) ≡ asks out k n ++ q ∷ []
asks_more {out} {out'} k n {q} w =
    let e : n + 1 ≡ suc n = omega arith in
    rw e (asks_last out' k n ∙ rw (w.here, asks_same out' out k n (λ j l u. w.there j (omega arith))))

-- One more in front.
pub asks-front : {out out' : List ℕ} {k : ℕ} (n : ℕ) {q : Ask} → Noted out k q out' → asks out' k (n + 1) ≡ q ∷ asks out (k + 1) n
unfolding asks
asks-front {out} {out'} {k} n {q} w =
    let e : n + 1 ≡ suc n = omega arith in
    let e' : k + 1 ≡ suc k = omega arith in
    rw (e, e', w.here, asks_same out' out (suc k) n (λ j l u. w.there j (omega arith)))

-- A buffer with five bytes written.
abbrev pub fives : List ℕ → ℕ → ℕ → ℕ → ℕ → ℕ → ℕ → List ℕ
fives out at o r s a v = set (set (set (set (set out at o) (at + 1) r) (at + 2) s) (at + 3) a) (at + 4) v

module _ (out : List ℕ) (at o r s a v : ℕ) (room : at + 5 ≤ length out) where
  -- The buffer after each of the first four bytes.
  abbrev with_op : List ℕ
  with_op = set out at o

  abbrev with_role : List ℕ
  with_role = set with_op (at + 1) r

  abbrev with_subject : List ℕ
  with_subject = set with_role (at + 2) s

  abbrev with_a : List ℕ
  with_a = set with_subject (at + 3) a

  at_0 : get_or (fives out at o r s a v) at 0 ≡ o
  at_0 =
      get_or-set_other with_a (at + 4) at v 0 (omega arith)
      ∙ get_or-set_other with_subject (at + 3) at a 0 (omega arith)
      ∙ get_or-set_other with_role (at + 2) at s 0 (omega arith)
      ∙ get_or-set_other with_op (at + 1) at r 0 (omega arith)
      ∙ get_or-set_same out at o 0 (omega arith)

  at_1 : get_or (fives out at o r s a v) (at + 1) 0 ≡ r
  at_1 =
      get_or-set_other with_a (at + 4) (at + 1) v 0 (omega arith)
      ∙ get_or-set_other with_subject (at + 3) (at + 1) a 0 (omega arith)
      ∙ get_or-set_other with_role (at + 2) (at + 1) s 0 (omega arith)
      ∙ get_or-set_same with_op (at + 1) r 0 (simp length-set (omega arith))

  at_2 : get_or (fives out at o r s a v) (at + 2) 0 ≡ s
  at_2 =
      get_or-set_other with_a (at + 4) (at + 2) v 0 (omega arith)
      ∙ get_or-set_other with_subject (at + 3) (at + 2) a 0 (omega arith)
      ∙ get_or-set_same with_role (at + 2) s 0 (simp length-set (omega arith))

  at_3 : get_or (fives out at o r s a v) (at + 3) 0 ≡ a
  at_3 =
      get_or-set_other with_a (at + 4) (at + 3) v 0 (omega arith)
      ∙ get_or-set_same with_subject (at + 3) a 0 (simp length-set (omega arith))

  at_4 : get_or (fives out at o r s a v) (at + 4) 0 ≡ v
  at_4 = get_or-set_same with_a (at + 4) v 0 (simp length-set (omega arith))

  at_other : (j : ℕ) → (j < at) ⊎ (at + 5 ≤ j) → get_or (fives out at o r s a v) j 0 ≡ get_or out j 0
  at_other j h =
      get_or-set_other with_a (at + 4) j v 0 (apart 4 (omega arith))
      ∙ get_or-set_other with_subject (at + 3) j a 0 (apart 3 (omega arith))
      ∙ get_or-set_other with_role (at + 2) j s 0 (apart 2 (omega arith))
      ∙ get_or-set_other with_op (at + 1) j r 0 (apart 1 (omega arith))
      ∙ get_or-set_other out at j o 0 (λ e. apart 0 (omega arith) (omega arith))
    where
      apart : (i : ℕ) → i < 5 → j ≢ at + i
      apart i l e = ⊎_elim (λ (x : j < at). omega arith) (λ (x : at + 5 ≤ j). omega arith) h

-- Five bytes write a request and leave the others.
pub noted : (out : List ℕ) (k p : ℕ) (m : Move) → Fine m → 5 * k + 5 ≤ length out
    → Noted out k (ask_of p m) (fives out (5 * k) m.op m.role p m.a m.v)
unfolding ask_at
noted out k p m fine room = record {
  size = simp length-set refl;
  here = rw (
    at_0 out (5 * k) m.op m.role p m.a m.v room,
    at_1 out (5 * k) m.op m.role p m.a m.v room,
    at_2 out (5 * k) m.op m.role p m.a m.v room,
    at_3 out (5 * k) m.op m.role p m.a m.v room,
    at_4 out (5 * k) m.op m.role p m.a m.v room,
    fine.aim,
  ) refl;
  there = λ j n. rw (o₀ j n, o j n 1 (omega arith), o j n 2 (omega arith), o j n 3 (omega arith), o j n 4 (omega arith)) refl;
}
  where
    o₀ : (j : ℕ) → j ≢ k → get_or (fives out (5 * k) m.op m.role p m.a m.v) (5 * j) 0 ≡ get_or out (5 * j) 0
    o₀ j n = at_other out (5 * k) m.op m.role p m.a m.v room (5 * j) (by_cases (dec_lt j k) (λ h. inl (omega arith)) (λ h. inr (omega arith)))

    o : (j : ℕ) → j ≢ k → (i : ℕ) → i < 5 → get_or (fives out (5 * k) m.op m.role p m.a m.v) (5 * j + i) 0 ≡ get_or out (5 * j + i) 0
    o j n i l = at_other out (5 * k) m.op m.role p m.a m.v room (5 * j + i) (by_cases (dec_lt j k) (λ h. inl (omega arith)) (λ h. inr (omega arith)))
