-- Laws of what a subject shows: what one more fact adds, and the loops that write it.
use mathlib.Core.Path.{◌≡◌, refl, sym, ap, fun_ext, ◌∙◌}
use mathlib.Core.Logic.{◌≢◌, by_cases, dite}
use mathlib.Core.Bool.{Bool, true, false, not, cond, ◌&&◌, ◌||◌, or_assoc, or-false, or-true}
use mathlib.Core.List.{List}
use Prim.Native.Nat.{ℕ, zero, suc, ◌+◌, ◌-◌, ◌*◌, ◌≤◌, ◌<◌}
use native.Mathlib.Decide.{ℕ_discrete, dec_lt}
use native.Mathlib.Omega.{arith}
use lib.Dec.{eqb, ltb}
use lib.ListN.{length, get_or, set, length-set}
use lib.Seq.{get_or-set_same, get_or-set_other}
use borrow.Author.Tests.{ltb-true, lt-ltb, le-ltb, eq-eqb, ne_eqb}
use Rattle.quantifiers.proofs.BoolLaws.{and_both}
use Rattle.theory.specs.Inner.Facts.{State, update}
use Rattle.theory.proofs.FactLaws.{update_same, update_other, at}
use Rattle.shown.specs.Inner.Shown.{More, Put, Whole, WholeFacts, direct, extended, inherited, row, row_flags, visible, visible_fact, touches, touches_fact}
use Rattle.shown.proofs.ExtendedLaws.{extended_low, extended-or}
use Rattle.quantifiers.specs.Quantifiers.{any_below}

-- Below 160 the direct facts are the flags.
pub direct_low : (x : List Bool) (f : ℕ) → f < 160 → direct x f ≡ get_or x f false
unfolding direct
direct_low x f h = rw (lt-ltb f 160 h)

-- There is no direct fact from 160 on.
pub direct_high : (x : List Bool) (f : ℕ) → 160 ≤ f → direct x f ≡ false
unfolding direct
direct_high x f h = rw (le-ltb f 160 h)

-- A direct fact is below 160.
pub direct_in : (x : List Bool) (f : ℕ) → direct x f ≡ true → f < 160
unfolding direct
direct_in x f e = ltb-true f 160 (and_both (ltb f 160) (get_or x f false) e).0

put-or : (S : State) (f g : ℕ) → update S f true g ≡ S g || eqb g f
put-or S f g =
    at (λ g. update S f true g ≡ S g || eqb g f) f g (update_same S f true ∙ sym (rw (eq-eqb f f refl) (or-true (S f))))
    (λ n. update_other S f true n ∙ sym (rw (ne_eqb g f n) (or-false (S g))))

-- Putting a membership in adds that crew's row.
any-put : (S : State) (f : ℕ) (r : ℕ → Bool) (n : ℕ)
    → any_below (λ c. update S f true (128 + c) && r c) n ≡ any_below (λ c. S (128 + c) && r c) n || (not (ltb f 128) && (ltb (f - 128) n && r (f - 128)))
unfolding any_below
any-put S f r zero = let z : ltb (f - 128) 0 ≡ false = le-ltb (f - 128) 0 (omega arith) in rw z (go (ltb f 128))
  where
    go : (b : Bool) → false ≡ false || (not b && (false && r (f - 128)))
    go true = refl
    go false = refl
any-put S f r (suc n) =
    dite (ℕ_discrete (128 + n) f)
    (λ (e : 128 + n ≡ f).
    let a : ltb f 128 ≡ false = le-ltb f 128 (omega arith) in
    let b : ltb (f - 128) n ≡ false = le-ltb (f - 128) n (omega arith) in
    let d : ltb (f - 128) (suc n) ≡ true = lt-ltb (f - 128) (suc n) (omega arith) in
    let g : n ≡ f - 128 = omega arith in
    let h : update S f true (128 + n) ≡ true = ap (update S f true) e ∙ update_same S f true in
    rw (any-put S f r n, a, b, d, h, g) (here (any_below (λ c. S (128 + c) && r c) (f - 128)) (S (128 + (f - 128))) (r (f - 128))))
    (λ (e : 128 + n ≡ f → ⊥).
    let h : update S f true (128 + n) ≡ S (128 + n) = update_other S f true e in
    rw (any-put S f r n, h)
    (by_cases (dec_lt f 128) (λ l. rw (lt-ltb f 128 l) (there (any_below (λ c. S (128 + c) && r c) n) (S (128 + n) && r n) false))
    (λ l. rw (same f n (omega arith)) (there (any_below (λ c. S (128 + c) && r c) n) (S (128 + n) && r n)
    (not (ltb f 128) && (ltb (f - 128) n && r (f - 128)))))))
  where
    here : (a s b : Bool) → (a || false) || b ≡ (a || (s && b)) || b
    here true s b = refl
    here false true true = refl
    here false true false = refl
    here false false b = refl

    there : (a b c : Bool) → (a || c) || b ≡ (a || b) || c
    there true b c = refl
    there false true true = refl
    there false true false = refl
    there false false true = refl
    there false false false = refl

    same : (f n : ℕ) → f - 128 ≢ n → ltb (f - 128) (suc n) ≡ ltb (f - 128) n
    same f n e =
        by_cases (dec_lt (f - 128) n) (λ l. lt-ltb (f - 128) (suc n) (omega arith) ∙ sym (lt-ltb (f - 128) n l))
        (λ l. le-ltb (f - 128) (suc n) (omega arith) ∙ sym (le-ltb (f - 128) n (omega arith)))

-- What is shown once `f` is put in: what was shown, and what `f` adds.
visible_fact-put : (T : List Bool) (S : State) (f k : ℕ) → f < 160 → visible_fact T (update S f true) k ≡ visible_fact T S k || touches_fact T f k
unfolding visible_fact touches_fact inherited
visible_fact-put T S f k h = go (ltb k 160)
  where
    few : (not (ltb f 128) && (ltb (f - 128) 32 && row T (f - 128) (k - 160))) ≡ (not (ltb f 128) && row T (f - 128) (k - 160))
    few = let l : f - 128 < 32 = omega arith in rw (lt-ltb (f - 128) 32 l)

    mix : (s e a p q : Bool) → (s || e) || (a || (p || q)) ≡ (s || (a || p)) || (e || q)
    mix true e a p q = refl
    mix false e true p q = or-true e
    mix false true false p q = sym (or-true p)
    mix false false false p q = refl

    go : (b : Bool)
        → cond b (update S f true k)
        (update S f true (k - 160) || (row T 32 (k - 160) || any_below (λ c. update S f true (128 + c) && row T c (k - 160)) 32))
        ≡ cond b (S k) (S (k - 160) || (row T 32 (k - 160) || any_below (λ c. S (128 + c) && row T c (k - 160)) 32))
        || cond b (eqb k f) (eqb (k - 160) f || (not (ltb f 128) && row T (f - 128) (k - 160)))
    go true = put-or S f k
    go false =
        rw (put-or S f (k - 160), any-put S f (λ c. row T c (k - 160)) 32, few)
        (mix (S (k - 160)) (eqb (k - 160) f) (row T 32 (k - 160)) (any_below (λ c. S (128 + c) && row T c (k - 160)) 32)
        (not (ltb f 128) && row T (f - 128) (k - 160)))

pub visible-put : (T : List Bool) (S : State) (f k : ℕ) → f < 160 → visible T (update S f true) k ≡ visible T S k || touches T f k
unfolding visible touches
visible-put T S f k h =
    ap (λ (g : ℕ → Bool). extended g k) (fun_ext λ j. visible_fact-put T S f j h) ∙ extended-or (visible_fact T S) (touches_fact T f) k

-- A flag more below place 160 is a direct fact more.
more_direct : (x z : List Bool) {f : ℕ} → ((g : ℕ) → g < 160 → get_or z g false ≡ get_or x g false || eqb g f) → f < 160
    → direct z ≡ update (direct x) f true
more_direct x z {f} flags h = fun_ext λ g. dite (dec_lt g 160)
    (λ (l : g < 160). direct_low z g l ∙ flags g l ∙ ap (λ b. b || eqb g f) (sym (direct_low x g l)) ∙ sym (put-or (direct x) f g))
    (λ (l : g < 160 → ⊥). direct_high z g (omega arith) ∙ sym (update_other (direct x) f true (λ e. l (omega arith)) ∙ direct_high x g (omega arith)))

-- What a fact adds below place 160 is itself.
touches_fact_low : (T : List Bool) (f k : ℕ) → k < 160 → touches_fact T f k ≡ eqb k f
unfolding touches_fact
touches_fact_low T f k l = rw (lt-ltb k 160 l) refl

touches_low : (T : List Bool) (f k : ℕ) → k < 160 → touches T f k ≡ eqb k f
unfolding touches
touches_low T f k l = extended_low (touches_fact T f) k (omega arith) ∙ touches_fact_low T f k l

-- With `f` put in, `f` is a direct fact more.
pub put-direct : {T x z : List Bool} {f : ℕ} → Put T x f z → f < 160 → direct z ≡ update (direct x) f true
put-direct {T} {x} {z} {f} p h =
    more_direct x z (λ g l. p.flags g (omega arith) ∙ ap (λ (b : Bool). get_or x g false || b) (touches_low T f g l)) h

pub put_fact-direct : (T : List Bool) {x z : List Bool} (f : ℕ) → More x (touches_fact T f) z → f < 160 → direct z ≡ update (direct x) f true
put_fact-direct T {x} {z} f p h =
    more_direct x z (λ g l. p.flags g (omega arith) ∙ ap (λ (b : Bool). get_or x g false || b) (touches_fact_low T f g l)) h

-- Flags with a fact put in are whole again.
pub put_whole : {T x z : List Bool} {f : ℕ} → Whole T x → Put T x f z → f < 160 → Whole T z
put_whole {T} {x} {z} {f} w p h = record {
  size = p.size ∙ w.size;
  rows = w.rows;
  shows = λ k l. p.flags k l ∙ ap (λ b. b || touches T f k) (w.shows k l) ∙ sym (visible-put T (direct x) f k h)
      ∙ ap (λ S. visible T S k) (sym (put-direct p h));
}

-- So are the flags of facts.
pub put_whole_facts : {T x z : List Bool} (f : ℕ) → WholeFacts T x → More x (touches_fact T f) z → f < 160 → WholeFacts T z
put_whole_facts {T} {x} {z} f w p h = record {
  size = p.size ∙ w.size;
  rows = w.rows;
  shows = λ k l. p.flags k l ∙ ap (λ b. b || touches_fact T f k) (w.shows k l) ∙ sym (visible_fact-put T (direct x) f k h)
      ∙ ap (λ S. visible_fact T S k) (sym (put_fact-direct T f p h));
}

-- What a fact adds at the first 320 places, in four cases.
module _ (T : List Bool) (f k : ℕ) where
  -- A place of a direct fact: the fact itself.
  fact_direct : k < 160 → eqb k f ≡ touches_fact T f k
  fact_direct l = sym (touches_fact_low T f k l)

  -- The fact's own effective place.
  fact_own : 160 ≤ k → k - 160 ≡ f → true ≡ touches_fact T f k
  unfolding touches_fact
  fact_own l e = rw (le-ltb k 160 l, eq-eqb (k - 160) f e)

  -- A value adds nothing else.
  fact_value : 160 ≤ k → (k - 160 ≡ f → ⊥) → f < 128 → false ≡ touches_fact T f k
  unfolding touches_fact
  fact_value l e h = rw (le-ltb k 160 l, ne_eqb (k - 160) f e, lt-ltb f 128 h)

  -- A membership adds what its crew hands on.
  fact_row : 160 ≤ k → (k - 160 ≡ f → ⊥) → 128 ≤ f → get_or T (160 * (f - 128) + (k - 160)) false ≡ touches_fact T f k
  unfolding touches_fact row
  fact_row l e h = rw (le-ltb k 160 l, ne_eqb (k - 160) f e, le-ltb f 128 h)

  -- The same of all places, as long as they are below 320.
  at_fact : k < 320 → touches_fact T f k ≡ touches T f k
  unfolding touches
  at_fact m = sym (extended_low (touches_fact T f) k m)

  pub touch_direct : k < 160 → eqb k f ≡ touches T f k
  touch_direct l = fact_direct l ∙ at_fact (omega arith)

  pub touch_own : 160 ≤ k → k < 320 → k - 160 ≡ f → true ≡ touches T f k
  touch_own l m e = fact_own l e ∙ at_fact m

  pub touch_value : 160 ≤ k → k < 320 → (k - 160 ≡ f → ⊥) → f < 128 → false ≡ touches T f k
  touch_value l m e h = fact_value l e h ∙ at_fact m

  pub touch_row : 160 ≤ k → k < 320 → (k - 160 ≡ f → ⊥) → 128 ≤ f → get_or T (160 * (f - 128) + (k - 160)) false ≡ touches T f k
  touch_row l m e h = fact_row l e h ∙ at_fact m

-- What the loop over a row keeps.
pub record RowSoFar (T : List Bool) (c : ℕ) (x z : List Bool) (i : ℕ) : Type 0 where
  pub size : length z ≡ length x
  pub fits : i ≤ 160
  pub done : (k : ℕ) → k < 160 + i → get_or z k false ≡ get_or x k false || row_flags T c k
  pub rest : (k : ℕ) → 160 + i ≤ k → get_or z k false ≡ get_or x k false

or_no : (b : Bool) → b ≡ b || false
or_no b = sym (or-false b)

-- Before the first flag of a row.
pub row-none : (T : List Bool) (c : ℕ) (x : List Bool) → RowSoFar T c x x 0
unfolding row_flags
row-none T c x =
    record {
      size = refl;
      fits = omega arith;
      done = λ k l. let h : k < 160 = omega arith in rw (lt-ltb k 160 h) (or_no (get_or x k false));
      rest = λ k l. refl;
    }

-- One flag of a row more.
pub row_more : {T : List Bool} {c : ℕ} {x z : List Bool} {i : ℕ} (b : Bool) → RowSoFar T c x z i → i < 160 → length x ≡ 448
    → b ≡ get_or z (160 + i) false || get_or T (160 * c + i) false → RowSoFar T c x (set z (160 + i) b) (i + 1)
unfolding row_flags row
row_more {T} {c} {x} {z} {i} b r h s e = record {
  size = rw length-set r.size;
  fits = omega arith;
  done = λ k l. at (λ k. k < 160 + (i + 1) → get_or (set z (160 + i) b) k false
      ≡ get_or x k false || (not (ltb k 160) && get_or T (160 * c + (k - 160)) false)) (160 + i) k
      (λ _. get_or-set_same z (160 + i) b false (omega (arith, r.size)) ∙ e
      ∙ rw (r.rest (160 + i) (omega arith), le-ltb (160 + i) 160 (omega arith), (shift i)))
      (λ n l'. get_or-set_other z (160 + i) k b false n ∙ r.done k (omega arith)) l;
  rest = λ k l. get_or-set_other z (160 + i) k b false (omega arith) ∙ r.rest k (omega arith);
}
  where
    shift : (i : ℕ) → 160 + i - 160 ≡ i
    shift i = omega arith

-- After the last flag of a row.
pub row-all : {T : List Bool} {c : ℕ} {x z : List Bool} {i : ℕ} → RowSoFar T c x z i → 160 ≤ i → More x (row_flags T c) z
row-all r h = record { size = r.size; flags = λ k l. r.done k (omega arith); rest = λ k l. r.rest k (omega (arith, r.fits)) }

-- Two flags set: the fact itself, and that it is effective.
set-two : (x : List Bool) (f k : ℕ) → f < 160 → length x ≡ 448
    → get_or (set (set x f true) (160 + f) true) k false ≡ get_or x k false || (eqb k f || eqb k (160 + f))
set-two x f k h s = at (λ k. get_or (set (set x f true) (160 + f) true) k false ≡ get_or x k false || (eqb k f || eqb k (160 + f))) (160 + f) k
    (get_or-set_same (set x f true) (160 + f) true false (rw length-set (omega arith))
    ∙ sym (rw (eq-eqb (160 + f) (160 + f) refl) (or_tt (get_or x (160 + f) false) (eqb (160 + f) f))))
    (λ n. get_or-set_other (set x f true) (160 + f) k true false n
    ∙ at (λ k. k ≢ 160 + f → get_or (set x f true) k false ≡ get_or x k false || (eqb k f || eqb k (160 + f))) f k
    (λ _. get_or-set_same x f true false (omega arith) ∙ sym (rw (eq-eqb f f refl) (or_tf (get_or x f false) (eqb f (160 + f)))))
    (λ n' n. get_or-set_other x f k true false n' ∙ rw (ne_eqb k f n', ne_eqb k (160 + f) n) (or_no (get_or x k false))) n)
  where
    or_tt : (a b : Bool) → a || (b || true) ≡ true
    or_tt true b = refl
    or_tt false true = refl
    or_tt false false = refl

    or_tf : (a b : Bool) → a || (true || b) ≡ true
    or_tf true b = refl
    or_tf false b = refl

-- From place 320 on they change nothing.
set-none : (x : List Bool) (f k : ℕ) → f < 160 → 320 ≤ k → length x ≡ 448 → get_or (set (set x f true) (160 + f) true) k false ≡ get_or x k false
set-none x f k h l s =
    get_or-set_other (set x f true) (160 + f) k true false (omega arith) ∙ get_or-set_other x f k true false (omega arith)

-- The two flags are what a value touches; with the row, what a membership touches.
touch_two : (T : List Bool) (f k : ℕ) → f < 128 → k < 320 → (eqb k f || eqb k (160 + f)) ≡ touches_fact T f k
touch_two T f k h l = dite (dec_lt k 160)
    (λ (m : k < 160). rw (ne_eqb k (160 + f) (omega arith), ← fact_direct T f k m) (sym (or_no (eqb k f))))
    (λ (m : k < 160 → ⊥). dite (ℕ_discrete k (160 + f))
    (λ (e : k ≡ 160 + f). rw (eq-eqb k (160 + f) e, ne_eqb k f (omega arith)) (fact_own T f k (omega arith) (omega arith)))
    (λ (e : k ≡ 160 + f → ⊥). rw (ne_eqb k (160 + f) e, ne_eqb k f (omega arith)) (fact_value T f k (omega arith) (λ q. e (omega arith)) h)))

rowed : (T : List Bool) (f k : ℕ) → row T (f - 128) (k - 160) ≡ get_or T (160 * (f - 128) + (k - 160)) false
unfolding row
rowed T f k = refl

touch_three : (T : List Bool) (f k : ℕ) → 128 ≤ f → f < 160 → k < 320 → (eqb k f || eqb k (160 + f)) || row_flags T (f - 128) k ≡ touches_fact T f k
unfolding row_flags
touch_three T f k h h' l = dite (dec_lt k 160)
    (λ (m : k < 160). rw (ne_eqb k (160 + f) (omega arith), ← fact_direct T f k m, lt-ltb k 160 m) (sym (or_no (eqb k f || false)) ∙ sym (or_no (eqb k f))))
    (λ (m : k < 160 → ⊥). dite (ℕ_discrete k (160 + f))
    (λ (e : k ≡ 160 + f). rw (eq-eqb k (160 + f) e, ne_eqb k f (omega arith)) (fact_own T f k (omega arith) (omega arith)))
    (λ (e : k ≡ 160 + f → ⊥). rw (ne_eqb k (160 + f) e, ne_eqb k f (omega arith), le-ltb k 160 (omega arith))
    (rowed T f k ∙ fact_row T f k (omega arith) (λ q. e (omega arith)) h)))

-- A value is put in by its two flags.
pub put_value : (T x : List Bool) (f : ℕ) → f < 128 → length x ≡ 448 → More x (touches_fact T f) (set (set x f true) (160 + f) true)
put_value T x f h s =
    record {
      size = rw (length-set, length-set) refl;
      flags = λ k l. set-two x f k (omega arith) s ∙ ap (λ b. get_or x k false || b) (touch_two T f k h l);
      rest = λ k l. set-none x f k (omega arith) l s;
    }

-- A membership is put in by its two flags and its crew's row.
pub put_crew : (T x : List Bool) (f : ℕ) {z : List Bool} → 128 ≤ f → f < 160 → length x ≡ 448
    → More (set (set x f true) (160 + f) true) (row_flags T (f - 128)) z → More x (touches_fact T f) z
put_crew T x f {z} h h' s m = record {
  size = m.size ∙ rw (length-set, length-set) refl;
  flags = λ k l. m.flags k l ∙ ap (λ b. b || row_flags T (f - 128) k) (set-two x f k h' s)
      ∙ or_assoc (get_or x k false) (eqb k f || eqb k (160 + f)) (row_flags T (f - 128) k) ∙ ap (λ b. get_or x k false || b) (touch_three T f k h h' l);
  rest = λ k l. m.rest k l ∙ set-none x f k h' l s;
}
