-- Answers as numbers are read back, and what show gives is written set by set.
use mathlib.Core.Path.{◌≡◌, refl, ap, sym, ◌∙◌}
use mathlib.Core.List.{List, [], ◌∷◌, ◌++◌, append_assoc}
use Prim.Native.Nat.{ℕ, suc, ◌+◌, ◌*◌, ◌/◌, ◌%◌, ◌≤◌, ◌<◌}
use native.Mathlib.Numerals.{add-one}
use native.Mathlib.Omega.{arith}
use lib.ListN.{length, get_or, take, drop, set, length-append, length-drop}
use lib.Seq.{take-suc, take_all, drop-drop, length-take-le}
use Rattle.ledger.specs.declared.Refusal.{Refusal}
use Rattle.ledger.specs.Ledger.{refusal, at_term, told, refusal_number}
use Rattle.ledger.specs.Show.{View, view_of}
use Rattle.ledger.specs.declared.Shown.{Shown}
use Rattle.std.specs.Prelude.{Result, Err}
use Rattle.bixorgun.specs.Codes.{code, told_value, said_code, two, put_two, twos, view_bytes, coded, view_coded}

-- ---------------------------------------------------------------- one number read back

module _ (result number value : ℕ) (r : result < 256) (n : number < 256) (v : value < 281474976710656) where
  pub result_back : code result number value % 256 ≡ result
  unfolding code
  result_back = omega arith

  pub number_back : code result number value / 256 % 256 ≡ number
  unfolding code
  number_back = omega arith

  pub value_back : code result number value / 65536 ≡ value
  unfolding code
  value_back = omega arith

-- Of the value beside 15 the rule and the term are read back: a told term is below 256 (`unmet-within` of denials).
module _ (rule term : ℕ) (t : term < 256) where
  pub rule_back : told_value (at_term rule term) / 256 ≡ rule
  rule_back = omega arith

  pub term_back : told_value (at_term rule term) % 256 ≡ term
  term_back = omega arith

-- ---------------------------------------------------------------- sets written one behind the other

-- Two bytes written behind the first bytes.
put_behind : (a rest : List ℕ) (h l : ℕ) → 2 ≤ length rest → set (set (a ++ rest) (length a) h) (suc (length a)) l ≡ a ++ (h ∷ l ∷ drop 2 rest)
put_behind [] [] h l room = absurd (omega arith)
put_behind [] (x ∷ []) h l room = absurd (omega arith)
put_behind [] (x ∷ (y ∷ rest)) h l room = refl
put_behind (x ∷ a) rest h l room = ap (λ (w : List ℕ). x ∷ w) (put_behind a rest h l room)

pub two_behind : (a rest : List ℕ) (at x : ℕ) → length a ≡ at → 2 ≤ length rest → put_two (a ++ rest) at x ≡ (a ++ two x) ++ drop 2 rest
two_behind a rest at x e room = rw (← e, add-one) (put_behind a rest (x / 256 % 256) (x % 256) room ∙ sym (append_assoc a (two x) (drop 2 rest)))

pub twos_more : (xs : List ℕ) (x : ℕ) → twos (xs ++ (x ∷ [])) ≡ twos xs ++ two x
unfolding twos
twos_more [] x = refl
twos_more (y ∷ ys) x = ap (λ (w : List ℕ). two y ++ w) (twos_more ys x)

pub twos-length : (xs : List ℕ) → length (twos xs) ≡ 2 * length xs
unfolding twos
twos-length [] = refl
twos-length (x ∷ xs) = rw (twos-length xs) (omega arith)

-- The first i sets stand in the buffer's front.
pub record SetsWritten (sets before : List ℕ) (i : ℕ) (view : List ℕ) : Type 0 where
  pub few : i ≤ 8
  pub front : view ≡ twos (take i sets) ++ drop (2 * i) before

pub sets_none : (sets before : List ℕ) → SetsWritten sets before 0 before
unfolding twos
sets_none sets before = record { few = omega arith; front = refl }

module _ {sets before : List ℕ} {i : ℕ} {view : List ℕ} (eight : length sets ≡ 8) (room : 20 ≤ length before) (w : SetsWritten sets before i view) where
  front_length : length (twos (take i sets)) ≡ 2 * i
  front_length = twos-length (take i sets) ∙ ap (λ (n : ℕ). 2 * n) (length-take-le i sets (omega (arith, w.few)))

  pub sets_more : i < 8 → {after : List ℕ} → after ≡ put_two view (2 * i) (get_or sets i 0) → SetsWritten sets before (i + 1) after
  sets_more h put =
      let x = get_or sets i 0 in
      let taken : take (i + 1) sets ≡ take i sets ++ (x ∷ []) = rw add-one (take-suc sets i 0 (omega arith)) in
      let front : twos (take (i + 1) sets) ≡ twos (take i sets) ++ two x = ap twos taken ∙ twos_more (take i sets) x in
      let on : 2 * i + 2 ≡ 2 * (i + 1) = omega arith in
      let rest : drop 2 (drop (2 * i) before) ≡ drop (2 * (i + 1)) before = drop-drop 2 (2 * i) before ∙ ap (λ (n : ℕ). drop n before) on in
      record {
        few = omega arith;
        front = put ∙ ap (λ (v : List ℕ). put_two v (2 * i) x) w.front
            ∙ two_behind (twos (take i sets)) (drop (2 * i) before) (2 * i) x front_length (omega (arith, length-drop (2 * i) before))
            ∙ ap (λ (v : List ℕ). (twos (take i sets) ++ two x) ++ v) rest
            ∙ ap (λ (v : List ℕ). v ++ drop (2 * (i + 1)) before) (sym front);
      }

  -- The crews behind the eight sets.
  pub view_all : 8 ≤ i → (crews : ℕ) → put_two (put_two view 16 (crews / 65536)) 18 crews ≡ view_bytes sets crews ++ drop 20 before
  view_all h crews =
      let all : take i sets ≡ sets = take_all i sets (omega arith) in
      let end : 2 * i ≡ 16 = omega (arith, w.few) in
      let start : view ≡ twos sets ++ drop 16 before = rw (all, end) at w.front in
      let long : length (twos sets) ≡ 16 = twos-length sets ∙ rw eight refl in
      let high = two (crews / 65536) in
      let first : put_two view 16 (crews / 65536) ≡ (twos sets ++ high) ++ drop 18 before =
      ap (λ (v : List ℕ). put_two v 16 (crews / 65536)) start
      ∙ two_behind (twos sets) (drop 16 before) 16 (crews / 65536) long (omega (arith, length-drop 16 before)) ∙ rw (drop-drop 2 16 before) refl in
      ap (λ (v : List ℕ). put_two v 18 crews) first
      ∙ two_behind (twos sets ++ high) (drop 18 before) 18 crews (length-append (twos sets) high ∙ rw long refl) (omega (arith, length-drop 18 before))
      ∙ rw (drop-drop 2 18 before, append_assoc (twos sets) high (two crews)) refl

-- ---------------------------------------------------------------- what show answers

pub view_hidden : (s : Result Shown Refusal) (v : View) → view_of s ≡ v → (r : Refusal) → s ≡ Err r → v.answer ≡ refusal (refusal_number r) (told r)
view_hidden s v e r o = ap (λ (x : View). x.answer) (sym e ∙ ap view_of o)

module _ (v : View) (before : List ℕ) (n : ℕ) where
  pub hidden-coded : (r : Refusal) → v.answer ≡ refusal (refusal_number r) (told r) → n ≡ said_code (refusal (refusal_number r) (told r))
      → coded n before ≡ view_coded v before
  hidden-coded r e is = rw (e, is) refl
