-- The laws of drafts: what runs carry out, requests appended, and requests as bytes.
use mathlib.Core.Path.{◌≡◌, refl, ap, sym, ◌∙◌}
use mathlib.Core.List.{List, [], ◌∷◌, ◌++◌, map, append_assoc}
use Prim.Native.Nat.{ℕ, zero, suc, ◌+◌, ◌*◌, ◌≤◌, ◌<◌}
use native.Mathlib.Omega.{arith}
use lib.ListN.{length, get_or, take, drop, length-drop}
use lib.Seq.{drop-drop, take-add, get_or-drop}
use borrow.Rule.Slice.PartMut.{put_mid}
use Rattle.frames.specs.Book.{Contents}
use Rattle.requests.specs.Requests.{request_of}
use Rattle.ledger.specs.Ledger.{after}
use Rattle.theory.specs.Inner.Plan.{Ask}
use Rattle.level.specs.Inner.Notes.{ask_at, asks}
use Rattle.reach.specs.Inner.Tracked.{bytes_of}
use Rattle.replay.specs.Chains.{run, ends, fives}
use Rattle.replay.proofs.ReplayLaws.{one_end, run_none, run_parts, fives-none, fives-append}
use Rattle.drafts.specs.Inner.Drafts.{carried, flat}

-- ---------------------------------------------------------------- requests carried out

-- What a run that ends leaves is its requests carried out.
pub run-carried : (b : Contents) (roles : ℕ) (l : List ℕ) (k : ℕ) (qs : List (List ℕ)) (m : List ℕ) → run b roles l k qs ≡ ends m → carried l qs ≡ m
unfolding carried
run-carried b roles l k [] m e = one_end l m (sym (run_none b roles l k) ∙ e)
run-carried b roles l k (q ∷ qs) m e = run-carried b roles (after l (request_of q)) (k + 1) qs m (run_parts b roles l k q qs m e).1

-- Requests behind others are carried out on what those leave.
pub carried-append : (l : List ℕ) (ps qs : List (List ℕ)) → carried l (ps ++ qs) ≡ carried (carried l ps) qs
unfolding carried
carried-append l [] qs = refl
carried-append l (p ∷ ps) qs = carried-append (after l (request_of p)) ps qs

-- ---------------------------------------------------------------- requests as bytes

-- The bytes of requests behind others stand behind theirs.
pub flat_append : (ps qs : List (List ℕ)) → flat (ps ++ qs) ≡ flat ps ++ flat qs
unfolding flat
flat_append [] qs = refl
flat_append (p ∷ ps) qs = ap (λ (r : List ℕ). p ++ r) (flat_append ps qs) ∙ sym (append_assoc p (flat ps) (flat qs))

-- The bytes of requests write these requests.
pub fives-flat : (us : List Ask) → fives (flat (map bytes_of us)) ≡ map bytes_of us
unfolding flat
fives-flat [] = fives-none [] (omega arith)
fives-flat (u ∷ us) = fives-append (bytes_of u) (flat (map bytes_of us)) refl ∙ ap (λ (r : List (List ℕ)). bytes_of u ∷ r) (fives-flat us)

-- Each request has five bytes.
pub length-flat : (us : List Ask) → length (flat (map bytes_of us)) ≡ 5 * length us
unfolding flat
length-flat [] = refl
length-flat (u ∷ us) = omega (arith, length-flat us)

-- ---------------------------------------------------------------- requests in a buffer

first-five : (l : List ℕ) → 5 ≤ length l → take 5 l ≡ get_or l 0 0 ∷ get_or l 1 0 ∷ get_or l 2 0 ∷ get_or l 3 0 ∷ get_or l 4 0 ∷ []
first-five [] h = absurd (omega arith)
first-five (op ∷ []) h = absurd (omega arith)
first-five (op ∷ role ∷ []) h = absurd (omega arith)
first-five (op ∷ role ∷ s ∷ []) h = absurd (omega arith)
first-five (op ∷ role ∷ s ∷ a ∷ []) h = absurd (omega arith)
first-five (op ∷ role ∷ s ∷ a ∷ v ∷ rest) h = refl

-- The five bytes of request k of a buffer.
pub bytes_at : (d : List ℕ) (k : ℕ) → 5 * k + 5 ≤ length d → take 5 (drop (5 * k) d) ≡ bytes_of (ask_at d k)
unfolding ask_at
bytes_at d k h =
    let e : 5 * k + 0 ≡ 5 * k = omega arith in
    first-five (drop (5 * k) d) (omega (arith, length-drop (5 * k) d))
    ∙ rw (get_or-drop (5 * k) d 0 0, get_or-drop (5 * k) d 1 0, get_or-drop (5 * k) d 2 0, get_or-drop (5 * k) d 3 0, get_or-drop (5 * k) d 4 0, e)

-- The bytes of n requests of a buffer.
pub bytes_from : (d : List ℕ) (k n : ℕ) → 5 * (k + n) ≤ length d → take (5 * n) (drop (5 * k) d) ≡ flat (map bytes_of (asks d k n))
unfolding asks flat
bytes_from d k zero h = refl
bytes_from d k (suc n) h =
    let five : 5 * suc n ≡ 5 + 5 * n = omega arith in
    let next : 5 * k + 5 ≡ 5 * suc k = omega arith in
    ap (λ (m : ℕ). take m (drop (5 * k) d)) five
    ∙ take-add 5 (5 * n) (drop (5 * k) d)
    ∙ ap (λ (r : List ℕ). r ++ take (5 * n) (drop 5 (drop (5 * k) d))) (bytes_at d k (omega arith))
    ∙ ap (λ (r : List ℕ). bytes_of (ask_at d k) ++ take (5 * n) r) (drop-drop 5 (5 * k) d ∙ ap (λ (m : ℕ). drop m d) next)
    ∙ ap (λ (r : List ℕ). bytes_of (ask_at d k) ++ r) (bytes_from d (suc k) n (omega arith))

-- ---------------------------------------------------------------- requests carried out one by one

-- The requests that what is left of the bytes writes, on the ledger l, come to what all of them do.
pub record Carrying (l₀ : List ℕ) (qs : List (List ℕ)) (left l : List ℕ) : Type 0 where
  pub same : carried l₀ qs ≡ carried l (fives left)

-- No request is carried out yet.
pub carry_first : (l d : List ℕ) (k n : ℕ) {m : ℕ} → 5 * (k + n) ≤ length d → m ≡ 5 * n
    → Carrying l (map bytes_of (asks d k n)) (take m (drop (5 * k) d)) l
carry_first l d k n h all = record { same = ap (carried l) (sym (rw (all, bytes_from d k n h) (fives-flat (asks d k n)))) }

module _ {l₀ : List ℕ} {qs : List (List ℕ)} {left l : List ℕ} (so_far : Carrying l₀ qs left l) where
  -- One request more is carried out.
  pub carry_more : (q rest : List ℕ) → left ≡ q ++ rest → length q ≡ 5 → {m : List ℕ} → m ≡ after l (request_of q) → Carrying l₀ qs rest m
  unfolding carried
  carry_more q rest parts five {m} turn =
      record {
        same =
            so_far.same
            ∙ ap (λ (xs : List ℕ). carried l (fives xs)) parts
            ∙ ap (carried l) (fives-append q rest five)
            ∙ ap (λ (x : List ℕ). carried x (fives rest)) (sym turn);
      }

  -- All requests are carried out.
  pub carry_all : length left < 5 → l ≡ carried l₀ qs
  unfolding carried
  carry_all few = sym (so_far.same ∙ ap (carried l) (fives-none left few))

-- ---------------------------------------------------------------- requests copied

-- The bytes of n requests put over the same number of bytes of another buffer.
pub copied : (o d : List ℕ) (at from n k m : ℕ) → 5 * (from + n) ≤ length d → k ≡ 5 * n → m ≡ 5 * n → {part : List ℕ}
    → part ≡ take m (drop (5 * from) d)
    → put_mid (5 * at) k o part ≡ take (5 * at) o ++ (flat (map bytes_of (asks d from n)) ++ drop (5 * (at + n)) o)
copied o d at from n k m h over all part =
    let same : 5 * at + 5 * n ≡ 5 * (at + n) = omega arith in
    rw (part, over, all, bytes_from d from n h, drop-drop (5 * n) (5 * at) o, same)
