-- From the buffers of the search to the answer.
use mathlib.Core.Path.{◌≡◌, refl, ap, sym, subst, ◌∙◌}
use mathlib.Core.Bool.{Bool, true, false, true≢false}
use mathlib.Core.List.{List, ◌++◌, map, append_assoc}
use Prim.Native.Nat.{ℕ, ◌+◌, ◌-◌, ◌*◌, ◌≤◌, ◌<◌}
use native.Mathlib.Omega.{arith}
use lib.ListN.{length, take, drop, length-map, length-append, length-drop}
use lib.Seq.{take-append_seam, drop-append_seam, drop-append-add, drop-drop}
use Rattle.facts.specs.Facts.{holds}
use Rattle.frames.specs.Book.{Contents, refused, accepted, book_of}
use Rattle.frames.specs.declared.Refusal as frames
use Rattle.frames.specs.Inner.Fits.{Admitted}
use Rattle.replay.specs.Chains.{fives, Leads}
use Rattle.replay.specs.Met.{met}
use Rattle.replay.proofs.ReplayLaws.{replay_reaches}
use Rattle.quantifiers.proofs.ListLaws.{map-append}
use Rattle.theory.specs.Inner.Plan.{Ask}
use Rattle.level.specs.Inner.Notes.{asks}
use Rattle.level.proofs.NoteLaws.{asks-length}
use Rattle.reach.specs.Inner.Tracked.{bytes_of}
use Rattle.reach.specs.Inner.Leveled.{Leveled}
use Rattle.drafts.specs.Inner.Drafts.{carried, flat}
use Rattle.drafts.proofs.DraftLaws.{run-carried, flat_append, fives-flat, length-flat}
use Rattle.search.specs.Inner.Drive.{starts, drafted}
use Rattle.search.specs.Inner.Scan.{NoRun, BestWritten, Searched}
use Rattle.sizes.specs.Sizes.{fact_count}
use Rattle.planner.specs.Promise.{Works}
use Rattle.planner.specs.Answer.{Planned}
use Rattle.std.specs.Prelude.{Option, Some, None, Err}
use Rattle.std.specs.Option.{MatchOption}
use Rattle.std.specs.Bool.{then_some}
use Rattle.level.specs.declared.Ends.{Ends}
use Rattle.level.specs.Inner.Settle.{found_of, ups_of, at_of}
use Rattle.frames.specs.declared.LentRefusal.TheVariants.{BadBook}
use Rattle.planner.specs.Answer.{front, Said, said81, said8_f, said, PlanGiven, Decided, Answered, PlanPromise}
use Rattle.planner.specs.Inner.Found.{PlanFound, PlanReply, plan_reply, given}
use Rattle.planner.proofs.CountLaws.{plan-few}
use Rattle.planner.proofs.PromiseLaws.{last_ledger, no_run-no_way, best-no-way, best-leads, best-works}

-- ---------------------------------------------------------------- the requests written

module _ (b : Contents) (leveled : Leveled b) {up down : List ℕ} {ups at : ℕ} (w : BestWritten b up down ups at) where
  abbrev ok : Admitted b
  ok = leveled.book

  drafted_is : drafted up ups down at ≡ map bytes_of w.us ++ map bytes_of w.ds
  drafted_is =
      ap (λ (x : List (List ℕ)). x ++ map bytes_of (asks down at (5280 - at))) (sym w.bytes_up)
      ∙ ap (λ (x : List (List ℕ)). map bytes_of w.us ++ x) (sym w.bytes_down)

  length_of_lem : (us : List Ask) (out : List ℕ) (k n : ℕ) → map bytes_of us ≡ map bytes_of (asks out k n) → length us ≡ n
  length_of_lem us out k n e = sym (length-map us bytes_of) ∙ ap (λ (x : List (List ℕ)). length x) e ∙ length-map (asks out k n) bytes_of ∙ asks-length out k n

  -- They are at most two for each fact.
  written_few : ups + (5280 - at) ≤ 2 * fact_count b.sizes
  written_few =
      omega (
        arith,
        plan-few b ok (starts b) w.best.way,
        length_of_lem w.us up 0 ups w.bytes_up,
        length_of_lem w.ds down at (5280 - at) w.bytes_down,
      )

  -- Carried out, they end at the best plan's last ledger.
  last_is : carried b.facts (drafted up ups down at) ≡ last_ledger b ok w.best
  last_is =
      ap (carried b.facts) drafted_is ∙ run-carried b b.query.roles b.facts 1 (map bytes_of w.us ++ map bytes_of w.ds)
      (last_ledger b ok w.best) (best-leads b ok w.best).led

  meets : {reached : Bool} → reached ≡ met b (holds (carried b.facts (drafted up ups down at))) → reached ≡ met b (holds (last_ledger b ok w.best))
  meets e = e ∙ ap (λ (l : List ℕ). met b (holds l)) last_is

  -- That decides: where it meets the query they work, and where it does not there is no way.
  pub found_best : (found : Bool) → found ≡ met b (holds (carried b.facts (drafted up ups down at))) → PlanFound b up down found ups at
  found_best found e =
      record {
        works = λ t. subst (Works b) (sym drafted_is) (best-works b ok w.best (sym (meets e) ∙ t));
        none = λ f. best-no-way b leveled w.best (sym (meets e) ∙ f);
        few_up = w.few_up;
        most_down = w.most_down;
        few = written_few;
      }

  -- No way, and no requests.
  pub found_not_met : false ≡ met b (holds (carried b.facts (drafted up ups down at))) → PlanFound b up down false 0 5280
  found_not_met e =
      record {
        works = λ t. absurd (true≢false (sym t));
        none = λ f. best-no-way b leveled w.best (sym (meets e));
        few_up = omega arith;
        most_down = omega arith;
        few = omega arith;
      }

-- No run ends clear of the forbidden facts: nothing is found.
pub found_none : (b : Contents) → Leveled b → {up down : List ℕ} → NoRun b → PlanFound b up down false 0 5280
found_none b leveled stuck =
    record {
      works = λ e. absurd (true≢false (sym e));
      none = λ e. no_run-no_way b leveled stuck;
      few_up = omega arith;
      most_down = omega arith;
      few = omega arith;
    }

-- The run that the search found, kept only where its last ledger meets the query.
pub found_kept : (b : Contents) → Leveled b → (up down : List ℕ) (s r : Option Ends) (Post : Ends → Bool → Type 0)
    → ((e : Ends) (k : Bool) → Post e k → k ≡ met b (holds (carried b.facts (drafted up e.ups down e.at))))
    → Searched b up down (found_of s) (ups_of s) (at_of s) → MatchOption s (r ≡ None) (λ e. (k : Bool) × Post e k × (r ≡ then_some k e))
    → PlanFound b up down (found_of r) (ups_of r) (at_of r)
found_kept b leveled up down None r Post reads w none = rw none (found_none b leveled (w.stuck refl))
found_kept b leveled up down (Some e) r Post reads w (true, p, kept) = rw kept (found_best b leveled (w.written refl) true (reads e true p))
found_kept b leveled up down (Some e) r Post reads w (false, p, kept) = rw kept (found_not_met b leveled (w.written refl) (reads e false p))

-- Additions copied to the front, then deletions behind them.
pub both_copied : (up : List ℕ) (ups : ℕ) (down : List ℕ) (at : ℕ) (before middle out : List ℕ) → length up ≡ 26400 → ups ≤ 5280
    → 5 * (ups + (5280 - at)) ≤ length before
    → middle ≡ take (5 * 0) before ++ (flat (map bytes_of (asks up 0 ups)) ++ drop (5 * (0 + ups)) before)
    → out ≡ take (5 * ups) middle ++ (flat (map bytes_of (asks down at (5280 - at))) ++ drop (5 * (ups + (5280 - at))) middle)
    → out ≡ flat (drafted up ups down at) ++ drop (5 * (ups + (5280 - at))) before
both_copied up ups down at before middle out size few room first second =
    second
    ∙ ap (λ (x : List ℕ). x ++ (flat (map bytes_of (asks down at (5280 - at))) ++ drop (5 * (ups + (5280 - at))) middle)) front_is
    ∙ ap (λ (x : List ℕ). bytes ++ (flat (map bytes_of (asks down at (5280 - at))) ++ x)) rest-is
    ∙ sym (append_assoc bytes (flat (map bytes_of (asks down at (5280 - at)))) (drop (5 * (ups + (5280 - at))) before))
    ∙ ap (λ (x : List ℕ). x ++ drop (5 * (ups + (5280 - at))) before) (sym (flat_append (map bytes_of (asks up 0 ups)) (map bytes_of (asks down at (5280 - at)))))
  where
    bytes : List ℕ
    bytes = flat (map bytes_of (asks up 0 ups))

    five : length bytes ≡ 5 * ups
    five = length-flat (asks up 0 ups) ∙ ap (λ (k : ℕ). 5 * k) (asks-length up 0 ups)

    front_is : take (5 * ups) middle ≡ bytes
    front_is =
        ap (take (5 * ups)) first ∙ ap (λ (k : ℕ). take k (bytes ++ drop (5 * (0 + ups)) before)) (sym five)
        ∙ take-append_seam bytes (drop (5 * (0 + ups)) before)

    split : 5 * (ups + (5280 - at)) ≡ 5 * ups + 5 * (5280 - at)
    split = omega arith

    joined : 5 * (0 + ups) + 5 * (5280 - at) ≡ 5 * (ups + (5280 - at))
    joined = omega arith

    rest-is : drop (5 * (ups + (5280 - at))) middle ≡ drop (5 * (ups + (5280 - at))) before
    rest-is =
        ap (drop (5 * (ups + (5280 - at)))) first
        ∙ ap (λ (k : ℕ). drop k (bytes ++ drop (5 * (0 + ups)) before)) (split ∙ ap (λ (k : ℕ). k + 5 * (5280 - at)) (sym five))
        ∙ drop-append-add bytes (drop (5 * (0 + ups)) before) (5 * (5280 - at))
        ∙ drop-drop (5 * (5280 - at)) (5 * (0 + ups)) before
        ∙ ap (λ (k : ℕ). drop k before) joined

-- ---------------------------------------------------------------- what was found

-- How many requests two buffers have.
pub drafted-length : (up : List ℕ) (ups : ℕ) (down : List ℕ) (at : ℕ) → length (drafted up ups down at) ≡ ups + (5280 - at)
drafted-length up ups down at =
    length-append (map bytes_of (asks up 0 ups)) (map bytes_of (asks down at (5280 - at)))
    ∙ ap (λ (n : ℕ). n + length (map bytes_of (asks down at (5280 - at)))) (length-map (asks up 0 ups) bytes_of ∙ asks-length up 0 ups)
    ∙ ap (λ (n : ℕ). ups + n) (length-map (asks down at (5280 - at)) bytes_of ∙ asks-length down at (5280 - at))

-- The plan is given.
pub given-plan : (up : List ℕ) (ups : ℕ) (down : List ℕ) (at : ℕ) (before : List ℕ) {out : List ℕ} {n : ℕ} → n ≡ ups + (5280 - at)
    → out ≡ flat (drafted up ups down at) ++ drop (5 * (ups + (5280 - at))) before
    → plan_reply (said81 n) out ≡ given true (drafted up ups down at) before
given-plan up ups down at before {out} {n} count is =
    ap (λ (k : ℕ). plan_reply (said81 k) out) (count ∙ sym long)
    ∙ ap (plan_reply (said81 (length (drafted up ups down at)))) (is ∙ ap (λ (k : ℕ). flat (drafted up ups down at) ++ drop (5 * k) before) (sym long))
  where
    long : length (drafted up ups down at) ≡ ups + (5280 - at)
    long = drafted-length up ups down at

-- A plan that works, written to the buffer's front, is given.
module _ (b : Contents) (up : List ℕ) (ups : ℕ) (down : List ℕ) (at : ℕ) (works : Works b (drafted up ups down at))
    (few : ups + (5280 - at) ≤ 2 * fact_count b.sizes) where
  pub reached : (before : List ℕ) (n : ℕ) (out : List ℕ) → n ≡ ups + (5280 - at) → 5 * n ≤ length before
      → out ≡ flat (drafted up ups down at) ++ drop (5 * n) before → PlanGiven b before n out
  reached before n out count room is =
      record {
        count = ap (λ (x : List (List ℕ)). length x) chain-is ∙ drafted-length up ups down at ∙ sym count;
        works = subst (Works b) (sym chain-is) works;
        reaches = replay_reaches b (front n out) (omega (arith, ap (λ (x : List ℕ). length x) front_is, five)) works.last
            (subst (λ (c : List (List ℕ)). Leads b c works.last) (sym chain-is) works.led) works.meets;
        few = omega (arith, count, few);
        size = omega (arith, ap (λ (x : List ℕ). length x) is', length-append bytes (drop (5 * n) before), length-drop (5 * n) before, five);
        behind = ap (drop (5 * n)) is' ∙ ap (λ (k : ℕ). drop k (bytes ++ drop (5 * n) before)) (sym five) ∙ drop-append_seam bytes (drop (5 * n) before);
      }
    where
      qs : List Ask
      qs = asks up 0 ups ++ asks down at (5280 - at)

      bytes : List ℕ
      bytes = flat (map bytes_of qs)

      same-chain : map bytes_of qs ≡ drafted up ups down at
      same-chain = map-append bytes_of (asks up 0 ups) (asks down at (5280 - at))

      is' : out ≡ bytes ++ drop (5 * n) before
      is' = is ∙ ap (λ (c : List (List ℕ)). flat c ++ drop (5 * n) before) (sym same-chain)

      five : length bytes ≡ 5 * n
      five =
          length-flat qs
          ∙ ap (λ (k : ℕ). 5 * k)
          (sym (length-map qs bytes_of) ∙ ap (λ (x : List (List ℕ)). length x) same-chain ∙ drafted-length up ups down at ∙ sym count)

      front_is : front n out ≡ bytes
      front_is = ap (take (5 * n)) is' ∙ ap (λ (k : ℕ). take k (bytes ++ drop (5 * n) before)) (sym five) ∙ take-append_seam bytes (drop (5 * n) before)

      chain-is : fives (front n out) ≡ drafted up ups down at
      chain-is = ap fives front_is ∙ fives-flat qs ∙ same-chain

-- What is given for what was found is what demand 3 says.
pub given_decided : (b : Contents) {up down : List ℕ} {ups at : ℕ} {found : Bool} → PlanFound b up down found ups at → (before : List ℕ) {s : Said}
    {out : List ℕ} → 10 * fact_count b.sizes ≤ length before → plan_reply s out ≡ given found (drafted up ups down at) before → Decided b before s out
given_decided b {up} {down} {ups} {at} {found} f before {s} {out} long e = by-found found refl e
  where
    count : length (drafted up ups down at) ≡ ups + (5280 - at)
    count = drafted-length up ups down at

    by-found : (t : Bool) → found ≡ t → plan_reply s out ≡ given t (drafted up ups down at) before → Decided b before s out
    by-found false is g =
        subst (λ (r : PlanReply). Decided b before r.answer r.buffer) (sym g) (f.none is, refl)
    by-found true is g =
        subst (λ (r : PlanReply). Decided b before r.answer r.buffer) (sym g)
        (reached b up ups down at (f.works is) f.few before (length (drafted up ups down at)) _ count (omega (arith, count, f.few, long)) refl)

-- ---------------------------------------------------------------- the answer

module _ (b : Contents) (before : List ℕ) where
  -- A short buffer is refused, as it was.
  pub answered_short : length before < 10 * fact_count b.sizes → Answered b before (said8_f 10 0) before
  answered_short h = record { short = λ l. (refl, refl); long = λ l. absurd (omega arith) }

  -- On a long one it is decided.
  pub answered_long : 10 * fact_count b.sizes ≤ length before → {answer : Said} {out : List ℕ} → Decided b before answer out → Answered b before answer out
  answered_long h decided = record { short = λ l. absurd (omega arith); long = λ l. decided }

-- The promise, of a refused book and of an accepted one.
pub promise_refused : (chars before : List ℕ) {r : frames.Refusal} → book_of chars ≡ refused r → PlanPromise chars before (Err (BadBook r)) before
promise_refused chars before e = record { kept = rw e (refl, refl) }

pub promise_accepted : (chars before : List ℕ) (answer : Planned) (out : List ℕ) {b : Contents} → book_of chars ≡ accepted b
    → Answered b before (said answer) out → PlanPromise chars before answer out
promise_accepted chars before answer out e answered = record { kept = rw e answered }
