-- A plan lies within the lent buffer; no way is answered exactly where there is none.
use mathlib.Core.Path.{◌≡◌, refl, ap, sym, subst}
use mathlib.Core.Logic.{dite}
use mathlib.Core.Bool.{Bool, true, false, true≢false}
use mathlib.Core.List.{List}
use Prim.Native.Nat.{ℕ, ◌*◌, ◌≤◌, ◌<◌}
use native.Mathlib.Decide.{dec_lt}
use native.Mathlib.Omega.{arith}
use lib.ListN.{length, take, length-take}
use Rattle.frames.specs.Book.{Contents, Answer, refused, accepted, book_of}
use Rattle.replay.proofs.ReplayLaws.{fives_short}
use Rattle.planner.specs.Answer.{Planned}
use Rattle.std.specs.Prelude.{Ok, Some}
use Rattle.sizes.specs.Sizes.{fact_count}
use Rattle.planner.specs.Answer.{front, Said, said80, said81, said8_f, said, PlanGiven, Decided, Answered, AnsweredFor, PlanPromise}
use Rattle.planner.specs.Promise as promise
use Rattle.planner.proofs.PromiseLaws.{never_both}

take_short : (k : ℕ) (xs : List ℕ) → length (take k xs) ≤ length xs
take_short k xs = omega (arith, length-take k xs)

given_room : {b : Contents} {before out : List ℕ} {n : ℕ} → PlanGiven b before n out → 5 * n ≤ length out
given_room {b} {before} {out} {n} given = omega (arith, given.count, fives_short (front n out), take_short (5 * n) out)

is_plan : Said → Bool
is_plan said80 = false
is_plan (said81 n) = true
is_plan (said8_f n k) = false

refused_other : {n m k : ℕ} → said8_f m k ≡ said81 n → ⊥
unfolding is_plan
refused_other e = true≢false (sym (ap is_plan e))

-- The n requests of a plan stand in the buffer.
pub plan_room : {chars before : List ℕ} {answer : Planned} {out : List ℕ} (n : ℕ) → answer ≡ Ok (Some n) → PlanPromise chars before answer out → 5 * n ≤ length out
plan_room {chars} {before} {answer} {out} n e promise =
    by-book (book_of chars) (subst (λ (x : Planned). AnsweredFor (book_of chars) before (said x) out) e promise.kept)
  where
    by-book : (a : Answer) → AnsweredFor a before (said81 n) out → 5 * n ≤ length out
    by-book (refused r) kept = absurd (refused_other (sym kept.0))
    by-book (accepted b) kept =
        dite (dec_lt (length before) (10 * fact_count b.sizes))
        (λ (h : length before < 10 * fact_count b.sizes). absurd (refused_other (sym (kept.short h).0)))
        (λ (h : length before < 10 * fact_count b.sizes → ⊥). given_room (kept.long (omega arith)))

-- ---------------------------------------------------------------- exactly

plan-not-no_way : {n : ℕ} → said81 n ≡ said80 → ⊥
unfolding is_plan
plan-not-no_way e = true≢false (ap is_plan e)

-- "a sorter's query gets no way exactly when no finite list of requests [..] leads [..] to a ledger that meets the query"
pub no_way_exactly : {b : Contents} {before : List ℕ} {answer : Said} {out : List ℕ} → Answered b before answer out
    → 10 * fact_count b.sizes ≤ length before → (answer ≡ said80 → promise.NoWay b) × (promise.NoWay b → answer ≡ said80)
no_way_exactly {b} {before} {answer} {out} a long = by_answer answer (a.long long)
  where
    by_answer : (s : Said) → Decided b before s out → (s ≡ said80 → promise.NoWay b) × (promise.NoWay b → s ≡ said80)
    by_answer said80 d = (λ e. d.0, λ none. refl)
    by_answer (said81 n) d = (λ e. absurd (plan-not-no_way e), λ none. absurd (never_both none d.works))
    by_answer (said8_f n k) d = absurd d
