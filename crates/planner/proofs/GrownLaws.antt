-- A way in a book that only grows is a plan that works, and there are no more requests in it than the person has facts.
use mathlib.Core.Path.{◌≡◌, ap, sym, subst, ◌∙◌}
use mathlib.Core.Bool.{Bool, true, true≢false}
use mathlib.Core.List.{List, [], ◌++◌, map, append-nil}
use Prim.Native.Nat.{ℕ, ◌+◌, ◌-◌, ◌*◌, ◌≤◌}
use native.Mathlib.Omega.{arith}
use lib.ListN.{length, length-map}
use Rattle.sizes.specs.Sizes.{value_count}
use Rattle.sizes.proofs.SizeLaws.{facts_are}
use Rattle.frames.specs.Book.{Contents}
use Rattle.theory.specs.Inner.Plan.{req, end, Runs, Step, add_then_delete}
use Rattle.level.specs.Inner.Notes.{asks}
use Rattle.level.proofs.NoteLaws.{asks-length}
use Rattle.reach.specs.Inner.Tracked.{bytes_of}
use Rattle.reach.specs.Inner.Depot.{depot}
use Rattle.reach.specs.Inner.Growing.{Growing}
use Rattle.search.specs.Inner.Drive.{starts, drafted}
use Rattle.own.specs.Inner.Found.{Grown, OwnFound}
use Rattle.planner.specs.Promise.{Works}
use Rattle.planner.specs.Inner.Found.{PlanFound}
use Rattle.planner.proofs.CountLaws.{own-additions-few}
use Rattle.planner.proofs.PromiseLaws.{run-done, run-works}

module _ (b : Contents) (ok : Growing b) {up : List ℕ} {n : ℕ} (g : Grown b up n) where
  whole : length g.us ≡ n
  whole =
      sym (length-map g.us bytes_of) ∙ ap (λ (x : List (List ℕ)). length x) g.bytes ∙ length-map (asks up 0 n) bytes_of ∙ asks-length up 0 n

  -- At most one request for each value and each crew: the sum of the counts, and G.
  pub grown_few : n ≤ value_count b.sizes + b.sizes.crews
  grown_few = omega (arith, whole, own-additions-few b ok.book (starts b) g.us g.runs g.on_level)

  -- No deletion follows the additions.
  alone : add_then_delete g.us [] ≡ map (req true) g.us
  alone = append-nil (map (req true) g.us)

  runs : Runs (Step (depot b)) (starts b) (add_then_delete g.us [])
  runs = subst (Runs (Step (depot b)) (starts b)) (sym alone) g.runs

  grown_works : (down : List ℕ) → Works b (drafted up n down 5280)
  unfolding asks
  grown_works down =
      let done = run-done b ok.book g.us [] runs in
      let meets = g.meets done.last (done.ends_at ∙ ap (end (starts b)) alone) in
      subst (λ (x : List (List ℕ)). Works b (x ++ [])) g.bytes (run-works b ok.book g.us [] runs g.once tt meets)

-- What the search in such a book comes to, as requests in two buffers.
module _ (b : Contents) (ok : Growing b) {up : List ℕ} {found : Bool} {n : ℕ} (own : OwnFound b up found n) (down : List ℕ) where
  pub found_grown : found ≡ true → PlanFound b up down true n 5280
  found_grown e =
      record {
        works = λ _. grown_works b ok (own.grown e) down;
        none = λ f. absurd (true≢false f);
        few_up = omega (arith, own.few);
        most_down = omega arith;
        few = rw (facts_are b.sizes) (twice n (value_count b.sizes) b.sizes.crews (grown_few b ok (own.grown e)));
      }
    where
      twice : (n v k : ℕ) → n ≤ v + k → n + (5280 - 5280) ≤ 2 * ((1 + k) * v + k)
      twice n v k h =
          let more : (1 + k) * v ≡ v + k * v = omega arith in
          omega (arith, more)
