-- Flags with no direct fact: the first places are cleared, and behind them the last row of the table is copied. Assumes nothing.
use native.Mathlib.Omega.{arith}
use mathlib.Core.Path.{◌≡◌, refl, ◌∙◌}
use mathlib.Core.Bool.{Bool, false}
use mathlib.Core.List.{List, ◌++◌}
use Prim.Native.Nat.{ℕ, ◌+◌, ◌<◌, ◌≤◌}
use lib.ListN.{length, get_or, drop, take}
use borrow.Rule.Slice.PartMut.{put_mid}
use Rattle.std.proofs.Common.{rules}
use Rattle.std.proofs.lemmas.List.{length-take-le, places}
use Rattle.build.proofs.BuildLaws.{blank_made}
use Rattle.build.proofs.blank.Goals as goal

low : (a : ℕ) (f x y : List Bool) (k : ℕ) → length f ≡ a → k < a → get_or (put_mid a a (f ++ drop a x) y) k false ≡ get_or f k false
low a f x y k h l = search (rules, places)

high : (a b : ℕ) (f x T : List Bool) (k : ℕ) → length f ≡ a → b + a ≤ length T → k < a
    → get_or (put_mid a a (f ++ drop a x) (take a (drop b T))) (a + k) false ≡ get_or T (b + k) false
high a b f x T k h m l = search (rules, places)

pub slice_bounds-fill-end-2 : goal.slice_bounds-fill-end-2
slice_bounds-fill-end-2 c = rw (length-take-le 160 c.args.x.now (omega arith))

pub returns : goal.returns
returns c =
    let fits : 160 ≤ length c.args.x.now = omega arith in
    let n : length c.fill.new.self ≡ 160 = c.fill.ensures.len ∙ length-take-le 160 c.args.x.now fits in
    rw c.copy_from_slice.ensures.after
    (blank_made (search rules) c.requires.1
    (λ k l. low 160 c.fill.new.self c.args.x.now _ k n l ∙ c.fill.ensures.clones k false (rw length-take-le l) refl)
    (λ k l. high 160 5120 c.fill.new.self c.args.x.now c.args.table.now k n (omega arith) l))
