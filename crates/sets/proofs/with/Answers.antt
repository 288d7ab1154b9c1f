-- `sets::with` meets its contract: what is so already stays; otherwise the weight, which does not wrap, is added or taken away.
-- Assumes nothing.
use mathlib.Core.Bool.{Bool, true, false, not, beq, true≢false}
use mathlib.Core.Path.{◌≡◌, refl, sym, ap, ◌∙◌}
use Prim.Native.Nat.{◌+◌, ◌<◌, ◌^◌}
use Rattle.std.specs.Cmp.{booleans_Decides}
use Rattle.sets.specs.Sets.{member}
use Rattle.sets.proofs.SetLaws.{put_lt, put_kept, weight, weight_le, put_in_new, take_out_old}
use Rattle.sets.proofs.with.Goals as goal
use Rattle.sets.proofs.with.Goals.{Then-on, Else-on}

unlike : (a b : Bool) → beq a b ≡ false → a ≡ not b
unlike true true e = absurd (true≢false e)
unlike true false e = refl
unlike false true e = refl
unlike false false e = absurd (true≢false e)

-- To be put in, v is no member; to be taken out, it is one.
new : (c : Then-on) → member c.args.x c.args.v ≡ false
new c = sym c.has.ensures ∙ unlike _ _ c.if-has-on.false ∙ ap not c.if-on.true

old : (c : Else-on) → member c.args.x c.args.v ≡ true
old c = sym c.has.ensures ∙ unlike _ _ c.if-has-on.false ∙ ap not c.if-on.false

pub returns-then-has-on : goal.returns-then-has-on
returns-then-has-on c =
    let as-is : c.has.result ≡ c.args.on = (booleans_Decides c.has.result c.args.on).0 c.if-has-on.true in
    sym (put_kept c.args.x c.args.v c.args.on (sym c.has.ensures ∙ as-is))

pub overflow_add-result : goal.overflow_add-result
overflow_add-result c =
    let x = c.args.x in
    let v = c.args.v in
    let small : x + 2 ^ v < 2 ^ 32 =
    rw (put_in_new x v (new (goal.at.overflow_add-result c).Then-on)) (put_lt x v 32 true c.ranges.x.fits c.requires) in
    record { fits = rw (weight 32 v c.requires) small }

pub overflow_sub-result : goal.overflow_sub-result
overflow_sub-result c =
    rw (weight 32 c.args.v c.requires) (weight_le c.args.x c.args.v (old (goal.at.overflow_sub-result c).Else-on))

pub returns-then-on : goal.returns-then-on
returns-then-on c =
    rw (weight 32 c.args.v c.requires, c.if-on.true) (put_in_new c.args.x c.args.v (new (goal.at.returns-then-on c).Then-on))

pub returns-else-on : goal.returns-else-on
returns-else-on c =
    rw (weight 32 c.args.v c.requires, c.if-on.false) (take_out_old c.args.x c.args.v (old (goal.at.returns-else-on c).Else-on))
