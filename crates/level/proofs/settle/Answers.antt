-- Rounds until the level is settled or a starting fact is lacking. The invariant is `Going`, that there are 160 names each, and that what is lent is the
-- same; the measure is how many facts are allowed. Assumes nothing.
use native.Mathlib.Omega.{arith}
use Prim.Native.Nat.{◌<◌}
use lib.ListN.{length}
use mathlib.Core.Path.{◌≡◌, sym, ap, ◌∙◌}
use Rattle.build.specs.Inner.Build.{lacked}
use Rattle.build.proofs.BuildLaws.{none_lacked, some_lacked}
use Rattle.level.specs.Inner.Moves.{moves_in}
use Rattle.level.proofs.SettleLaws.{draft_first, draft_on, going_first, settled, stuck, go_on, smaller, result_found, result_none}
use Rattle.level.proofs.settle.Goals as goal

pub loop-e-init : goal.loop-e-init
loop-e-init c = (
  going_first (moves_in c.args.level.now.sides.adds.now) (moves_in c.args.level.now.sides.dels.now) c.args.level.now.subject c.requires.lengths c.requires.allowed,
  ((c.requires.names_added, c.requires.names_deleted), draft_first),
)

pub round-e-requires : goal.round-e-requires
round-e-requires c =
    let names = c.loop-e.invariant.1.0 in
    record {
      sound_adds = c.requires.sound_adds;
      sound_dels = c.requires.sound_dels;
      lengths = c.loop-e.invariant.0.sizes;
      whole_s = c.requires.whole_s;
      allowed = c.loop-e.invariant.0.within;
      names_added = names.0;
      names_deleted = names.1;
    }

pub returns-then-is_none : goal.returns-then-is_none
returns-then-is_none c =
    let lent = c.loop-e.invariant.1.1 in
    let now = c.round-e.ensures.lent in
    record {
      result = rw (← lent.ends)
          (result_found (settled c.loop-e.invariant.0 c.round-e.ensures.rounded c.lacks.ensures.first
          (none_lacked c.lacks.result c.if-is_none.ensures)));
      names = c.round-e.ensures.names;
      sizes = let r = c.round-e.ensures in let z = r.rounded.sizes in (ap length r.allowed ∙ z.size_u, (z.size_x, (z.size_y, z.size_d)));
      lent = draft_on lent now;
    }

pub returns-then-is_some : goal.returns-then-is_some
returns-then-is_some c =
    let lent = c.loop-e.invariant.1.1 in
    let now = c.round-e.ensures.lent in
    record {
      result = rw (← lent.ends)
          (result_none _ _ _ _ _ _ _ _ _
          (stuck c.loop-e.invariant.0 c.round-e.ensures.rounded c.lacks-in-loop-e.ensures.first
          (some_lacked c.lacks-in-loop-e.result (sym c.if-is_some.ensures) c.lacks-in-loop-e.ensures.within)));
      names = c.round-e.ensures.names;
      sizes = let r = c.round-e.ensures in let z = r.rounded.sizes in (ap length r.allowed ∙ z.size_u, (z.size_x, (z.size_y, z.size_d)));
      lent = draft_on lent now;
    }

pub loop-e-smaller : goal.loop-e-smaller
loop-e-smaller c =
    let l : lacked c.lacks.result < 160 = some_lacked c.lacks.result c.if-is_none.ensures c.lacks.ensures.within in
    smaller c.loop-e.invariant.0 c.round-e.ensures.rounded c.lacks.ensures.first (λ e. omega (arith, e, l)) c.keep.ensures

pub loop-e-preserved : goal.loop-e-preserved
loop-e-preserved c =
    let none : lacked c.lacks-in-loop-e.result ≡ 160 = none_lacked c.lacks-in-loop-e.result (sym c.if-is_some.ensures) in
    let lent = c.loop-e.invariant.1.1 in
    let now = c.round-e.ensures.lent in (
      rw now.ends (go_on c.loop-e.invariant.0 c.round-e.ensures.rounded c.lacks-in-loop-e.ensures.first (omega arith) c.keep.ensures),
      (c.round-e.ensures.names, draft_on lent now),
    )
