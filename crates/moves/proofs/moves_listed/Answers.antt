-- `moves::moves_listed` meets its contract: the front of the list is lent to four calls of `moves_of`, one side behind the other; that there
-- is room for all four sides are laws of `ListedLaws`. Assumes nothing.
use native.Mathlib.Omega.{arith}
use mathlib.Core.Path.{◌∙◌}
use Prim.Native.Nat.{◌≤◌}
use lib.ListN.{length}
use Rattle.moves.proofs.ListedLaws.{front_good, room-first, room-second, room-third, room-fourth, prepared}
use Rattle.moves.proofs.moves_listed.Goals as goal

pub moves_of-gains-requires : goal.moves_of-gains-requires
moves_of-gains-requires c =
    let rs = c.args.rs.now in
    let within : rs.count ≤ length rs.rules = omega (arith, c.requires.0.few) in
    let (good, size) = c.requires in
    (front_good rs within good, (room-first rs within c.args.roles good.few, size))

pub moves_of-losses-requires : goal.moves_of-losses-requires
moves_of-losses-requires c =
    let rs = c.args.rs.now in
    let within : rs.count ≤ length rs.rules = omega (arith, c.requires.0.few) in
    let (good, size) = c.requires in
    let e₁ = c.moves_of-gains.ensures in
    (front_good rs within good, (room-second rs within c.args.roles good.few e₁, e₁.size ∙ size))

pub moves_of-adds-requires : goal.moves_of-adds-requires
moves_of-adds-requires c =
    let rs = c.args.rs.now in
    let within : rs.count ≤ length rs.rules = omega (arith, c.requires.0.few) in
    let (good, size) = c.requires in
    let e₁ = c.moves_of-gains.ensures in
    let e₂ = c.moves_of-losses.ensures in
    (front_good rs within good, (room-third rs within c.args.roles good.few e₁ e₂, e₂.size ∙ e₁.size ∙ size))

pub moves_of-dels-requires : goal.moves_of-dels-requires
moves_of-dels-requires c =
    let rs = c.args.rs.now in
    let within : rs.count ≤ length rs.rules = omega (arith, c.requires.0.few) in
    let (good, size) = c.requires in
    let e₁ = c.moves_of-gains.ensures in
    let e₂ = c.moves_of-losses.ensures in
    let e₃ = c.moves_of-adds.ensures in
    (front_good rs within good, (room-fourth rs within c.args.roles good.few e₁ e₂ e₃, e₃.size ∙ e₂.size ∙ e₁.size ∙ size))

pub returns-clause-sides : goal.returns-clause-sides
returns-clause-sides c =
    let rs = c.args.rs.now in
    let within : rs.count ≤ length rs.rules = omega (arith, c.requires.0.few) in
    let (good, size) = c.requires in
    prepared rs within c.args.roles good.few c.moves_of-gains.ensures c.moves_of-losses.ensures c.moves_of-adds.ensures size c.moves_of-dels.ensures
