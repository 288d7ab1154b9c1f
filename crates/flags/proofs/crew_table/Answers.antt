-- Before junior `j` the last row has what the juniors below `j` give. Assumes nothing.
use mathlib.Core.Path.{sym, ◌∙◌}
use Rattle.inherit.proofs.InheritanceLaws.{junior_member}
use Rattle.flags.proofs.FlagLaws.{juniors_none, juniors_add, juniors_skip}
use Rattle.flags.proofs.crew_table.Goals as goal
use Rattle.flags.proofs.crew_table.Goals.{then-has, else-has}

pub loop-j-init : goal.loop-j-init
loop-j-init c = juniors_none c.args.juniors.now c.args.k c.args.rows.now c.clear_flags.ensures

pub loop-j-preserved : goal.loop-j-preserved
loop-j-preserved c =
    let js = c.args.juniors.now in
    let is_junior = junior_member js c.args.k c.loop-j.j ∙ sym (rw c.from.ensures at c.has.ensures) in
    elim c.if-has.branch [
      | then-has w ↦ rw w.table-is (juniors_add js c.args.k c.args.rows.now c.loop-j.j (is_junior ∙ w.if-has.true) c.loop-j.invariant w.add_last.ensures)
      | else-has w ↦ rw w.table-is (juniors_skip js c.args.k c.args.rows.now c.loop-j.j (is_junior ∙ w.if-has.false) c.loop-j.invariant)
    ]
