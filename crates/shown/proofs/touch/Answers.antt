-- What a fact adds at a place, in five cases. Assumes nothing.
use mathlib.Core.Path.{◌∙◌}
use Prim.Native.Nat.{◌-◌}
use native.Mathlib.Omega.{arith}
use borrow.Author.Tests.{eq-eqb, lt-leb}
use Rattle.shown.proofs.ShownLaws.{touch_direct, touch_own, touch_value, touch_row}
use Rattle.shown.proofs.touch.Goals as goal

pub returns-then-k-lt-LEVEL_SIZE : goal.returns-then-k-lt-LEVEL_SIZE
returns-then-k-lt-LEVEL_SIZE c = touch_direct c.args.table.now c.args.f c.args.k (omega arith)

pub returns-then-k-f : goal.returns-then-k-f
returns-then-k-f c =
    eq-eqb (c.args.k - 160) c.args.f c.if-k-f.true
    ∙ touch_own c.args.table.now c.args.f c.args.k (omega arith) (omega arith) c.if-k-f.true

pub returns-then-f-ge-VALUES_SIZE : goal.returns-then-f-ge-VALUES_SIZE
returns-then-f-ge-VALUES_SIZE c =
    touch_row c.args.table.now c.args.f c.args.k (omega arith) (omega arith) c.if-k-f.false (omega arith)

pub returns-else-f-ge-VALUES_SIZE : goal.returns-else-f-ge-VALUES_SIZE
returns-else-f-ge-VALUES_SIZE c =
    lt-leb 128 c.args.f (omega arith)
    ∙ touch_value c.args.table.now c.args.f c.args.k (omega arith) (omega arith) c.if-k-f.false (omega arith)
