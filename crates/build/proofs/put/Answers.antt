-- A fact put in: its two flags, and for a membership its crew's row. Assumes nothing.
use Rattle.shown.proofs.ShownLaws.{put_value, put_crew}
use Rattle.build.proofs.put.Goals as goal

pub returns-then-f-ge-VALUES_SIZE : goal.returns-then-f-ge-VALUES_SIZE
returns-then-f-ge-VALUES_SIZE c =
    put_crew c.args.table.now c.args.x.now c.args.f c.if-f-ge-VALUES_SIZE.true c.requires.0 c.requires.1.0 c.add_row.ensures

pub returns-else-f-ge-VALUES_SIZE : goal.returns-else-f-ge-VALUES_SIZE
returns-else-f-ge-VALUES_SIZE c = put_value c.args.table.now c.args.x.now c.args.f c.if-f-ge-VALUES_SIZE.false c.requires.1.0
