-- `answers::put_byte` meets its contract: two characters, the table's of the two digits of b. Assumes nothing.
use Prim.Native.Nat.{◌/◌, ◌%◌}
use native.Mathlib.Omega.{arith}
use Rattle.answers.proofs.WrittenLaws.{written_digits}
use Rattle.answers.proofs.put_byte.Goals as goal

pub returns : goal.returns
returns c =
    let b = c.args.b in
    let characters = c.args.characters.now.encodings in
    written_digits c.args.text.now b c.requires (rw c.from-high.ensures (characters.entry (b / 16) (omega arith)))
    (rw c.from-low.ensures (characters.entry (b % 16) (omega arith)))
