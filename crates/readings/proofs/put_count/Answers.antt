-- `readings::put_count` meets its contract: a blank, and behind it the two bytes of n. Assumes nothing.
use mathlib.Core.Path.{refl}
use native.Mathlib.Omega.{arith}
use Rattle.answers.proofs.WrittenLaws.{count_written}
use Rattle.readings.proofs.put_count.Goals as goal

pub returns : goal.returns
returns c =
    count_written c.args.text.now c.args.n (omega (arith, c.requires)) c.pair.ensures refl c.put_bytes.ensures
