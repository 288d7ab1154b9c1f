-- `reader::decode_long` meets its contract: an odd line and one with another character are malformed; of any other the first 128
-- digits are decoded, which are the first 64 bytes of its frame (`long_written`). Assumes nothing.
use mathlib.Core.Path.{refl, ap, sym, ◌∙◌}
use mathlib.Core.Bool.{not}
use native.Mathlib.Omega.{arith}
use lib.Seq.{length-take-le}
use Rattle.lines.proofs.DigitLaws.{malformed_odd, malformed_even}
use Rattle.reader.proofs.DecodingLaws.{long_written}
use Rattle.reader.proofs.decode_long.Goals as goal
use Rattle.reader.proofs.decode_long.Goals.{then-x-eq1-via-then-x-eq1, then-x-eq1-via-else-x-eq1+then-not-are_digits}

pub returns-then-x-eq1 : goal.returns-then-x-eq1
returns-then-x-eq1 c =
    elim c.then-x-eq1.branch [
      | then-x-eq1-via-then-x-eq1 w ↦
          record { written = sym (malformed_odd _ (λ z. omega (arith, z, c.requires.0)) w.if-x-eq1.true); size = refl }
      | then-x-eq1-via-else-x-eq1+then-not-are_digits w ↦ record {
        written = malformed_even _ (λ z. omega (arith, z, c.requires.0)) w.if-x-eq1.false
            ∙ ap not (sym w.are_digits.ensures ∙ w.if-not-are_digits.true);
        size = refl;
      }
    ]

pub slice_bounds-decode_short-end : goal.slice_bounds-decode_short-end
slice_bounds-decode_short-end c = sym (length-take-le 128 c.args.x.now (omega (arith, c.requires.0)))

pub decode_short-requires : goal.decode_short-requires
decode_short-requires c =
    let size = length-take-le 128 c.args.x.now (omega (arith, c.requires.0)) in
    (omega (arith, size), omega (arith, size, c.requires.1))

pub returns : goal.returns
returns c =
    let digits = sym c.are_digits.ensures ∙ c.if-not-are_digits.false in
    long_written _ _ _ _ c.requires.0 c.if-x-eq1.false digits c.decode_short.ensures
