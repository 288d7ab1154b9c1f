-- `reader::line_at` meets its contract. Where 0A stands behind the digits that were decoded, the line ends there (`front_read`); any
-- other line is read anew, over what stands in the buffer (`read_over`). Assumes nothing.
use mathlib.Core.Path.{sym, ◌∙◌}
use Rattle.reader.proofs.ReadLaws.{rest_of, front_read}
use Rattle.reader.proofs.line_at.Goals as goal

pub returns-then-is_end : goal.returns-then-is_end
returns-then-is_end c =
    front_read _ _ _ (rest_of c.args.book.now c.args.at) _ _ _
    c.decode_front-k.ensures (sym c.is_end.ensures ∙ c.if-is_end.true)
