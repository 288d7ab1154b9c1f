-- `judge::answer` meets its contract: what reading the book tells, and the line that answers it. Assumes nothing.
use mathlib.Core.Path.{ap, ◌∙◌}
use Rattle.frames.specs.Book.{book_of}
use Rattle.answers.specs.Answers.{answer_line}
use Rattle.answers.proofs.WrittenLaws.{end-within}
use Rattle.judge.proofs.answer.Goals as goal

pub returns : goal.returns
unfolding book_of
returns c =
    let written = c.put_reading.ensures in
    (end-within written, written.upto ∙ ap answer_line c.read_into-told.ensures.told)
