-- `frames::enter_fact` meets its contract: a frame of kind 04 puts its fact in. Assumes nothing.
use Rattle.frames.specs.Book.{facts_after}
use Rattle.frames.proofs.enter_fact.Goals as goal

pub returns : goal.returns
unfolding facts_after
returns c =
    rw (
      c.requires,
      ← c.byte_at-k.ensures,
      ← c.byte_at-s.ensures,
      ← c.byte_at-a.ensures,
      ← c.byte_at-v.ensures,
      ← c.fact_of.ensures,
    ) c.put_fact.ensures
