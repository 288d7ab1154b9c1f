-- `drafts::copy_requests` meets its contract: the bytes that are copied are those of the requests. Assumes nothing.
use native.Mathlib.Omega.{arith}
use Rattle.drafts.proofs.DraftLaws.{copied}
use Rattle.drafts.proofs.copy_requests.Goals as goal

pub returns : goal.returns
returns c =
    copied c.args.out.now c.args.draft.now c.args.at c.args.from c.args.n _ _ c.requires.0 (omega arith) (omega arith)
    c.copy_from_slice.ensures.after
