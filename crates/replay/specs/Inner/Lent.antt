-- A run under the parts of a book that it looks at: the sizes, the juniors and the rules. The words of replay's code that is handed these
-- and no book.
use Rattle.std.specs.Prelude.{Option, Some, None, ℕ, Bool, ◌&&◌, List, []}
use Rattle.sets.specs.Sets.{member}
use Rattle.sizes.specs.declared.Sizes.{Sizes}
use Rattle.frames.specs.declared.Rule.{Rule}
use Rattle.frames.specs.Book.{Contents, no_query}
use Rattle.requests.specs.Requests.{request_of, well_formed}
use Rattle.replay.specs.Chains.{Run, ends, stops}

-- The parts that a request of a chain is judged by; the rest is blank.
unfoldable pub standing : Sizes → List ℕ → List Rule → Contents
standing z juniors rules = record { sizes = z; juniors = juniors; rules = rules; count = 0; facts = []; query = no_query }

-- A request that is "well formed by refusal 12" and whose "role is one of the query's".
unfoldable pub due : Sizes → ℕ → List ℕ → Bool
due z roles q = well_formed z q && member roles (request_of q).role.0

-- How far the requests went, by the number of the one that stopped them, if one did, with the ledger that they left.
abbrev pub ran_to : Option ℕ → List ℕ → Run
ran_to None l = ends l
ran_to (Some k) l = stops k
