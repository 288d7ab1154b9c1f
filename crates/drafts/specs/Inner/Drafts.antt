-- Drafts of plans: requests given as bytes, carried out and written one behind the other.
use Rattle.std.specs.Prelude.{ℕ, List, [], ◌∷◌, ◌++◌}
use Rattle.requests.specs.Requests.{request_of}
use Rattle.ledger.specs.Ledger.{after}

-- Requests given as bytes, carried out in order.
unfoldable pub carried : List ℕ → List (List ℕ) → List ℕ
carried l [] = l
carried l (q ∷ qs) = carried (after l (request_of q)) qs

-- The bytes of requests, one behind the other.
unfoldable pub flat : List (List ℕ) → List ℕ
flat [] = []
flat (q ∷ qs) = q ++ flat qs
