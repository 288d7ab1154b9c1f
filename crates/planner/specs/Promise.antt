-- What the planner's answer promises: demand 3, sentence by sentence.
use Rattle.std.specs.Prelude.{◌≡◌, ◌≢◌, Bool, true, false, List, [], ◌∷◌, ℕ}
use Rattle.facts.specs.Facts.{holds}
use Rattle.facts.specs.declared.Fact.{Fact}
use Rattle.frames.specs.Book.{Contents}
use Rattle.requests.specs.Requests.{adds, request_of}
use Rattle.ledger.specs.Ledger.{after}
use Rattle.replay.specs.Chains.{Leads}
use Rattle.replay.specs.Met.{met}

-- "No finite list of requests, on any persons and crews, made by the query's roles and each permitted when its turn comes, leads from
-- the book's starting facts to a ledger that meets the query."
pub record NoWay (b : Contents) : Type 0 where
  pub none : (chain : List (List ℕ)) (l : List ℕ) → Leads b chain l → met b (holds l) ≡ true → ⊥

-- Each request "changes the ledger".
unfoldable pub Changing : List ℕ → List (List ℕ) → Type 0
Changing l [] = Unit {0}
Changing l (q ∷ qs) = (after l (request_of q) ≢ l) × Changing (after l (request_of q)) qs

-- No request of the list adds the fact (`true`), or deletes it (`false`).
unfoldable pub Never : Bool → Fact → List (List ℕ) → Type 0
Never on f [] = Unit {0}
Never on f (q ∷ qs) = (adds (request_of q).op ≡ on → (request_of q).fact ≢ f) × Never on f qs

-- "No fact is added more than once" (`true`), "nor deleted more than once" (`false`).
unfoldable pub Once : Bool → List (List ℕ) → Type 0
Once on [] = Unit {0}
Once on (q ∷ qs) = (adds (request_of q).op ≡ on → Never on (request_of q).fact qs) × Once on qs

-- A plan that works. "Carried out in order from those facts, every request of the plan is made by one of those roles, is permitted
-- when its turn comes": the list leads to its last ledger. "The last ledger meets the query."
pub record Works (b : Contents) (chain : List (List ℕ)) : Type 0 where
  pub last : List ℕ
  pub led : Leads b chain last
  pub meets : met b (holds last) ≡ true
  pub changes : Changing b.facts chain
  pub added_once : Once true chain
  pub deleted_once : Once false chain
