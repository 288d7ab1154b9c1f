-- Chains of permitted requests, where more facts never permit less; plans, and the best of them.
use Rattle.std.specs.Prelude.{◌≡◌, ◌≢◌, Bool, true, false, not, List, [], ◌∷◌, ◌++◌, map, ℕ, ◌+◌, ◌*◌, ◌≤◌, ◌<◌, length}
use Rattle.theory.specs.Inner.Facts.{State, ◌⊆◌, update, minus, Clear}

-- The fact that a request is about, and the five bytes that write it.
pub record Ask : Type 0 where
  pub fact : ℕ
  pub op : ℕ
  pub role : ℕ
  pub subject : ℕ
  pub a : ℕ
  pub v : ℕ

-- A request to add a fact (`true`) or to delete it (`false`).
pub data Req : Type 0 where
  req : Bool → Ask → Req

-- The state after a request.
abbrev pub apply : State → Req → State
apply S (req b q) = update S q.fact b

-- The state after a chain of requests.
abbrev pub end : State → List Req → State
end S [] = S
end S (r ∷ rs) = end (apply S r) rs

-- Each request of a chain meets `P` in the state that it acts on.
abbrev pub Runs : (State → Req → Type 0) → State → List Req → Type 0
Runs P S [] = Unit {0}
Runs P S (r ∷ rs) = P S r × Runs P (apply S r) rs

-- Each state of a chain is within `U`.
abbrev pub Stays : State → State → List Req → Type 0
Stays U S [] = S ⊆ U
Stays U S (r ∷ rs) = (S ⊆ U) × Stays U (apply S r) rs

-- The request changes its fact.
abbrev pub Changes : State → Req → Type 0
Changes S (req b q) = S q.fact ≡ not b

-- Additions, then deletions.
abbrev pub add_then_delete : List Ask → List Ask → List Req
add_then_delete us ds = map (req true) us ++ map (req false) ds

-- No request of the list is about the fact `f`.
abbrev pub Absent : ℕ → List Ask → Type 0
Absent f [] = Unit {0}
Absent f (g ∷ gs) = (f ≢ g.fact) × Absent f gs

-- No two requests of the list are about the same fact.
abbrev pub Distinct : List Ask → Type 0
Distinct [] = Unit {0}
Distinct (f ∷ fs) = Absent f.fact fs × Distinct fs

-- Which requests are permitted in which state, and how many facts there are.
pub record World : Type 1 where
  pub May : State → Req → Type 0
  pub F : ℕ

-- The two laws that planning rests on: more facts permit no fewer requests, and no request is about a fact outside the first `F`.
pub record Lawful (W : World) : Type 0 where
  pub mono : {S T : State} (r : Req) → S ⊆ T → W.May S r → W.May T r
  pub known : (S : State) (b : Bool) (q : Ask) → W.May S (req b q) → q.fact < W.F

module _ (W : World) where
  open W use {May, F}

  -- No addition of a fact of `U` is left.
  pub record AddClosed (U X : State) : Type 0 where
    pub add : (q : Ask) → U q.fact ≡ true → May X (req true q) → X q.fact ≡ true

  -- `Y` has each fact of `X` that is not forbidden, or whose deletion is permitted in `Y` with that fact.
  pub record BackClosed (bad X Y : State) : Type 0 where
    pub good : (f : ℕ) → X f ≡ true → bad f ≡ false → Y f ≡ true
    pub back : (q : Ask) → X q.fact ≡ true → May (update Y q.fact true) (req false q) → Y q.fact ≡ true

  -- A permitted request that changes the state.
  pub record Step (S : State) (r : Req) : Type 0 where
    pub may : May S r
    pub new : Changes S r

  -- From `S` to `T` by setting the fact of each of `fs` to `b`, in this order, each permitted and each a change.
  pub record Brings (b : Bool) (S : State) (fs : List Ask) (T : State) : Type 0 where
    pub runs : Runs Step S (map (req b) fs)
    pub ends : end S (map (req b) fs) ≡ T

  module _ (bad S₀ : State) where
    -- The planner's invariant: a chain that ends clear of the forbidden facts stays within `U`.
    abbrev pub Bounds : State → Type 0
    Bounds U = (rs : List Req) → Runs May S₀ rs → Clear bad (end S₀ rs) → Stays U S₀ rs

    -- A plan: additions, then deletions, each permitted and each a change, no fact twice on either side. It ends clear of the forbidden facts.
    pub record Plan (us ds : List Ask) : Type 0 where
      pub runs : Runs Step S₀ (add_then_delete us ds)
      pub clear : Clear bad (end S₀ (add_then_delete us ds))
      pub once-up : Distinct us
      pub once-down : Distinct ds
      pub short : length us + length ds ≤ 2 * F

    -- A plan that ends with every fact with which any clear chain ends.
    pub record Best (us ds : List Ask) : Type 0 where
      pub way : Plan us ds
      pub best : (rs : List Req) → Runs May S₀ rs → Clear bad (end S₀ rs) → end S₀ rs ⊆ end S₀ (add_then_delete us ds)

    -- Additions lead to `X`, and deletions from it to its facts that are not forbidden.
    pub record Good (us ds : List Ask) (X : State) : Type 0 where
      pub adds : Brings true S₀ us X
      pub dels : Brings false X ds (minus X bad)
