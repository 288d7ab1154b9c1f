-- The invariants of the planner's two sweeps.
use Rattle.std.specs.Prelude.{true, false, List}
use Rattle.theory.specs.Inner.Facts.{State, ◌⊆◌, minus}
use Rattle.theory.specs.Inner.Plan.{Ask, World, Brings}

module _ (W : World) where
  -- Additions lead from `S` up to `X`, within `U`.
  pub record Added (S U X : State) (us : List Ask) : Type 0 where
    pub brings : Brings W true S us X
    pub from : S ⊆ X
    pub within : X ⊆ U

  -- Deletions lead from `Y`, within `X`, down to the facts of `X` that are not forbidden.
  pub record PutBack (bad X Y : State) (ds : List Ask) : Type 0 where
    pub brings : Brings W false Y ds (minus X bad)
    pub from : minus X bad ⊆ Y
    pub within : Y ⊆ X
