-- A contract with two `requires` that each state a fact: both are learned, as by `denote.Triple.Walked`'s `needs` of one. It says nothing of any crate.
--     needs_two        P ∗ (⌜φ⌝ ∗ ⌜ψ⌝) as a hypothesis: φ and ψ are learned, and P is left
-- Assumes nothing.
use seplogic.Ra.Ura.{Ura}
use base.Logic.{SProp, ent, sep, via, assoc'}
use contract.Monad.{fact}
use denote.Triple.Walked.{needs}

pub needs_two : {M : Type 1} (𝓤 : Ura M) (φ ψ : Type 0) (P : SProp 𝓤) {Q : SProp 𝓤} → (φ → ψ → ent 𝓤 P Q) → ent 𝓤 (sep 𝓤 P (sep 𝓤 (fact 𝓤 φ) (fact 𝓤 ψ))) Q
needs_two 𝓤 φ ψ P h =
    via 𝓤 (sep 𝓤 (sep 𝓤 P (fact 𝓤 φ)) (fact 𝓤 ψ)) (assoc' 𝓤 P (fact 𝓤 φ) (fact 𝓤 ψ)) (needs 𝓤 ψ (sep 𝓤 P (fact 𝓤 φ)) (λ y. needs 𝓤 φ P (λ x. h x y)))
