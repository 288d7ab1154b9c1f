-- What each of a list has.
use Rattle.std.specs.Prelude.{List, [], ◌∷◌}

-- Each element of a list has a property.
unfoldable pub Each : {A : Type 0} → (A → Type 0) → List A → Type 0
Each P [] = Unit
Each P (x ∷ xs) = P x × Each P xs
