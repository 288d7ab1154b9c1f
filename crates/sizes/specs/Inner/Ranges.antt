-- What the contracts behind the gate know of a book's sizes. No promise of the paper needs it.
use Rattle.std.specs.Prelude.{◌≡◌, ℕ, ◌≤◌, ◌<◌}
use Rattle.sizes.specs.declared.Sizes.{Sizes}
use Rattle.sizes.specs.Sizes.{values_of}

-- Sizes that passed: `sizes_good` as propositions; an attribute that the book has not has no values.
pub record InRange (z : Sizes) : Type 0 where
  pub persons_some : 1 ≤ z.persons
  pub persons_most : z.persons ≤ 64
  pub crews_most : z.crews ≤ 32
  pub attrs_some : 1 ≤ z.attrs
  pub attrs_most : z.attrs ≤ 8
  pub values_some : (a : ℕ) → a < z.attrs → 1 ≤ values_of z a
  pub values_most : (a : ℕ) → values_of z a ≤ 16
  pub values_none : (a : ℕ) → z.attrs ≤ a → values_of z a ≡ 0
