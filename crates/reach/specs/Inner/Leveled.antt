-- The books that are planned level by level: those without "not" terms, in mode 01 or 02.
use Rattle.std.specs.Prelude.{◌≡◌, true}
use Rattle.sizes.specs.Sizes.{between}
use Rattle.frames.specs.Limits.{all_plain}
use Rattle.frames.specs.Book.{Contents}
use Rattle.frames.specs.Inner.Fits.{Admitted}

-- An accepted book whose rules have no "not" term, and whose query has mode 01 or 02.
pub record Leveled (b : Contents) : Type 0 where
  pub book : Admitted b
  pub plain : all_plain b.rules ≡ true
  pub mode : between 1 2 b.query.mode ≡ true
