-- The books that only grow: those with "not" terms, in mode 03.
use Rattle.std.specs.Prelude.{◌≡◌, true, false}
use Rattle.quantifiers.specs.Quantifiers.{all}
use Rattle.frames.specs.Limits.{growing, twice}
use Rattle.frames.specs.Book.{Contents}
use Rattle.frames.specs.Inner.Fits.{Admitted}

-- An accepted book whose rules add alone, by direct terms, at most one for each op, a and v, and whose query has mode 03.
pub record Growing (b : Contents) : Type 0 where
  pub book : Admitted b
  pub rules : all growing b.rules ≡ true
  pub once : twice b.rules ≡ false
  pub mode : b.query.mode ≡ 3
