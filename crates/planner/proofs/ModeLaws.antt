-- What the mode says of an accepted book: mode 03 is that of books that only grow, and any other is planned by levels.
use mathlib.Core.Path.{◌≡◌}
use native.Mathlib.Omega.{arith}
use lib.Dec.{leb}
use borrow.Author.Tests.{le-leb, ne_eqb}
use Rattle.quantifiers.proofs.BoolLaws.{and_from}
use Rattle.sizes.proofs.SizeLaws.{between-true}
use Rattle.frames.specs.Book.{Contents}
use Rattle.frames.specs.Inner.Fits.{Admitted}
use Rattle.frames.proofs.LimitLaws.{plain_mode, grows_mode}
use Rattle.reach.specs.Inner.Leveled.{Leveled}
use Rattle.reach.specs.Inner.Growing.{Growing}

pub leveled : (b : Contents) → Admitted b → (b.query.mode ≡ 3 → ⊥) → Leveled b
leveled b ok other =
    let mode = b.query.mode in
    let range = between-true 1 3 mode ok.query_in.mode in
    record {
      book = ok;
      plain = plain_mode b ok (ne_eqb mode 3 other);
      mode = and_from (leb 1 mode) (leb mode 2) (le-leb 1 mode range.0) (le-leb mode 2 (omega (arith, range.1)));
    }

pub growing : (b : Contents) → Admitted b → b.query.mode ≡ 3 → Growing b
growing b ok is = let limits = grows_mode b ok is in record { book = ok; rules = limits.0; once = limits.1; mode = is }
