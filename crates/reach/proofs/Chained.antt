-- A chain's requests on tracked facts, as requests of the theory.
use Prim.Native.Nat.{ℕ}
use mathlib.Core.Path.{◌≡◌}
use mathlib.Core.Bool.{true, cond}
use mathlib.Core.List.{List, [], ◌∷◌}
use lib.ListN.{length, get_or}
use Rattle.facts.specs.Facts.{holds, ledger_size}
use Rattle.facts.specs.declared.Fact.{Fact}
use Rattle.frames.specs.Book.{Contents}
use Rattle.frames.specs.Inner.Fits.{in_sizes}
use Rattle.requests.specs.Requests.{adds, request_of}
use Rattle.theory.specs.Inner.Plan.{Ask, Req, req}
use Rattle.reach.specs.Inner.Tracked.{tracked, number_of, bytes_of}

-- A ledger of 1,792 bytes without a fact outside the sizes.
pub record Kept (b : Contents) (l : List ℕ) : Type 0 where
  pub room : length l ≡ ledger_size
  pub inside : (f : Fact) → holds l f ≡ true → in_sizes b.sizes f ≡ true

-- The request of five bytes.
unfoldable pub ask_for : Contents → List ℕ → Ask
ask_for b q =
    record {
      fact = number_of b (request_of q).fact;
      op = get_or q 0 0;
      role = get_or q 1 0;
      subject = get_or q 2 0;
      a = get_or q 3 0;
      v = get_or q 4 0;
    }

-- The requests of a chain on tracked facts, in order.
unfoldable pub tracked_of : Contents → List (List ℕ) → List Req
tracked_of b [] = []
tracked_of b (q ∷ qs) = cond (tracked b (request_of q).fact) (req (adds (request_of q).op) (ask_for b q) ∷ tracked_of b qs) (tracked_of b qs)

-- The five bytes of a request of the theory.
abbrev pub five_of : Req → List ℕ
five_of (req on q) = bytes_of q
