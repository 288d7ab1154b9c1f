-- Requests of five bytes in a buffer: op, role, subject, a, v.
use Rattle.std.specs.Prelude.{◌≡◌, ◌≢◌, List, [], ◌∷◌, ℕ, zero, suc, ◌+◌, ◌*◌, length, get_or}
use Rattle.theory.specs.Inner.Plan.{Ask}
use Rattle.level.specs.Inner.Moves.{place_of}

-- Request `k` of a buffer.
unfoldable pub ask_at : List ℕ → ℕ → Ask
ask_at out k = record {
  fact = place_of (get_or out (5 * k) 0) (get_or out (5 * k + 3) 0) (get_or out (5 * k + 4) 0);
  op = get_or out (5 * k) 0;
  role = get_or out (5 * k + 1) 0;
  subject = get_or out (5 * k + 2) 0;
  a = get_or out (5 * k + 3) 0;
  v = get_or out (5 * k + 4) 0;
}

-- `n` requests from request `k` on.
unfoldable pub asks : List ℕ → ℕ → ℕ → List Ask
asks out k zero = []
asks out k (suc n) = ask_at out k ∷ asks out (suc k) n

-- `out'` is `out` with the request `k` written.
pub record Noted (out : List ℕ) (k : ℕ) (q : Ask) (out' : List ℕ) : Type 0 where
  pub size : length out' ≡ length out
  pub here : ask_at out' k ≡ q
  pub there : (j : ℕ) → j ≢ k → ask_at out' j ≡ ask_at out j
