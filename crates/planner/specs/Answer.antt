-- The answer of plan, with every byte of the lent buffer. Paper 01, "The planner", and demand 3.
use Rattle.std.specs.Prelude.{Result, Ok, Err, Option, Some, None, ◌≡◌, List, ℕ, ◌*◌, ◌≤◌, ◌<◌, length, take, drop}
use Rattle.frames.specs.Book.{Contents, Answer, refused, accepted, book_of}
use Rattle.frames.specs.Book as frames
use Rattle.replay.specs.Chains.{fives}
use Rattle.replay.specs.Replay.{judged, replay_in}
use Rattle.replay.specs.declared.Judgement.TheVariants.{Reaches}
use Rattle.frames.specs.declared.LentRefusal.{LentRefusal}
use Rattle.sizes.specs.Sizes.{fact_count}
use Rattle.planner.specs.Promise as promise

-- The table's number of each refusal: 10 is "plan buffer under 10 × F".
abbrev pub refusal_number : LentRefusal → ℕ
refusal_number r = frames.lent_number 10 r

-- What plan says, in the paper's numbers: `80`, `81` and the count, or `8F` with a refusal's number and line.
pub data Said : Type 0 where
  said80 : Said
  said81 : ℕ → Said
  said8_f : ℕ → ℕ → Said

-- The code's answer: no way, the count of the plan's requests, or a refusal.
abbrev pub Planned : Type 0
Planned = Result (Option ℕ) LentRefusal

abbrev pub said : Planned → Said
said (Ok None) = said80
said (Ok (Some n)) = said81 n
said (Err r) = said8_f (refusal_number r) (frames.lent_line r)

-- "A plan fills its front, five bytes a request": the bytes of a plan of n requests.
abbrev pub front : ℕ → List ℕ → List ℕ
front n out = take (5 * n) out

-- Demand 3 for a plan of n requests in the buffer's front.
pub record PlanGiven (b : Contents) (before : List ℕ) (n : ℕ) (out : List ℕ) : Type 0 where
  -- "a plan and the count of its requests"
  pub count : length (fives (front n out)) ≡ n
  -- "every request of the plan is made by one of those roles, is permitted when its turn comes, and changes the ledger. The last
  -- ledger meets the query. [..] no fact is added more than once, nor deleted more than once."
  pub works : promise.Works b (fives (front n out))
  -- "Replay answers `reaches` to it."
  pub reaches : replay_in b (front n out) ≡ judged Reaches
  -- "at most 2 × F requests; bytes behind it keep their content"
  pub few : n ≤ 2 * fact_count b.sizes
  pub size : length out ≡ length before
  pub behind : drop (5 * n) out ≡ drop (5 * n) before

-- "It returns no way, and the buffer keeps its bytes, or a plan's count of requests."
abbrev pub Decided : Contents → List ℕ → Said → List ℕ → Type 0
Decided b before said80 out = promise.NoWay b × (out ≡ before)
Decided b before (said81 n) out = PlanGiven b before n out
Decided b before (said8_f n k) out = ⊥

-- Under an accepted book: 10 where the buffer is "under 10 × F", else what demand 3 says.
pub record Answered (b : Contents) (before : List ℕ) (answer : Said) (out : List ℕ) : Type 0 where
  pub short : length before < 10 * fact_count b.sizes → (answer ≡ said8_f 10 0) × (out ≡ before)
  pub long : 10 * fact_count b.sizes ≤ length before → Decided b before answer out

-- The book's refusals come first.
abbrev pub AnsweredFor : Answer → List ℕ → Said → List ℕ → Type 0
AnsweredFor (refused r) before answer out = (answer ≡ said8_f (frames.refusal_number r) (frames.refusal_line r)) × (out ≡ before)
AnsweredFor (accepted b) before answer out = Answered b before answer out

-- The promise of plan, on the book's characters.
pub record PlanPromise (chars : List ℕ) (before : List ℕ) (answer : Planned) (out : List ℕ) : Type 0 where
  pub kept : AnsweredFor (book_of chars) before (said answer) out
