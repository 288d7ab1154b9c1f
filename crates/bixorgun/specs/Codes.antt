-- Answers as numbers, for programs in other languages.
use Rattle.std.specs.Prelude.{◌≡◌, cond, List, [], ◌∷◌, ◌++◌, ℕ, ◌+◌, ◌*◌, ◌/◌, ◌%◌, leb, length, drop, set}
use Rattle.ledger.specs.Ledger.{Reply, Told, no_place, on_line, at_term, Said, done as done_said, refusal}
use Rattle.ledger.specs.Show.{View}
use Rattle.replay.specs.declared.Judgement.{Judgement}
use Rattle.replay.specs.declared.Judgement.TheVariants.{Reaches, Stops, EndsShort}
use Rattle.replay.specs.Replay.{Said as ReplaySaid, judged, refusal as replay_refusal}
use Rattle.planner.specs.Answer.{Planned}
use Rattle.planner.specs.Answer.{Said as PlanSaid, said80, said81, said8_f, said as plan_said, PlanPromise}
use Rattle.page.specs.Page.{Paged}
use Rattle.page.specs.Page.{Said as PageSaid, done as page_done, refusal as page_refusal, said as page_said, PagePromise}

-- ---------------------------------------------------------------- one number

-- The results: done; refused; no way, plan; reaches, stops, ends short; no room for what show gives.
abbrev pub done : ℕ
done = 0

abbrev pub refused : ℕ
refused = 1

abbrev pub no_way : ℕ
no_way = 2

abbrev pub plan : ℕ
plan = 3

abbrev pub reaches : ℕ
reaches = 4

abbrev pub stops : ℕ
stops = 5

abbrev pub ends_short : ℕ
ends_short = 6

abbrev pub no_room : ℕ
no_room = 7

-- An answer: the result in the lowest byte, a refusal's number in the next, and above them a refusal's line, or its rule and term, a
-- plan's count or the request at which replay stops, each below 2^48.
unfoldable pub code : ℕ → ℕ → ℕ → ℕ
code result number value = result + 256 * number + 65536 * (value % 281474976710656)

-- ---------------------------------------------------------------- the operations' answers

-- What a refusal tells, as one number: its line, or 256 × rule + term.
abbrev pub told_value : Told → ℕ
told_value no_place = 0
told_value (on_line n) = n
told_value (at_term rule term) = 256 * rule + term

abbrev pub said_code : Said → ℕ
said_code done_said = code done 0 0
said_code (refusal number t) = code refused number (told_value t)

abbrev pub judgement_code : Judgement → ℕ
judgement_code Reaches = code reaches 0 0
judgement_code (Stops k) = code stops 0 k
judgement_code EndsShort = code ends_short 0 0

abbrev pub replay_code : ReplaySaid → ℕ
replay_code (judged j) = judgement_code j
replay_code (replay_refusal number line) = code refused number line

abbrev pub plan_code : PlanSaid → ℕ
plan_code said80 = code no_way 0 0
plan_code (said81 n) = code plan 0 n
plan_code (said8_f number line) = code refused number line

abbrev pub page_code : PageSaid → ℕ
page_code page_done = code done 0 0
page_code (page_refusal number line) = code refused number line

-- ---------------------------------------------------------------- answers with a lent buffer

-- The answer's number, and every byte of the lent buffer afterwards.
pub record Coded : Type 0 where
  pub number : ℕ
  pub bytes : List ℕ

abbrev pub coded : ℕ → List ℕ → Coded
coded n bytes = record { number = n; bytes = bytes }

-- open and request.
abbrev pub reply_coded : Reply → Coded
reply_coded r = coded (said_code r.answer) r.ledger

-- "Sets are big-endian": a set of values as two bytes, a set of crews as four.
abbrev pub two : ℕ → List ℕ
two x = (x / 256 % 256) ∷ (x % 256) ∷ []

abbrev pub four : ℕ → List ℕ
four x = two (x / 65536) ++ two x

-- A buffer with a set's two bytes written at a place.
abbrev pub put_two : List ℕ → ℕ → ℕ → List ℕ
put_two view at x = set (set view at (x / 256 % 256)) (at + 1) (x % 256)

-- The sets one behind the other.
unfoldable pub twos : List ℕ → List ℕ
twos [] = []
twos (x ∷ xs) = two x ++ twos xs

-- What show gives as 20 bytes: "a person's eight effective sets [..] and effective crews".
abbrev pub view_bytes : List ℕ → ℕ → List ℕ
view_bytes sets crews = twos sets ++ four crews

-- show: the view fills the buffer's front; a buffer under 20 bytes, and one lent on a refusal, keeps its bytes.
abbrev pub view_coded_for : Said → List ℕ → ℕ → List ℕ → Coded
view_coded_for (refusal number t) sets crews before = coded (code refused number (told_value t)) before
view_coded_for done_said sets crews before =
    cond (leb 20 (length before)) (coded (code done 0 0) (view_bytes sets crews ++ drop 20 before)) (coded (code no_room 0 0) before)

abbrev pub view_coded : View → List ℕ → Coded
view_coded v before = view_coded_for v.answer v.sets v.crews before

-- plan: the number of an answer that keeps the promise of plan.
pub record PlanCoded (chars before : List ℕ) (n : ℕ) (out : List ℕ) : Type 0 where
  pub answer : Planned
  pub is : n ≡ plan_code (plan_said answer)
  pub kept : PlanPromise chars before answer out

-- page: the number of an answer that keeps the promise of page.
pub record PageCoded (chars before : List ℕ) (n : ℕ) (out : List ℕ) : Type 0 where
  pub answer : Paged
  pub is : n ≡ page_code (page_said answer)
  pub kept : PagePromise chars before answer out
