-- A row of the table: a book, and what the paper claims of it. What a claim means is said by the product's own definitions on
-- the book's characters.
use Rattle.std.specs.Prelude.{◌≡◌, true, false, List, [], ◌∷◌, ℕ}
use Prim.Native.String.{String}
use Rattle.facts.specs.Facts.{holds, no_facts}
use Rattle.facts.specs.declared.Person.{Person}
use Rattle.frames.specs.Book.{Contents, accepted, book_of}
use Rattle.requests.specs.Requests.{request_of}
use Rattle.ledger.specs.Ledger.{Done}
use Rattle.ledger.specs.Ledger.{reply, open_reply, request_reply}
use Rattle.ledger.specs.Show.{shown, show_view}
use Rattle.replay.specs.declared.Judgement.TheVariants.{Reaches}
use Rattle.replay.specs.Replay.{judged, replayed}
use Rattle.planner.specs.Promise.{NoWay}
use Rattle.cases.specs.Text.{written, five, fives_of}

-- A claim about a book, its ledger of starting facts and person 0. A set of values or crews is a number, "weight 2^v for number v".
pub data Claim : Type 0 where
  -- "A list named here is one that replay accepts."
  reaches : List String → Claim
  -- "no way"
  no_way : Claim
  -- Person 0 effectively holds this set of attribute 0 and is effectively in this set of crews.
  shows : ℕ → ℕ → Claim
  -- This request, whose fact is not in the ledger, is "permitted, ledger equal"; person 0 is as in `shows`.
  unchanged : String → ℕ → ℕ → Claim
  -- This request is carried out and takes its fact out of the ledger; person 0 is then as in `shows`.
  deletes : String → ℕ → ℕ → Claim

pub record Row : Type 0 where
  pub book : List String
  pub claim : Claim

-- "One person"
abbrev pub sorter : Person
sorter = record { 0 = 0 }

-- The person's "eight effective sets", where the book has attribute 0 alone.
abbrev pub eight_sets : ℕ → List ℕ
eight_sets values = values ∷ 0 ∷ 0 ∷ 0 ∷ 0 ∷ 0 ∷ 0 ∷ 0 ∷ []

-- The book is accepted, and no chain whatever leads to a ledger that meets its query.
pub record Unreachable (chars : List ℕ) : Type 0 where
  pub book : Contents
  pub read : book_of chars ≡ accepted book
  pub never : NoWay book

-- What open writes into a ledger.
pub record Opened (chars l : List ℕ) : Type 0 where
  pub opens : open_reply chars no_facts ≡ reply Done l

-- What show gives of the person.
pub record Viewed (chars l : List ℕ) (values crews : ℕ) : Type 0 where
  pub view : show_view chars l sorter ≡ shown (eight_sets values) crews

pub record Showing (chars : List ℕ) (values crews : ℕ) : Type 0 where
  pub ledger : List ℕ
  pub opened : Opened chars ledger
  pub viewed : Viewed chars ledger values crews

pub record Unchanging (chars q : List ℕ) (values crews : ℕ) : Type 0 where
  pub ledger : List ℕ
  pub opened : Opened chars ledger
  pub missing : holds ledger (request_of q).fact ≡ false
  pub viewed : Viewed chars ledger values crews
  pub equal : request_reply chars ledger q ≡ reply Done ledger

pub record Deleting (chars q : List ℕ) (values crews : ℕ) : Type 0 where
  pub ledger : List ℕ
  pub opened : Opened chars ledger
  pub there : holds ledger (request_of q).fact ≡ true
  pub left : List ℕ
  pub carried_out : request_reply chars ledger q ≡ reply Done left
  pub gone : holds left (request_of q).fact ≡ false
  pub viewed : Viewed chars left values crews

-- What a claim means of a book's characters.
unfoldable pub Means : List ℕ → Claim → Type 0
Means chars (reaches list) = replayed chars (fives_of list) ≡ judged Reaches
Means chars no_way = Unreachable chars
Means chars (shows values crews) = Showing chars values crews
Means chars (unchanged q values crews) = Unchanging chars (five q) values crews
Means chars (deletes q values crews) = Deleting chars (five q) values crews

abbrev pub Meant : Row → Type 0
Meant r = Means (written r.book) r.claim
