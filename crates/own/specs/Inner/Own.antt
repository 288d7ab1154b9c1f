-- A book that only grows, as growing states of its query's person's facts: value v of attribute a is 16·a + v, membership in crew c is
-- 128 + c. The book's rules that add such facts are the rules of the states.
use Rattle.std.specs.Prelude.{◌≡◌, ◌⊎◌, Bool, true, not, cond, ◌&&◌, ℕ, ◌+◌, ◌-◌, ◌*◌, ◌<◌, ltb, length, get_or}
use Rattle.widths.specs.Inner.Widths.{level_size}
use Rattle.sets.specs.Sets.{member}
use Rattle.frames.specs.declared.Rule.{Rule}
use Rattle.frames.specs.declared.Term.{Term}
use Rattle.frames.specs.Book.{Contents, no_term, no_rule}
use Rattle.theory.specs.Inner.Facts.{State}
use Rattle.theory.specs.Inner.Plan.{Ask}
use Rattle.level.specs.Inner.Moves.{place_of}
use Rattle.level.specs.Inner.Terms.{code_of}
use Rattle.reach.specs.Inner.Tracked.{person_level}
use Rattle.growth.specs.Inner.Growth.{Rules}
use Rattle.own.specs.Inner.Wanted.{wanted_at}

-- The person's facts of a tracked state.
unfoldable pub own : Contents → State → State
own b S f = ltb f level_size && S (level_size * person_level b + f)

-- What the query asks for in mode 03.
unfoldable pub wanted_by : Contents → State
wanted_by b f = ltb f level_size && wanted_at b.query f

-- ---------------------------------------------------------------- terms

-- What a term's place says of a state: below 160 that this fact is there, 160 + g that g is lacking.
unfoldable pub says_of : State → ℕ → Bool
says_of S k = cond (ltb k level_size) (S k) (not (S (k - level_size)))

abbrev pub code_of_term : Term → ℕ
code_of_term t = code_of t.kind t.a t.v

-- The place of term i of a rule.
abbrev pub code_at : Rule → ℕ → ℕ
code_at r i = code_of_term (get_or r.terms i no_term)

-- Some term of the rule has the place k.
pub record HasTerm (r : Rule) (k : ℕ) : Type 0 where
  pub at : ℕ
  pub counts : at < r.n
  pub is : code_at r at ≡ k

-- ---------------------------------------------------------------- rules

-- Rule j of the book.
abbrev pub book_rule : Contents → ℕ → Rule
book_rule b j = get_or b.rules j no_rule

-- The ops that add a fact of a person.
abbrev pub AddsOwn : ℕ → Type 0
AddsOwn op = (op ≡ 1) ⊎ (op ≡ 5)

abbrev pub place_of_rule : Rule → ℕ
place_of_rule r = place_of r.op r.a r.v

-- Rule j of the book adds the person's fact f by one of the query's roles, and its terms are what R asks and bars for f.
pub record IsRule (b : Contents) (R : Rules) (f j : ℕ) : Type 0 where
  pub listed : j < length b.rules
  pub op : AddsOwn (book_rule b j).op
  pub place : place_of_rule (book_rule b j) ≡ f
  pub role : member b.query.roles (book_rule b j).role.0 ≡ true
  pub asks : (g : ℕ) → R.asks f g → (g < level_size) × HasTerm (book_rule b j) g
  pub bars : (g : ℕ) → R.bars f g → (g < level_size) × HasTerm (book_rule b j) (level_size + g)
  pub asked : (i g : ℕ) → i < (book_rule b j).n → code_at (book_rule b j) i ≡ g → g < level_size → R.asks f g
  pub barred : (i g : ℕ) → i < (book_rule b j).n → code_at (book_rule b j) i ≡ level_size + g → g < level_size → R.bars f g

-- The rule of a fact that may be added.
pub record RuleFor (b : Contents) (R : Rules) (f : ℕ) : Type 0 where
  pub at : ℕ
  pub is : IsRule b R f at

-- R has the rules of the book that add facts of the person by one of the query's roles, and no others.
pub record RulesOf (b : Contents) (R : Rules) : Type 0 where
  pub rule : (f : ℕ) → R.usable f → RuleFor b R f
  pub every : (j : ℕ) → j < length b.rules → AddsOwn (book_rule b j).op → member b.query.roles (book_rule b j).role.0 ≡ true
      → R.usable (place_of_rule (book_rule b j))

-- The request of a rule for the query's person.
abbrev pub ask_of_rule : Contents → Rule → Ask
ask_of_rule b r =
    record {
      fact = level_size * person_level b + place_of_rule r;
      op = r.op;
      role = r.role.0;
      subject = b.query.person.0;
      a = r.a;
      v = r.v;
    }
