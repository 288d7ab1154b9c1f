-- The facts that planning tracks: the crews' values, and the values and memberships of the query's person. Tracked fact 160·k + f
-- is fact f of level k: crew k's facts stand at level k, the person's at the level above all crews. Value v of attribute a is
-- f = 16·a + v, membership in crew c is f = 128 + c.
use Rattle.std.specs.Prelude.{ℕ, ◌+◌, ◌-◌, ◌*◌, ◌/◌, ◌%◌, ◌<◌, ◌≡◌, Bool, true, cond, ◌&&◌, List, [], ◌∷◌, eqb, ltb}
use Rattle.widths.specs.Inner.Widths.{level_size, depot_size}
use Rattle.sets.specs.Sets.{member}
use Rattle.facts.specs.declared.Fact.{Fact}
use Rattle.facts.specs.declared.Fact.TheVariants.{Holds, CrewHolds, Member}
use Rattle.frames.specs.Book.{Contents}
use Rattle.requests.specs.declared.Request.{Request}
use Rattle.requests.specs.Requests.{adds, request_of, well_formed}
use Rattle.rules.specs.Rules.{permitted}
use Rattle.theory.specs.Inner.Facts.{State}
use Rattle.theory.specs.Inner.Plan.{Ask}

-- The level of the query's person: above every crew.
abbrev pub person_level : Contents → ℕ
person_level b = b.sizes.crews

-- Whether a fact is about the query's person.
abbrev pub is_asked : Contents → ℕ → Bool
is_asked b p = eqb p b.query.person.0

-- A fact is tracked where it is a crew's, or the query's person's, and has a place.
unfoldable pub tracked : Contents → Fact → Bool
tracked b (Holds p a v) = is_asked b p.0 && (ltb a.0 8 && ltb v 16)
tracked b (CrewHolds c a v) = ltb c.0 b.sizes.crews && (ltb a.0 8 && ltb v 16)
tracked b (Member p c) = is_asked b p.0 && ltb c.0 32

-- Its number.
unfoldable pub number_of : Contents → Fact → ℕ
number_of b (Holds p a v) = level_size * person_level b + (16 * a.0 + v)
number_of b (CrewHolds c a v) = level_size * c.0 + (16 * a.0 + v)
number_of b (Member p c) = level_size * person_level b + (128 + c.0)

-- The set of facts that a state of the tracked facts stands for; nothing else holds in it.
unfoldable pub lift : Contents → State → Fact → Bool
lift b S f = tracked b f && S (number_of b f)

-- The fact of a number: fact f of level k.
unfoldable pub fact_at : Contents → ℕ → ℕ → Fact
fact_at b k f =
    cond (ltb k (person_level b)) (CrewHolds (record { 0 = k }) (record { 0 = f / 16 }) (f % 16))
    (cond (ltb f 128) (Holds b.query.person (record { 0 = f / 16 }) (f % 16))
    (Member b.query.person (record { 0 = f - 128 })))

-- Whether a number is a tracked fact's.
unfoldable pub is_number : Contents → ℕ → Bool
is_number b g = cond (ltb (g / level_size) (person_level b)) (ltb (g % level_size) 128) (eqb (g / level_size) (person_level b))

-- The state of the tracked facts in a set of facts.
unfoldable pub track : Contents → (Fact → Bool) → State
track b F g = is_number b g && F (fact_at b (g / level_size) (g % level_size))

-- The five bytes of a request of the theory.
abbrev pub bytes_of : Ask → List ℕ
bytes_of q = q.op ∷ q.role ∷ q.subject ∷ q.a ∷ q.v ∷ []

abbrev pub asked : Ask → Request
asked q = request_of (bytes_of q)

-- A request on a tracked fact is permitted in a state: well formed by 12, its role one of the query's, some rule permits it there.
pub record May (b : Contents) (S : State) (on : Bool) (q : Ask) : Type 0 where
  pub formed : well_formed b.sizes (bytes_of q) ≡ true
  pub role : member b.query.roles q.role ≡ true
  pub adding : adds q.op ≡ on
  pub of_fact : tracked b (asked q).fact ≡ true
  pub number : number_of b (asked q).fact ≡ q.fact
  pub bounded : q.fact < depot_size
  pub allows : permitted b.juniors b.rules (lift b S) (asked q) ≡ true
