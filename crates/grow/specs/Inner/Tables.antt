-- The rules of a person's facts as tables: which of the 160 facts a rule adds, and eight terms of each. A term below 160 asks that this
-- fact is there, one below 320 that the fact 160 lower is lacking; any other asks nothing.
use Rattle.std.specs.Prelude.{Option, Some, None, ◌≡◌, Bool, true, false, not, cond, ◌&&◌, List, ℕ, ◌+◌, ◌-◌, ◌*◌, ◌/◌, ◌≤◌, ◌<◌, eqb, ltb, length, get_or, take}
use Rattle.widths.specs.Inner.Widths.{level_size, idle_at}
use Rattle.quantifiers.specs.Quantifiers.{any_below}
use Rattle.theory.specs.Inner.Facts.{State, ◌⊆◌}
use Rattle.shown.specs.Inner.Shown.{direct}
use Rattle.growth.specs.Inner.Growth.{Rules, NoWay, Way}
use Rattle.growth.specs.Inner.Peeling.{Needed, Free, Peeled}

-- Term i of all rules; term j of the rule of f is term 8·f + j.
abbrev pub term : List ℕ → ℕ → ℕ
term ts i = get_or ts i 0

-- A flag.
abbrev pub flag : List Bool → ℕ → Bool
flag x f = get_or x f false

-- The rule of f has the term k.
unfoldable pub says : List ℕ → ℕ → ℕ → Bool
says ts f k = any_below (λ j. eqb (term ts (8 * f + j)) k) 8

-- The rules of the tables.
abbrev pub rules_in : List Bool → List ℕ → Rules
rules_in us ts = record {
  usable = λ f. (f < level_size) × (flag us f ≡ true);
  asks = λ f g. (g < level_size) × (says ts f g ≡ true);
  bars = λ f g. (g < level_size) × (says ts f (level_size + g) ≡ true);
  F = level_size;
  known = λ f u. u.0;
}

-- ---------------------------------------------------------------- tests

-- Term i asks for a fact that is not in d, and its rule is that of a fact of d that is not in s.
unfoldable pub new_at : List ℕ → List Bool → List Bool → ℕ → Bool
new_at ts s d i = ltb (term ts i) level_size && (flag d (i / 8) && not (flag s (i / 8)) && not (flag d (term ts i)))

-- Term i does not hold in x.
unfoldable pub fails_at : List ℕ → List Bool → ℕ → Bool
fails_at ts x i =
    cond (ltb (term ts i) level_size) (not (flag x (term ts i)))
    (cond (ltb (term ts i) idle_at) (flag x (term ts i - level_size)) false)

-- Some term of the rule of f does not hold in x.
abbrev pub unmet_at : List ℕ → List Bool → ℕ → Bool
unmet_at ts x f = any_below (λ j. fails_at ts x (8 * f + j)) 8

-- h is another fact than f, of d and not in x, and its rule asks that f is lacking.
unfoldable pub bars_at : List ℕ → List Bool → List Bool → ℕ → ℕ → Bool
bars_at ts d x f h = not (eqb h f) && flag d h && not (flag x h) && says ts h (level_size + f)

-- f is of d and not in x, its rule may be used and all its terms hold in x, and no other such fact asks that it is lacking.
unfoldable pub free_at : List Bool → List ℕ → List Bool → List Bool → ℕ → Bool
free_at us ts d x f = flag d f && not (flag x f) && flag us f && (not (unmet_at ts x f) && not (any_below (bars_at ts d x f) level_size))

-- ---------------------------------------------------------------- what the functions promise

-- From d₀ to d only needed facts are put in, and d is closed under what the rules of the facts that s lacks ask for.
pub record Gathered (ts : List ℕ) (s d₀ d : List Bool) : Type 0 where
  pub size : length d ≡ level_size
  pub from : direct d₀ ⊆ direct d
  pub needed : (us : List Bool) (W : State) → Needed (rules_in us ts) (direct s) W (direct d₀) → Needed (rules_in us ts) (direct s) W (direct d)
  pub closed : (us : List Bool) (f g : ℕ) → direct d f ≡ true → direct s f ≡ false → (rules_in us ts).asks f g → direct d g ≡ true

-- The first n of `order` lead from x₀ to x, and nothing more is free.
pub record Added (us : List Bool) (ts : List ℕ) (d x₀ x : List Bool) (order : List ℕ) (n : ℕ) : Type 0 where
  pub size : length x ≡ level_size
  pub few : n ≤ level_size
  pub peeled : Peeled (rules_in us ts) (direct x₀) (direct d) (direct x) (take n order)
  pub done : (f : ℕ) → Free (rules_in us ts) (direct d) (direct x) f → ⊥

-- Whether there is a way, and how many facts it adds.
abbrev pub is_way : Option ℕ → Bool
is_way (Some n) = true
is_way None = false

abbrev pub count_of : Option ℕ → ℕ
count_of (Some n) = n
count_of None = 0

-- A way from s to w, in the front of `order`; or there is none.
pub record Answer (us : List Bool) (ts : List ℕ) (s w : List Bool) (order : List ℕ) (found : Bool) (n : ℕ) : Type 0 where
  pub few : n ≤ level_size
  pub way : found ≡ true → Way (rules_in us ts) (direct s) (direct w) (take n order)
  pub none : found ≡ false → NoWay (rules_in us ts) (direct s) (direct w)
