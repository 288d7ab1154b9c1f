-- What one subject, a crew or the query's person, shows to a rule's terms.
-- A level has 160 facts: 16 * a + v for value v of attribute a, and 128 + c for membership in crew c. A subject shows 448 flags: the direct facts,
-- behind them the effective ones, and from place 320 on, at 320 + 16 * a + v, whether v or a higher value of a is effective. A term is the place of
-- its flag. The table has a row of 160 flags for each crew, what the crew hands on, and row 32, what the subject inherits anyhow.
use Rattle.std.specs.Prelude.{◌≡◌, Bool, true, false, not, cond, ◌&&◌, ◌||◌, List, ℕ, ◌+◌, ◌-◌, ◌*◌, ◌/◌, ◌%◌, ◌≤◌, ◌<◌, eqb, ltb, leb, length, get_or}
use Rattle.widths.specs.Inner.Widths.{level_size, higher_at, flags_size, table_size}
use Rattle.quantifiers.specs.Quantifiers.{any_below, any_from}
use Rattle.theory.specs.Inner.Facts.{State}

-- A flag of the row of crew `c` in the table: what the crew hands on. Row 32 is what the subject inherits anyhow.
unfoldable pub row : List Bool → ℕ → ℕ → Bool
row T c f = get_or T (level_size * c + f) false

-- What the subject with the direct facts `S` inherits: what it inherits anyhow, and what each of its crews hands on.
unfoldable pub inherited : List Bool → State → ℕ → Bool
inherited T S f = row T 32 f || any_below (λ c. S (128 + c) && row T c f) 32

-- What it shows of facts, at the first 320 places: its direct facts, and from place 160 on its effective ones.
unfoldable pub visible_fact : List Bool → State → ℕ → Bool
visible_fact T S k = cond (ltb k level_size) (S k) (S (k - level_size) || inherited T S (k - level_size))

-- What stands at each of the 448 places, by what stands at the first 320: from there on, whether a value or a higher one of its attribute is effective.
unfoldable pub extended : (ℕ → Bool) → ℕ → Bool
extended g k =
    cond (ltb k higher_at) (g k) (any_from (λ w. g (level_size + (16 * ((k - higher_at) / 16) + w))) ((k - higher_at) % 16) 16)

-- What it shows at a place.
unfoldable pub visible : List Bool → State → ℕ → Bool
visible T S k = extended (visible_fact T S) k

-- The direct facts of a subject's flags.
unfoldable pub direct : List Bool → State
direct x f = ltb f level_size && get_or x f false

-- The flags of facts are what the subject with its own direct facts shows of them.
pub record WholeFacts (T x : List Bool) : Type 0 where
  pub size : length x ≡ flags_size
  pub rows : length T ≡ table_size
  pub shows : (k : ℕ) → k < higher_at → get_or x k false ≡ visible_fact T (direct x) k

-- The flags are what the subject with its own direct facts shows.
pub record Whole (T x : List Bool) : Type 0 where
  pub size : length x ≡ flags_size
  pub rows : length T ≡ table_size
  pub shows : (k : ℕ) → k < flags_size → get_or x k false ≡ visible T (direct x) k

-- What the fact `f` adds at the first 320 places: itself, and a membership also what its crew hands on.
unfoldable pub touches_fact : List Bool → ℕ → ℕ → Bool
touches_fact T f k = cond (ltb k level_size) (eqb k f) (eqb (k - level_size) f || (not (ltb f 128) && row T (f - 128) (k - level_size)))

-- What it adds at a place.
unfoldable pub touches : List Bool → ℕ → ℕ → Bool
touches T f k = extended (touches_fact T f) k

-- The flags `z` are `x` with the flags `g` added among the first 320.
pub record More (x : List Bool) (g : ℕ → Bool) (z : List Bool) : Type 0 where
  pub size : length z ≡ length x
  pub flags : (k : ℕ) → k < higher_at → get_or z k false ≡ get_or x k false || g k
  pub rest : (k : ℕ) → higher_at ≤ k → get_or z k false ≡ get_or x k false

-- The flags that a crew's row adds.
unfoldable pub row_flags : List Bool → ℕ → ℕ → Bool
row_flags T c k = not (ltb k level_size) && row T c (k - level_size)

-- The flags `z` are `x` with the fact `f` put in.
pub record Put (T x : List Bool) (f : ℕ) (z : List Bool) : Type 0 where
  pub size : length z ≡ length x
  pub flags : (k : ℕ) → k < flags_size → get_or z k false ≡ get_or x k false || touches T f k

-- The flags `z` are `x` below place 320, and from there on what follows from them.
pub record Extended (x z : List Bool) : Type 0 where
  pub size : length z ≡ length x
  pub below : (k : ℕ) → k < higher_at → get_or z k false ≡ get_or x k false
  pub above : (k : ℕ) → higher_at ≤ k → k < flags_size → get_or z k false ≡ extended (λ j. get_or x j false) k

-- The flags `z` are `x` with those of one attribute from place 320 on written: for each value, whether it or a higher one is effective.
pub record ExtendedAt (a : ℕ) (x z : List Bool) : Type 0 where
  pub size : length z ≡ length x
  pub here : (v : ℕ) → v < 16 → get_or z (higher_at + (16 * a + v)) false ≡ any_from (λ w. get_or x (level_size + (16 * a + w)) false) v 16
  pub there : (k : ℕ) → ((v : ℕ) → v < 16 → k ≡ higher_at + (16 * a + v) → ⊥) → get_or z k false ≡ get_or x k false

-- From place 320 on, where a value's flag stands so do those of the lower values of its attribute.
pub record Falls (x : List Bool) : Type 0 where
  pub size : length x ≡ flags_size
  pub lower : (a v w : ℕ) → a < 8 → v ≤ w → w < 16 → get_or x (higher_at + (16 * a + w)) false ≡ true → get_or x (higher_at + (16 * a + v)) false ≡ true

-- The value `f` adds the flags of itself and of the lower values of its attribute, from place 320 on.
unfoldable pub not_higher : ℕ → ℕ → Bool
not_higher f k = eqb (k / 16) (f / 16) && leb k f

pub record Raised (f : ℕ) (x z : List Bool) : Type 0 where
  pub size : length z ≡ length x
  pub below : (k : ℕ) → k < higher_at → get_or z k false ≡ get_or x k false
  pub above : (k : ℕ) → k < 128 → get_or z (higher_at + k) false ≡ get_or x (higher_at + k) false || not_higher f k
