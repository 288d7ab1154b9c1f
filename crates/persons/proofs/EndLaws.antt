-- The sweep for all persons: the additions lead each person from what the person began with, and when nobody's move fires none is left for anyone.
use mathlib.Core.Path.{◌≡◌, refl, ap, sym, subst, ◌∙◌}
use mathlib.Core.Logic.{dite}
use mathlib.Core.Bool.{Bool, true, false, ◌&&◌, true≢false}
use mathlib.Core.List.{List, [], ◌∷◌, ◌++◌}
use Prim.Native.Nat.{ℕ, zero, suc, ◌+◌, ◌-◌, ◌*◌, ◌^◌, ◌≤◌, ◌<◌}
use native.Mathlib.Decide.{ℕ_discrete, dec_lt}
use native.Mathlib.Omega.{arith}
use lib.ListN.{length, get_or}
use borrow.Author.Tests.{lt-ltb}
use Rattle.quantifiers.specs.Quantifiers.{any_below, count_below, sum_below, one_if}
use Rattle.quantifiers.proofs.BoolLaws.{and_both, by_test}
use Rattle.quantifiers.proofs.BelowLaws.{any_none, any_false, count_le, sum_most}
use Rattle.sets.specs.Sets.{member}
use Rattle.sets.proofs.SetLaws.{member-zero, member_beyond}
use Rattle.theory.specs.Inner.Facts.{State, ◌⊆◌, update}
use Rattle.theory.specs.Inner.Plan.{Ask}
use Rattle.theory.specs.Inner.Sweep.{Added}
use Rattle.theory.proofs.FactLaws.{count_update}
use Rattle.theory.proofs.SweepLaws.{add_none, add_more}
use Rattle.shown.specs.Inner.Shown.{direct, touches}
use Rattle.shown.proofs.ShownLaws.{direct_low, direct_in, put-direct, put_whole}
use Rattle.level.specs.Inner.Moves.{Moves, Sound, moves_in, move_at, ask_of}
use Rattle.level.specs.Inner.Sweep.{fires_in}
use Rattle.level.specs.Inner.World.{world}
use Rattle.level.proofs.MoveLaws.{fact_stands}
use Rattle.level.proofs.SweepLaws.{fires_new, fires_allowed, fires_met, fires_none}
use Rattle.words.specs.Inner.Words.{column, Lit}
use Rattle.words.proofs.WordLaws.{some-member, lit_other, lit_put}
use Rattle.persons.specs.Inner.Persons.{every_fact, Grown, Begun, Firing, AllWhole, AllEnd, PersonsEnd}
use Rattle.persons.proofs.FiringLaws.{every_fact_lem}

-- What a level has is a fact of a level.
within_every : (x : List Bool) → direct x ⊆ direct every_fact
within_every x f e = let h : f < 160 = direct_in x f e in direct_low every_fact f h ∙ every_fact_lem f h

-- ---------------------------------------------------------------- how many facts there are

-- How many facts person p has, and how many the 64 have.
facts_of : List ℕ → ℕ → ℕ
facts_of ws p = count_below (direct (column ws p)) 160

pub all_facts_lem : List ℕ → ℕ
all_facts_lem ws = sum_below (facts_of ws) 64

facts_most : (ws : List ℕ) → all_facts_lem ws ≤ 10240
unfolding all_facts_lem facts_of
facts_most ws = sum_most (facts_of ws) 160 64 (λ p l. count_le (direct (column ws p)) 160)

-- A sum of which no part is less, and one more.
sum_less : (f g : ℕ → ℕ) (n i : ℕ) → ((j : ℕ) → j < n → f j ≤ g j) → i < n → f i < g i → sum_below f n < sum_below g n
unfolding sum_below
sum_less f g zero i le h l = absurd (omega arith)
sum_less f g (suc n) i le h l = dite (ℕ_discrete i n)
    (λ (e : i ≡ n). omega (arith, sum-le f g n (λ j k. le j (omega arith)), subst (λ (k : ℕ). f k < g k) e l))
    (λ (e : i ≡ n → ⊥). omega (arith, sum_less f g n i (λ j k. le j (omega arith)) (omega arith) l, le n (omega arith)))
  where
    sum-le : (f g : ℕ → ℕ) (n : ℕ) → ((j : ℕ) → j < n → f j ≤ g j) → sum_below f n ≤ sum_below g n
    sum-le f g zero le = omega arith
    sum-le f g (suc n) le = omega (arith, sum-le f g n (λ j k. le j (omega arith)), le n (omega arith))

-- ---------------------------------------------------------------- the sweep

-- Who is in a word has a number below 64.
person_low : (everyone : ℕ) → everyone < 2 ^ 64 → (p : ℕ) → member everyone p ≡ true → p < 64
person_low everyone small p is = dite (dec_lt p 64)
    (λ (h : p < 64). h)
    (λ (h : p < 64 → ⊥). absurd (true≢false (sym is ∙ member_beyond everyone p 64 small (omega arith))))

-- How far the persons of `everyone` have come.
pub record Growing (ms : Moves) (T : List Bool) (everyone : ℕ) (before ws : List ℕ) : Type 0 where
  pub size : length ws ≡ 448
  pub rows : length T ≡ 5280
  pub each : (p : ℕ) → member everyone p ≡ true → Grown ms T p (column before p) (column ws p)

pub growing-first : (ms : Moves) {T : List Bool} {everyone : ℕ} {ws : List ℕ} → AllWhole T everyone ws → Growing ms T everyone ws ws
growing-first ms {T} {everyone} {ws} whole = record {
  size = whole.size;
  rows = whole.rows;
  each = λ p is. record { whole = whole.each p is; us = []; added = add_none (world T ms ms p) (within_every (column ws p)) };
}

-- Whether move j fires for somebody.
abbrev pub somebody : Moves → ℕ → List ℕ → ℕ → Bool
somebody ms everyone ws j = any_below (λ p. member everyone p && fires_in (move_at ms j) every_fact (column ws p)) 64

-- The fact of move i, as it was read.
pub fact_read : (xs : List ℕ) (i : ℕ) {f : ℕ} → f ≡ get_or xs (14 * i) 0 → f ≡ (move_at (moves_in xs) i).fact
unfolding move_at
fact_read xs i e = e ∙ sym (fact_stands xs (14 * i))

-- A word of nobody: the move fires for nobody.
pub nobody_fires : (ms : Moves) {everyone : ℕ} {ws : List ℕ} (j : ℕ) {who : ℕ} → Firing (move_at ms j) everyone ws who → who ≡ 0 → somebody ms everyone ws j ≡ false
nobody_fires ms {everyone} {ws} j firing none =
    any_false (λ p. member everyone p && fires_in (move_at ms j) every_fact (column ws p)) 64
    (λ p l. sym (firing.each p) ∙ ap (λ (w : ℕ). member w p) none ∙ member-zero p)

module _ {ms : Moves} (sound : Sound ms) {T : List Bool} {everyone : ℕ} {before ws : List ℕ} (grows : Growing ms T everyone before ws) where
  module _ {i who f : ℕ} (l : i < ms.count) (firing : Firing (move_at ms i) everyone ws who) (is : f ≡ (move_at ms i).fact) {after : List ℕ}
      (lit : Lit who (touches T f) ws after) where
    -- The move fires for one of the persons that the word has.
    fires-for : (p : ℕ) → member who p ≡ true → (member everyone p ≡ true) × (fires_in (move_at ms i) every_fact (column ws p) ≡ true)
    fires-for p h = and_both (member everyone p) (fires_in (move_at ms i) every_fact (column ws p)) (sym (firing.each p) ∙ h)

    low : f < 160
    low = omega (arith, is, (sound.fine i l).fact)

    -- The person grows by the move.
    grown-by : (p : ℕ) → member who p ≡ true → Grown ms T p (column before p) (column after p)
    grown-by p h =
        let fires = fires-for p h in
        let m = move_at ms i in
        let fine = sound.fine i l in
        let put = lit_put lit grows.size p h in
        let so_far = grows.each p fires.0 in
        record {
          whole = put_whole so_far.whole put low;
          us = so_far.us ++ ask_of p m ∷ [];
          added = subst (λ (S : State). Added (world T ms ms p) (direct (column before p)) (direct every_fact) S (so_far.us ++ ask_of p m ∷ []))
              (sym (put-direct put low ∙ ap (λ (g : ℕ). update (direct (column ws p)) g true) is))
              (add_more (world T ms ms p) {q = ask_of p m} (fires_new m every_fact (column ws p) fine fires.1) (fires_allowed m every_fact (column ws p) fine fires.1)
              (record { index = i; listed = l; same = refl; holds = fires_met m every_fact so_far.whole fine fires.1; known = fine.fact })
              so_far.added);
        }

    pub growing-more : Growing ms T everyone before after
    growing-more = record {
      size = lit.size ∙ grows.size;
      rows = grows.rows;
      each = λ p in_all. by_test (member who p) (grown-by p)
          (λ out. subst (λ (x : List Bool). Grown ms T p (column before p) x) (sym (lit_other lit grows.size p out)) (grows.each p in_all));
    }

    -- The facts of such a person are one more, those of the others as many.
    one_more : (p : ℕ) → member who p ≡ true → facts_of ws p + 1 ≡ facts_of after p
    unfolding facts_of
    one_more p h =
        let lacks : direct (column ws p) f ≡ false =
        ap (direct (column ws p)) is ∙ fires_new (move_at ms i) every_fact (column ws p) (sound.fine i l) (fires-for p h).1 in
        omega (
          arith,
          count_update (direct (column ws p)) f true 160 low,
          ap one_if lacks,
          ap (λ (S : State). count_below S 160) (put-direct (lit_put lit grows.size p h) low),
        )

    as_many : (p : ℕ) → member who p ≡ false → facts_of ws p ≡ facts_of after p
    unfolding facts_of
    as_many p out = ap (λ (x : List Bool). count_below (direct x) 160) (sym (lit_other lit grows.size p out))

    -- Somebody has one fact more, and nobody fewer.
    facts-more : everyone < 2 ^ 64 → (who ≡ 0 → ⊥) → all_facts_lem ws < all_facts_lem after
    unfolding all_facts_lem
    facts-more small some =
        let found = some-member who some in
        let p = found.0 in
        sum_less (facts_of ws) (facts_of after) 64 p
        (λ q h. by_test (member who q) (λ e. omega (arith, one_more q e)) (λ e. omega (arith, as_many q e)))
        (person_low everyone small p (fires-for p found.1).0)
        (omega (arith, one_more p found.1))

    -- So a move that fires for somebody leaves fewer facts to be added.
    pub fewer-left : everyone < 2 ^ 64 → (who ≡ 0 → ⊥) → 10240 - all_facts_lem after < 10240 - all_facts_lem ws
    fewer-left small some = omega (arith, facts-more small some, facts_most after)

  -- When no move fires for anybody, everybody is at the end.
  pub growing_ended : everyone < 2 ^ 64 → ((j : ℕ) → j < ms.count → somebody ms everyone ws j ≡ false) → AllEnd ms T everyone before ws
  growing_ended small still = record {
    size = grows.size;
    each = λ p is. record {
      grown = grows.each p is;
      closed = record {
        add = λ q u m. subst (λ (a : Ask). direct (column ws p) a.fact ≡ true) (sym m.same)
            (fires_none (move_at ms m.index) every_fact (grows.each p is).whole (sound.fine m.index m.listed) (quiet p is m.index m.listed)
            (subst (λ (a : Ask). direct every_fact a.fact ≡ true) m.same u) m.holds);
      };
    };
  }
    where
      quiet : (p : ℕ) → member everyone p ≡ true → (j : ℕ) → j < ms.count → fires_in (move_at ms j) every_fact (column ws p) ≡ false
      quiet p is j l =
          ap (λ (b : Bool). b && fires_in (move_at ms j) every_fact (column ws p)) (sym is)
          ∙ any_none (λ q. member everyone q && fires_in (move_at ms j) every_fact (column ws q)) 64 p (still j l) (person_low everyone small p is)

-- ---------------------------------------------------------------- from the start to the end

pub persons_end : {ms : Moves} {facts : List ℕ} {crews : ℕ} {T : List Bool} {n everyone : ℕ} {before ws : List ℕ} → Begun facts crews T n everyone before
    → AllEnd ms T everyone before ws → PersonsEnd ms facts crews T n ws
persons_end {n = n} {before = before} begun ended = record {
  size = ended.size;
  begin = λ p l. column before p;
  begins = begun.each;
  ends = λ p l. ended.each p (begun.persons p ∙ lt-ltb p n l);
}
