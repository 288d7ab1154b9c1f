-- What the search comes to: the tables have the book's rules, the flags its starting and its wanted facts; so a way of the tables is one of the
-- book, and where they have none the book has none.
use mathlib.Core.Path.{◌≡◌, refl, sym, ap, subst, subst₂, ◌∙◌}
use mathlib.Core.Bool.{Bool, true, false, true≢false}
use mathlib.Core.List.{List, [], ◌∷◌, map}
use Prim.Native.Nat.{ℕ, zero, suc, ◌≤◌, ◌<◌}
use native.Mathlib.Omega.{arith}
use lib.ListN.{length, get_or, take, replicate, length-replicate, get_or-replicate}
use lib.Seq.{get_or-take, length-take-le}
use Rattle.facts.specs.Facts.{holds}
use Rattle.frames.specs.declared.Book.{Book}
use Rattle.frames.specs.Book.{contents_of}
use Rattle.frames.specs.Inner.Fits.{Admitted}
use Rattle.theory.specs.Inner.Facts.{State, update}
use Rattle.theory.specs.Inner.Plan.{Ask}
use Rattle.shown.specs.Inner.Shown.{direct}
use Rattle.level.specs.Inner.Moves.{Moves}
use Rattle.level.specs.Inner.Chosen.{MovesOf}
use Rattle.level.specs.Inner.Notes.{asks}
use Rattle.level.specs.Inner.Moves.{moves_in}
use Rattle.level.proofs.ChosenLaws.{moves_sound}
use Rattle.level.proofs.RuleLaws.{book_good}
use Rattle.reach.specs.Inner.Tracked.{track, bytes_of}
use Rattle.reach.specs.Inner.Growing.{Growing}
use Rattle.flags.specs.Inner.Flags.{FlagsWritten, start_flag}
use Rattle.flags.proofs.FlagLaws.{start_flags}
use Rattle.growth.specs.Inner.Growth as growth
use Rattle.growth.specs.Inner.Growth.{Gains, NoWay, Way}
use Rattle.grow.specs.Inner.Tables.{rules_in, Answer}
use Rattle.own.specs.Inner.Wanted.{wanted_at}
use Rattle.own.specs.Inner.Entered.{Fresh, Entered}
use Rattle.own.specs.Inner.Requests.{request_of, requests_of, Ready}
use Rattle.own.specs.Inner.Own.{own, wanted_by, RulesOf}
use Rattle.own.specs.Inner.Found.{OwnMoves, OwnFound}
use Rattle.own.proofs.TableLaws.{start_own, wanted-own, rules_in_lem, request-bytes}
use Rattle.own.proofs.ChainLaws.{own-none}
use Rattle.own.proofs.WayLaws.{own_way}

-- Each fact of a list of additions has a rule.
gains_usable : (R : growth.Rules) (S : State) (fs : List ℕ) → Gains R S fs → (i : ℕ) → i < length fs → R.usable (get_or fs i 0)
gains_usable R S [] gains i l = absurd (omega arith)
gains_usable R S (f ∷ fs) gains zero l = gains.0.0.rule
gains_usable R S (f ∷ fs) gains (suc i) l = gains_usable R (update S f true) fs gains.1 i (omega arith)

-- ---------------------------------------------------------------- what is given

-- Tables in which nothing is entered yet.
pub fresh_tables : Fresh (replicate 160 false) (replicate 1280 320) (replicate 160 0)
fresh_tables =
    record {
      size_us = length-replicate 160 false;
      size_ts = length-replicate {A = ℕ} 1280 320;
      size_by = length-replicate {A = ℕ} 160 0;
      none = λ f l. get_or-replicate 160 f false false l;
      blank = λ i l. get_or-replicate {A = ℕ} 1280 i 320 0 l;
    }

module _ (bk : Book) (ok : Admitted (contents_of bk)) (room : length bk.rules.rules ≡ 512) where
  -- The moves that add to a person.
  pub own_moves : {roles : ℕ} {xs : List ℕ} → MovesOf bk.rules 1 5 roles (moves_in xs) bk.rules.count → OwnMoves bk.rules roles (moves_in xs)
  own_moves moves = record { room = room; moves = moves; sound = moves_sound (book_good bk ok) moves }

-- ---------------------------------------------------------------- what it comes to

module _ (bk : Book) (ok : Growing (contents_of bk)) {adds : Moves} (given : OwnMoves bk.rules bk.query.roles adds)
    {us : List Bool} {ts by : List ℕ} (entered : Entered adds adds.count us ts by)
    {x₀ x : List Bool} (start : FlagsWritten x₀ 0 (start_flag bk.facts bk.sizes.crews bk.query.person bk.sizes.crews) 160 x)
    {w₀ w : List Bool} (wants : FlagsWritten w₀ 0 (wanted_at bk.query) 160 w)
    {order : List ℕ} {found : Bool} {n : ℕ} (answer : Answer us ts x w order found n) where
  rules : RulesOf (contents_of bk) (rules_in us ts)
  unfolding contents_of
  rules = rules_in_lem (contents_of bk) bk.rules refl ok.book.rules_few given.room given.moves entered

  from_start : direct x ≡ own (contents_of bk) (track (contents_of bk) (holds (contents_of bk).facts))
  unfolding contents_of
  from_start = start_own (contents_of bk) (start_flags (contents_of bk) refl (omega arith) start)

  to_wanted : direct w ≡ wanted_by (contents_of bk)
  unfolding contents_of
  to_wanted = wanted-own (contents_of bk) wants

  -- No way in the tables is none in the book.
  pub found_none : (up : List ℕ) → found ≡ false → OwnFound (contents_of bk) up found n
  found_none up e =
      record {
        grown = λ f. absurd (true≢false (sym f ∙ e));
        none = λ f. own-none (contents_of bk) ok rules (subst₂ (NoWay (rules_in us ts)) from_start to_wanted (answer.none f));
        few = answer.few;
      }

  -- The facts of a way have moves.
  pub found_ready : {bytes : ℕ} → length order ≡ 160 → bytes ≡ 26400 → found ≡ true → Ready adds by order n bytes
  found_ready size room e =
      let way = answer.way e in
      let fits : n ≤ length order = omega (arith, answer.few, size) in
      let usable : (i : ℕ) → i < n → (rules_in us ts).usable (get_or order i 0) = λ i l.
      subst (rules_in us ts).usable (get_or-take n order i 0 l)
      (gains_usable (rules_in us ts) (direct x) (take n order) way.gains i (omega (arith, length-take-le n order fits))) in
      record {
        sound = given.sound;
        size_by = entered.size_by;
        few = fits;
        room = omega (arith, answer.few);
        facts = λ i l. (usable i l).0;
        moves = λ i l. (entered.each (get_or order i 0) (usable i l).0 (usable i l).1).known;
      }

  -- A way of the tables, written as requests, is one of the book.
  pub found_way : {up : List ℕ} → asks up 0 n ≡ requests_of adds by bk.query.person.0 (take n order) → found ≡ true
      → OwnFound (contents_of bk) up found n
  unfolding contents_of rules
  found_way {up} written e =
      record {
        grown = λ f.
            let way = subst₂ (λ (S W : State). Way (rules_in us ts) S W (take n order)) from_start to_wanted (answer.way f) in
            let own = own_way (contents_of bk) ok rules (λ g. bytes_of (request_of adds by bk.query.person.0 g))
            (request-bytes (contents_of bk) bk.rules refl ok.book.rules_few given.room given.moves entered ok) (take n order) way in
            record {
              us = own.asks.us;
              runs = own.asks.runs;
              once = own.once;
              on_level = own.asks.on_level;
              meets = own.meets;
              bytes = own.asks.bytes ∙ sym (map-twice (request_of adds by bk.query.person.0) (take n order)) ∙ ap (map bytes_of) (sym written);
            };
        none = λ f. absurd (true≢false (sym e ∙ f));
        few = answer.few;
      }
    where
      map-twice : (g : ℕ → Ask) (fs : List ℕ) → map bytes_of (map g fs) ≡ map (λ f. bytes_of (g f)) fs
      map-twice g [] = refl
      map-twice g (f ∷ fs) = ap (λ (r : List (List ℕ)). bytes_of (g f) ∷ r) (map-twice g fs)
