-- What crews can come to hold does not depend on the person: a crew's starting and forbidden facts are those of every person's query.
use mathlib.Core.Path.{◌≡◌, refl, sym, subst, ◌∙◌}
use mathlib.Core.Bool.{Bool, true}
use mathlib.Core.List.{List}
use Prim.Native.Nat.{ℕ, ◌+◌, ◌*◌, ◌/◌, ◌<◌}
use native.Mathlib.Omega.{arith}
use borrow.Author.Tests.{lt-ltb}
use Rattle.facts.specs.declared.Fact.{Fact}
use Rattle.sizes.specs.Sizes.{is_person}
use Rattle.frames.specs.Book.{Contents, with_query}
use Rattle.frames.specs.Inner.Fits.{want_of, Admitted}
use Rattle.replay.specs.Met.{wants}
use Rattle.reach.specs.Inner.Leveled.{Leveled}
use Rattle.reach.specs.Inner.Tracked.{fact_at, is_number, track}
use Rattle.reach.specs.Inner.Goal.{banned, below_listed, forbids, forbidden, bad}
use Rattle.flags.specs.Inner.Flags as flags
use Rattle.search.specs.Inner.Drive.{Driving}
use Rattle.search.specs.Inner.Scan.{to_person, Serves}

-- The query's own person.
pub to_self : (b : Contents) → to_person b b.query.person.0 ≡ b
unfolding to_person with_query
to_self b = refl

-- An accepted book stays one with another of its persons.
pub to_admitted : (b : Contents) (p : ℕ) → Admitted b → is_person b.sizes p ≡ true → Admitted (to_person b p)
unfolding to_person with_query want_of
to_admitted b p ok is =
    record {
      sized = ok.sized;
      edges = ok.edges;
      edge_room = ok.edge_room;
      facts_in = ok.facts_in;
      facts_room = ok.facts_room;
      facts_bytes = ok.facts_bytes;
      rules_in = ok.rules_in;
      rules_short = ok.rules_short;
      rules_counted = ok.rules_counted;
      rules_few = ok.rules_few;
      query_in = record {
        mode = ok.query_in.mode;
        person = is;
        few = ok.query_in.few;
        room = ok.query_in.room;
        wants = ok.query_in.wants;
        crews = ok.query_in.crews;
      };
      within_not = ok.within_not;
      right_mode = ok.right_mode;
    }

pub to_leveled : (b : Contents) (p : ℕ) → Leveled b → is_person b.sizes p ≡ true → Leveled (to_person b p)
unfolding to_person with_query
to_leveled b p ok is = record { book = to_admitted b p ok.book is; plain = ok.plain; mode = ok.mode }

-- What serves every person serves the query's own.
pub serves_own : {b : Contents} → Leveled b → {k : ℕ} {rows : List Bool} {ups : ℕ} {up : List ℕ} {at : ℕ} {down : List ℕ}
    → Serves b k rows ups up at down → Driving b k rows ups up at down
serves_own {b} ok {k} {rows} {ups} {up} {at} {down} s =
    subst (λ (t : Contents). Driving t k rows ups up at down) (to_self b) (s.each b.query.person.0 ok.book.query_in.person)

module _ (b : Contents) (p k : ℕ) (is-crew : k < b.sizes.crews) where
  here : (f : ℕ) → f < 160 → (160 * k + f) / 160 ≡ k
  here f low = omega arith

  -- A crew's tracked facts are those of every person's query.
  track_crew : (F : Fact → Bool) (f : ℕ) → f < 160 → track (to_person b p) F (160 * k + f) ≡ track b F (160 * k + f)
  unfolding track is_number fact_at to_person with_query
  track_crew F f low = rw (here f low, lt-ltb k b.sizes.crews is-crew) refl

  -- And so are the forbidden ones among them.
  bad_crew : (f : ℕ) → f < 160 → bad (to_person b p) (160 * k + f) ≡ bad b (160 * k + f)
  unfolding bad forbidden forbids banned below_listed wants is_number fact_at to_person with_query
  bad_crew f low = rw (here f low, lt-ltb k b.sizes.crews is-crew) refl

  -- So the flags of a crew's level, made for one person's query, are those of every person's.
  pub start_for : {s : List Bool} → flags.StartFlags b k s → flags.StartFlags (to_person b p) k s
  unfolding to_person with_query
  start_for start = record { at = λ f l. start.at f l ∙ sym (track_crew _ f l) }

  pub bad_for : {x : List Bool} → flags.BadFlags b k x → flags.BadFlags (to_person b p) k x
  bad_for bads = record { size = bads.size; at = λ f l. bads.at f l ∙ sym (bad_crew f l) }
