-- Laws of the moves of a lent slice of rules: how many rules are chosen, one rule more, a list by value beside its front, and the four
-- sides one behind the other.
use mathlib.Core.Path.{◌≡◌, refl, ap, sym, subst, ◌∙◌}
use mathlib.Core.Logic.{dite}
use mathlib.Core.Bool.{Bool, true, false}
use mathlib.Core.List.{List, [], ◌∷◌}
use Prim.Native.Nat.{ℕ, zero, suc, ◌+◌, ◌-◌, ◌*◌, ◌≤◌, ◌<◌}
use native.Mathlib.Decide.{ℕ_discrete}
use native.Mathlib.Omega.{arith}
use native.Mathlib.Nat.{not-suc-le-zero, le_of_suc-le-suc}
use lib.ListN.{length, get_or, take, drop, length-drop}
use lib.Seq.{get_or-take, get_or-drop, length-take-le}
use Rattle.quantifiers.proofs.BelowLaws.{count_yes, count_no, count_longer, count_four}
use Rattle.level.specs.Inner.Moves.{Moves, move_from, moves_in, move_at}
use Rattle.level.specs.Inner.Chosen.{chosen_in, rule_at, GoodRules, MovesOf, MovePut}
use Rattle.level.specs.declared.Move.{Move}
use Rattle.level.proofs.MoveLaws.{move_same}
use Rattle.level.proofs.ChosenLaws.{moves_more, moves_skip, chosen_none}
use Rattle.frames.specs.declared.Rule.{Rule}
use Rattle.frames.specs.declared.Rules.{Rules}
use Rattle.moves.specs.Inner.Listed.{of_list, is_chosen, chosen_count, RoomFrom, Taken, moves_from, Gathered, part_of, Prepared}
use Rattle.quantifiers.specs.Quantifiers.{one_if, count_below}

-- Move i behind move `from` is move `from + i`.
drop_move : (from i : ℕ) (xs : List ℕ) → move_from (drop (14 * from) xs) (14 * i) ≡ move_from xs (14 * (from + i))
drop_move from i xs =
    move_same (drop (14 * from) xs) xs (14 * i) (14 * (from + i))
    (λ j l. get_or-drop (14 * from) xs (14 * i + j) 0 ∙ ap (λ u. get_or xs u 0) (omega arith))

-- A move written behind move `from`.
drop-put : {from k : ℕ} {m : Move} {xs ys : List ℕ} → from ≤ k → MovePut xs k m ys → MovePut (drop (14 * from) xs) (k - from) m (drop (14 * from) ys)
drop-put {from} {k} {m} {xs} {ys} h p = record {
  size = length-drop (14 * from) ys ∙ ap (λ u. u - 14 * from) p.size ∙ sym (length-drop (14 * from) xs);
  here = let e : from + (k - from) ≡ k = omega arith in drop_move from (k - from) ys ∙ rw e p.here;
  there = λ i l. drop_move from i ys ∙ p.there (from + i) (omega arith) ∙ sym (drop_move from i xs);
}

-- Before the first rule.
pub gathered_none : (rs : Rules) (one two roles from : ℕ) (xs : List ℕ) → Gathered rs one two roles from xs 0 from xs
unfolding count_below
gathered_none rs one two roles from xs = record {
  ends = omega arith;
  size = refl;
  kept = λ k l. refl;
  moves = record { fits = omega arith; few = omega arith; each = λ k l. absurd (omega arith); every = λ j l. absurd (omega arith) };
}

module _ {rs : Rules} {one two roles from : ℕ} {xs : List ℕ} {i k : ℕ} {ys : List ℕ} (g : Gathered rs one two roles from xs i k ys) (h : i < rs.count) where
  -- One rule more.
  pub gathered_next : {n : ℕ} {zs : List ℕ} → Taken one two roles (rule_at rs i) k ys n zs → Gathered rs one two roles from xs (i + 1) n zs
  gathered_next {n} {zs} t = by (is_chosen rs one two roles i) refl
    where
      by : (c : Bool) → is_chosen rs one two roles i ≡ c → Gathered rs one two roles from xs (i + 1) n zs
      by true e =
          let (en, (m, o, p)) = t.more e in
          let at_least : from ≤ k = omega (arith, g.ends) in
          let one_more : k - from + 1 ≡ n - from = omega arith in
          record {
            ends = omega (arith, en, g.ends, count_yes (is_chosen rs one two roles) i e);
            size = p.size ∙ g.size;
            kept = λ j l. p.there j (omega arith) ∙ g.kept j l;
            moves = rw (← one_more) (moves_more g.moves h e o (drop-put at_least p));
          }
      by false e =
          let (en, ey) = t.none e in
          rw (en, ey) (record {
            ends = g.ends ∙ ap (λ u. from + u) (sym (count_no (is_chosen rs one two roles) i e));
            size = g.size;
            kept = g.kept;
            moves = moves_skip g.moves h e;
          })

  -- There is room for the move of a chosen rule.
  pub gathered_room : RoomFrom rs one two roles from → is_chosen rs one two roles i ≡ true → k < 512
  gathered_room room e =
      omega (arith, g.ends, count_yes (is_chosen rs one two roles) i e, count_longer (is_chosen rs one two roles) (i + 1) rs.count (omega arith))

-- Within a list it does not matter what stands past its end.
get_or-within : {X : Type 0} (xs : List X) (i : ℕ) (d e : X) → i < length xs → get_or xs i d ≡ get_or xs i e
get_or-within [] i d e h = absurd (not-suc-le-zero h)
get_or-within (x ∷ xs) zero d e h = refl
get_or-within (x ∷ xs) (suc i) d e h = get_or-within xs i d e (le_of_suc-le-suc h)

-- Rule `i` of a slice.
pub rule_same : (xs : List Rule) (i : ℕ) (d : Rule) → i < length xs → get_or xs i d ≡ rule_at (of_list xs) i
unfolding rule_at
rule_same xs i d h = get_or-within xs i _ _ h

-- ---------------------------------------------------------------- one side

-- Moves that are equal one by one are the moves of the same rules.
moves_same : {rs : Rules} {one two roles : ℕ} {i : ℕ} {ms ns : Moves} → ms.count ≡ ns.count → ((k : ℕ) → k < ns.count → move_at ns k ≡ move_at ms k)
    → MovesOf rs one two roles ms i → MovesOf rs one two roles ns i
moves_same {rs} {one} {two} {roles} {i} {ms} {ns} c same w = record {
  fits = w.fits;
  few = omega (arith, c, w.few);
  each = λ k l. let (j, lj, ej, oj) = w.each k (omega (arith, c)) in (j, lj, ej, rw (same k l) oj);
  every = λ j l f. let (k, lk, ok) = w.every j l f in let l' : k < ns.count = omega (arith, c) in (k, l', rw (same k l') ok);
}

-- A side stays where the moves up to its end stay.
moves_kept : {rs : Rules} {one two roles i : ℕ} (from n : ℕ) (xs ys : List ℕ) → ((k : ℕ) → k < n → move_from ys (14 * k) ≡ move_from xs (14 * k))
    → MovesOf rs one two roles (moves_from from n xs) i → MovesOf rs one two roles (moves_from from n ys) i
unfolding move_at
moves_kept from n xs ys kept w =
    moves_same refl (λ k l. drop_move from k ys ∙ kept (from + k) (omega arith) ∙ sym (drop_move from k xs)) w

-- The numbers of a side write its moves.
moves_part : {rs : Rules} {one two roles i : ℕ} (from n : ℕ) (xs : List ℕ) → from ≤ n → 14 * n ≤ length xs → MovesOf rs one two roles (moves_from from n xs) i
    → MovesOf rs one two roles (moves_in (part_of from n xs)) i
unfolding move_at
moves_part from n xs h room w =
    let long = 14 * n - 14 * from in
    let rest = drop (14 * from) xs in
    let size : length (part_of from n xs) ≡ long = length-take-le long rest (omega (arith, length-drop (14 * from) xs)) in
    moves_same (omega (arith, size))
    (λ k l. move_same (part_of from n xs) rest (14 * k) (14 * k) (λ j m. get_or-take long rest (14 * k + j) 0 (omega (arith, size)))) w

-- ---------------------------------------------------------------- four sides

one_at_most : (b : Bool) → one_if b ≤ 1
one_at_most true = omega arith
one_at_most false = omega arith

-- A rule of no op of a side is not chosen there.
apart : (one two roles : ℕ) (r : Rule) → (r.op ≡ one → ⊥) → (r.op ≡ two → ⊥) → one_if (chosen_in one two roles r) ≡ 0
apart one two roles r n e = rw (← chosen_none one two roles r n e)

-- A rule has one op, so it is chosen for one side at most.
one_side : (roles : ℕ) (r : Rule)
    → one_if (chosen_in 3 3 roles r) + one_if (chosen_in 4 4 roles r) + one_if (chosen_in 1 5 roles r) + one_if (chosen_in 2 6 roles r) ≤ 1
one_side roles r =
    dite (ℕ_discrete r.op 3)
    (λ (e : r.op ≡ 3).
    omega (
      arith,
      one_at_most (chosen_in 3 3 roles r),
      not_in 4 4 (omega arith) (omega arith),
      not_in 1 5 (omega arith) (omega arith),
      not_in 2 6 (omega arith) (omega arith),
    ))
    (λ (n₃ : r.op ≡ 3 → ⊥). dite (ℕ_discrete r.op 4)
    (λ (e : r.op ≡ 4).
    omega (arith, one_at_most (chosen_in 4 4 roles r), apart 3 3 roles r n₃ n₃, not_in 1 5 (omega arith) (omega arith), not_in 2 6 (omega arith) (omega arith)))
    (λ (n₄ : r.op ≡ 4 → ⊥). dite (ℕ_discrete r.op 2)
    (λ (e : r.op ≡ 2).
    omega (arith, one_at_most (chosen_in 2 6 roles r), apart 3 3 roles r n₃ n₃, apart 4 4 roles r n₄ n₄, not_in 1 5 (omega arith) (omega arith)))
    (λ (n₂ : r.op ≡ 2 → ⊥). dite (ℕ_discrete r.op 6)
    (λ (e : r.op ≡ 6).
    omega (arith, one_at_most (chosen_in 2 6 roles r), apart 3 3 roles r n₃ n₃, apart 4 4 roles r n₄ n₄, not_in 1 5 (omega arith) (omega arith)))
    (λ (n₆ : r.op ≡ 6 → ⊥).
    omega (arith, one_at_most (chosen_in 1 5 roles r), apart 3 3 roles r n₃ n₃, apart 4 4 roles r n₄ n₄, apart 2 6 roles r n₂ n₆)))))
  where
    not_in : (one two : ℕ) → ((r.op ≡ one) → ⊥) → ((r.op ≡ two) → ⊥) → one_if (chosen_in one two roles r) ≡ 0
    not_in one two = apart one two roles r

module _ (rs : Rules) (fits : rs.count ≤ length rs.rules) where
  -- The counted rules.
  abbrev front : Rules
  front = of_list (take rs.count rs.rules)

  counted : front.count ≡ rs.count
  counted = length-take-le rs.count rs.rules fits

  same_at : (i : ℕ) → i < rs.count → rule_at front i ≡ rule_at rs i
  unfolding rule_at
  same_at i h = get_or-take rs.count rs.rules i _ h

  -- Its front has good rules where the list has.
  pub front_good : GoodRules rs → GoodRules front
  front_good g = record { few = omega (arith, counted, g.few); good = λ i h. let l : i < rs.count = omega (arith, counted) in rw (same_at i l) (g.good i l) }

  -- The moves of the front are moves of the list.
  front_moves : {one two roles : ℕ} {ms : Moves} → MovesOf front one two roles ms front.count → MovesOf rs one two roles ms rs.count
  front_moves w = record {
    fits = omega arith;
    few = omega (arith, counted, w.few);
    each = λ k l.
        let (j, lj, ej, oj) = w.each k l in
        let l' : j < rs.count = omega (arith, counted) in
        (j, l', rw (sym (same_at j l')) ej, rw (sym (same_at j l')) oj);
    every = λ j l f. let (k, lk, ok) = w.every j (omega (arith, counted)) (rw (same_at j l) f) in (k, lk, rw (sym (same_at j l)) ok);
  }

  -- All four sides, one behind the other.
  module _ (roles : ℕ) where
    -- No more moves than rules.
    front-room : chosen_count front 3 3 roles front.count + chosen_count front 4 4 roles front.count + chosen_count front 1 5 roles front.count
        + chosen_count front 2 6 roles front.count ≤ front.count
    front-room =
        count_four (is_chosen front 3 3 roles) (is_chosen front 4 4 roles) (is_chosen front 1 5 roles) (is_chosen front 2 6 roles) front.count
        (λ i. one_side roles (rule_at front i))

    -- There is room for the first side.
    pub room-first : rs.count ≤ 512 → RoomFrom front 3 3 roles 0
    room-first few = omega (arith, front-room, counted)

    module _ (few : rs.count ≤ 512) {xs ys₁ : List ℕ} {a : ℕ} (g₁ : Gathered front 3 3 roles 0 xs front.count a ys₁) where
      -- There is room for the second side, for the third and for the fourth.
      pub room-second : RoomFrom front 4 4 roles a
      room-second = omega (arith, g₁.ends, front-room, counted)

      module _ {ys₂ : List ℕ} {b : ℕ} (g₂ : Gathered front 4 4 roles a ys₁ front.count b ys₂) where
        pub room-third : RoomFrom front 1 5 roles b
        room-third = omega (arith, g₁.ends, g₂.ends, front-room, counted)

        module _ {ys₃ : List ℕ} {c : ℕ} (g₃ : Gathered front 1 5 roles b ys₂ front.count c ys₃) where
          pub room-fourth : RoomFrom front 2 6 roles c
          room-fourth = omega (arith, g₁.ends, g₂.ends, g₃.ends, front-room, counted)

          pub prepared : {ys₄ : List ℕ} {d : ℕ} → length xs ≡ 7168 → Gathered front 2 6 roles c ys₃ front.count d ys₄
              → Prepared rs roles (record { gains = a; losses = b; adds = c; dels = d }) ys₄
          prepared {ys₄} {d} sized g₄ =
              let rise₂ : a ≤ b = omega (arith, g₂.ends) in
              let rise₃ : b ≤ c = omega (arith, g₃.ends) in
              let rise₄ : c ≤ d = omega (arith, g₄.ends) in
              let last : d ≤ 512 = omega (arith, g₄.ends, room-fourth) in
              let size : length ys₄ ≡ 7168 = g₄.size ∙ g₃.size ∙ g₂.size ∙ g₁.size ∙ sized in
              let first_part : part_of 0 a ys₄ ≡ take (14 * a) ys₄ = let z : 14 * a - 14 * 0 ≡ 14 * a = omega arith in rw z in
              record {
                size = size;
                rises = (rise₂, (rise₃, (rise₄, last)));
                crew_more = front_moves (subst (λ part. MovesOf front 3 3 roles (moves_in part) front.count) first_part
                    (moves_part 0 a ys₄ (omega arith) (omega arith)
                    (moves_kept 0 a ys₁ ys₄ (λ k l. g₄.kept k (omega arith) ∙ g₃.kept k (omega arith) ∙ g₂.kept k l) g₁.moves)));
                crew_less = front_moves (moves_part a b ys₄ rise₂ (omega arith)
                    (moves_kept a b ys₂ ys₄ (λ k l. g₄.kept k (omega arith) ∙ g₃.kept k l) g₂.moves));
                more = front_moves (moves_part b c ys₄ rise₃ (omega arith) (moves_kept b c ys₃ ys₄ (λ k l. g₄.kept k l) g₃.moves));
                less = front_moves (moves_part c d ys₄ rise₄ (omega arith) g₄.moves);
              }
