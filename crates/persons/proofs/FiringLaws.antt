-- For whom a move fires: the terms one after another, each leaving those who show it; and those who lack the move's fact.
use mathlib.Core.Path.{◌≡◌, refl, ap, sym, ◌∙◌}
use mathlib.Core.Bool.{Bool, true, false, not, ◌&&◌, and-true, and-false}
use mathlib.Core.List.{List}
use Prim.Native.Nat.{ℕ, ◌+◌, ◌≤◌, ◌<◌}
use lib.Bits.{bit_and, bit_xor}
use lib.ListN.{get_or, drop, get_or-replicate}
use Rattle.quantifiers.specs.Quantifiers.{all}
use Rattle.quantifiers.proofs.BoolLaws.{by_test}
use Rattle.sets.specs.Sets.{member}
use Rattle.sets.proofs.SetLaws.{member-and, member-zero}
use Rattle.level.specs.Inner.Moves.{Fine, places_of, flags_met, move_from}
use Rattle.level.specs.Inner.Sweep.{fires_in}
use Rattle.level.proofs.MoveLaws.{Reading, places_pass, places_fail, places_out, fact_flag}
use Rattle.words.specs.Inner.Words.{column}
use Rattle.words.proofs.WordLaws.{column_at, member_without}
use Rattle.persons.specs.Inner.Persons.{every_fact, Meeting, Firing}

-- Whether the terms from j on hold for person p.
abbrev rest : List ℕ → ℕ → List ℕ → ℕ → ℕ → Bool
rest xs at ws p j = all (λ k. get_or (column ws p) k false) (drop j (places_of (move_from xs at)))

-- The persons left, of whom the terms from j on decide.
pub record MeetingSoFar (xs : List ℕ) (at everyone : ℕ) (ws : List ℕ) (who j : ℕ) : Type 0 where
  pub each : (p : ℕ) → member everyone p && flags_met (move_from xs at) (column ws p) ≡ member who p && rest xs at ws p j

pub meeting_first : (xs : List ℕ) (at everyone : ℕ) (ws : List ℕ) → MeetingSoFar xs at everyone ws everyone 0
unfolding flags_met
meeting_first xs at everyone ws = record { each = λ p. refl }

module _ {xs : List ℕ} {at n everyone : ℕ} {ws : List ℕ} {who j : ℕ} (r : Reading xs at n) (so_far : MeetingSoFar xs at everyone ws who j) where
  -- A term more: those who show its flag are left.
  pub meeting_more : {k : ℕ} → j < n → k ≡ get_or xs (at + 6 + j) 0 → MeetingSoFar xs at everyone ws (bit_and who (get_or ws k 0)) (j + 1)
  meeting_more {k} low read = record {
    each = λ p. so_far.each p ∙ by_test (get_or (column ws p) k false)
        (λ shown. ap (λ (b : Bool). member who p && b) (places_pass r (λ i. get_or (column ws p) i false) j low read shown)
        ∙ sym (ap (λ (b : Bool). b && rest xs at ws p (j + 1)) (left p ∙ ap (λ (b : Bool). member who p && b) shown ∙ and-true (member who p))))
        (λ hidden. ap (λ (b : Bool). member who p && b) (places_fail r (λ i. get_or (column ws p) i false) j low read hidden) ∙ and-false (member who p)
        ∙ sym (ap (λ (b : Bool). b && rest xs at ws p (j + 1)) (left p ∙ ap (λ (b : Bool). member who p && b) hidden ∙ and-false (member who p))));
  }
    where
      left : (p : ℕ) → member (bit_and who (get_or ws k 0)) p ≡ member who p && get_or (column ws p) k false
      left p = member-and who (get_or ws k 0) p ∙ ap (λ (b : Bool). member who p && b) (sym (column_at ws p k))

  -- Where nobody is left nobody meets the move.
  pub meeting_nobody : who ≡ 0 → Meeting (move_from xs at) everyone ws 0
  meeting_nobody e = record {
    each = λ p. sym (so_far.each p ∙ ap (λ (w : ℕ). member w p && rest xs at ws p j) e ∙ ap (λ (b : Bool). b && rest xs at ws p j) (member-zero p)
        ∙ sym (member-zero p));
  }

  -- Behind the last term those left meet it.
  pub meeting_all : n ≤ j → Meeting (move_from xs at) everyone ws who
  meeting_all h = record {
    each = λ p. sym (so_far.each p ∙ ap (λ (b : Bool). member who p && b) (places_out r (λ i. get_or (column ws p) i false) j h) ∙ and-true (member who p));
  }

-- Every fact of a level is allowed.
pub every_fact_lem : (f : ℕ) → f < 160 → get_or every_fact f false ≡ true
every_fact_lem f l = get_or-replicate 160 f true false l

-- Who lacks the fact and meets the move.
pub firing : (xs : List ℕ) (at everyone : ℕ) (ws : List ℕ) {f who : ℕ} → Fine (move_from xs at) → f ≡ get_or xs at 0
    → Meeting (move_from xs at) (bit_xor everyone (bit_and everyone (get_or ws f 0))) ws who → Firing (move_from xs at) everyone ws who
unfolding fires_in
firing xs at everyone ws {f} fine read meeting = record {
  each = λ p. meeting.each p
      ∙ ap (λ (b : Bool). b && flags_met (move_from xs at) (column ws p)) (member_without everyone (get_or ws f 0) p
      ∙ ap (λ (b : Bool). member everyone p && not b) (sym (column_at ws p f)))
      ∙ ap (λ (b : Bool). (member everyone p && not b) && flags_met (move_from xs at) (column ws p)) (sym (fact_flag xs at (column ws p) read refl))
      ∙ three (member everyone p) (get_or (column ws p) (move_from xs at).fact false) (flags_met (move_from xs at) (column ws p))
      ∙ ap (λ (b : Bool). member everyone p && (not (get_or (column ws p) (move_from xs at).fact false) && (b && flags_met (move_from xs at) (column ws p))))
      (sym (every_fact_lem (move_from xs at).fact fine.fact));
}
  where
    three : (a b c : Bool) → (a && not b) && c ≡ a && (not b && (true && c))
    three true b c = refl
    three false b c = refl
