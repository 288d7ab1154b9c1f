-- A level's world is the depot's at that level.
use mathlib.Core.Path.{◌≡◌, refl, ap, sym, subst, ◌∙◌}
use mathlib.Core.Logic.{◌⊎◌}
use mathlib.Core.Bool.{Bool, true, false}
use mathlib.Core.List.{List}
use Prim.Native.Nat.{ℕ, ◌+◌, ◌*◌, ◌/◌, ◌%◌, ◌≤◌, ◌<◌}
use native.Mathlib.Omega.{arith}
use lib.ListN.{length, get_or, take}
use lib.Seq.{get_or-take, length-take-le}
use Rattle.sets.specs.Sets.{member}
use Rattle.facts.specs.declared.Fact.{Fact}
use Rattle.frames.specs.declared.Rule.{Rule}
use Rattle.frames.specs.declared.Rules.{Rules}
use Rattle.frames.specs.Limits.{plain}
use Rattle.frames.specs.Book.{Contents, listed, no_term, no_rule}
use Rattle.frames.specs.Inner.Fits.{rule_fits, Short}
use Rattle.frames.proofs.LimitLaws.{plain_each}
use Rattle.quantifiers.specs.Inner.Lists.{Each}
use Rattle.requests.specs.declared.Request.{Request}
use Rattle.requests.specs.Requests.{adds, aimed, fields_good, well_formed}
use Rattle.requests.proofs.RequestLaws.{request_parts, well_formed_parts, well_formed_from, fields_zero}
use Rattle.rules.specs.declared.Subject.{Subject}
use Rattle.rules.specs.Rules.{subject_of, term_holds}
use Rattle.quantifiers.proofs.ListLaws.{each_at, all_same_at}
use Rattle.rules.proofs.RuleLaws.{a_of-aimed, v_of-aimed, PermittedBy, permitted_from, permitted_cases}
use Rattle.theory.specs.Inner.Facts.{State}
use Rattle.theory.specs.Inner.Plan.{Ask, req}
use Rattle.level.specs.declared.Move.{Move}
use Rattle.level.specs.Inner.Moves.{Moves, place_of, move_at, ask_of}
use Rattle.quantifiers.specs.Quantifiers.{all}
use Rattle.level.specs.Inner.World.{Some, world}
use Rattle.level.specs.Inner.Terms.{term_shown, rule_shown, GoodRule}
use Rattle.level.specs.Inner.Chosen.{rule_at, GoodRules, MovesOf}
use Rattle.level.proofs.Levels.{on_level, to_whole, to_level, Within}
use Rattle.level.proofs.TermLaws.{move_met}
use Rattle.level.proofs.RuleLaws.{rules_good, listed_at, listed-length}
use Rattle.level.proofs.ChosenLaws.{chosen_parts, chosen_from}
use Rattle.reach.specs.Inner.Leveled.{Leveled}
use Rattle.reach.specs.Inner.Tracked.{tracked, number_of, lift, bytes_of, asked, May}
use Rattle.reach.specs.Inner.Depot.{depot}
use Rattle.level.proofs.RuleParts.{Parts, rule_parts, crew_low, rule_crew}

-- A request with a move's fields is the move's.
ask_same : (q : Ask) (m : Move) (p : ℕ) → m.fact ≡ q.fact % 160 → m.op ≡ q.op → m.role ≡ q.role → q.subject ≡ p → m.a ≡ q.a → m.v ≡ q.v
    → to_level q ≡ ask_of p m
ask_same q m p f o r s a v = rw (f, o, r, s, a, v) refl

module _ (b : Contents) (ok : Leveled b) (rs : Rules) (same-rules : b.rules ≡ listed rs) (few : rs.count ≤ 512) (room : length rs.rules ≡ 512) where
  rules_fit : Each (λ r. rule_fits b.sizes r ≡ true) (listed rs)
  rules_fit = rw same-rules at ok.book.rules_in

  rules_short : Each Short (listed rs)
  rules_short = rw same-rules at ok.book.rules_short

  pub all_good : GoodRules rs
  all_good = rules_good b.sizes ok.book.sized rs few (omega arith) rules_fit rules_short

  fits_at : (j : ℕ) → j < rs.count → rule_fits b.sizes (rule_at rs j) ≡ true
  unfolding listed rule_at
  fits_at j l = each_at (λ r. rule_fits b.sizes r ≡ true) rs.rules rs.count j no_rule l (omega arith) rules_fit

  plain_rule : (j : ℕ) → j < rs.count → plain (rule_at rs j) ≡ true
  plain_rule j l = rw (listed_at rs same-rules j l) at (plain_each b.rules no_rule j ok.plain (rw (listed-length rs same-rules few room) l))

  -- What a level is: its number, its subject, and the ops that act on it.
  pub record LevelIs (Op : ℕ → Type 0) (k p : ℕ) (s : Subject) : Type 0 where
    pub low : k ≤ 32
    pub good : (r : Rule) → Parts b.sizes r → Op r.op → fields_good b.sizes r.op r.role.0 p r.a r.v ≡ true
    pub tracks : (r : Rule) → Parts b.sizes r → Op r.op → tracked b (aimed r.op p r.a r.v) ≡ true
    pub number : (r : Rule) → Parts b.sizes r → Op r.op → number_of b (aimed r.op p r.a r.v) ≡ 160 * k + place_of r.op r.a r.v
    pub subject : (r : Rule) → Op r.op → subject_of (aimed r.op p r.a r.v) ≡ s
    pub from_number : (op sub a v role : ℕ) → fields_good b.sizes op role sub a v ≡ true → tracked b (aimed op sub a v) ≡ true
        → number_of b (aimed op sub a v) / 160 ≡ k → Op op × (sub ≡ p)

  -- One side of a level: the ops that add, or those that delete.
  pub record SideIs (Op : ℕ → Type 0) (one two : ℕ) (on : Bool) : Type 0 where
    pub to : (op : ℕ) → (op ≡ one) ⊎ (op ≡ two) → Op op × (adds op ≡ on)
    pub from : (op : ℕ) → Op op → adds op ≡ on → (op ≡ one) ⊎ (op ≡ two)

  module _ (T : List Bool) (R : State) {Op : ℕ → Type 0} {k p : ℕ} {s : Subject} (level : LevelIs Op k p s)
      (terms : (S : State) (r : Rule) → Parts b.sizes r → GoodRule r → plain r ≡ true → Op r.op → (j : ℕ) → j < r.n
      → term_shown T S (get_or r.terms j no_term) ≡ term_holds b.juniors (lift b (on_level k R S)) s (get_or r.terms j no_term)) where
    -- The terms of a rule, at the level and in the ledger.
    rule_same : (S : State) (r : Rule) → Parts b.sizes r → GoodRule r → plain r ≡ true → Op r.op
        → rule_shown T S r ≡ all (term_holds b.juniors (lift b (on_level k R S)) s) (take r.n r.terms)
    unfolding rule_shown
    rule_same S r parts good no-not op =
        all_same_at (term_shown T S) (term_holds b.juniors (lift b (on_level k R S)) s) no_term (take r.n r.terms)
        (λ j l.
        let n : length (take r.n r.terms) ≡ r.n = length-take-le r.n r.terms (omega (arith, good.few, good.size)) in
        let h : j < r.n = omega arith in
        rw (get_or-take r.n r.terms j no_term h) (terms S r parts good no-not op j h))

    zero-value : (r : Rule) → Parts b.sizes r → 5 ≤ r.op → r.v ≡ 0
    zero-value r parts five = (crew_low b.sizes ok.book.sized r.a r.v (rule_crew b.sizes ok.book.sized r parts five)).1

    -- A rule as the depot's request.
    whole_ask : Rule → Ask
    whole_ask r = record { fact = 160 * k + place_of r.op r.a r.v; op = r.op; role = r.role.0; subject = p; a = r.a; v = r.v }

    -- The depot's request with a rule's fields.
    rule-asked : (r : Rule) → asked (whole_ask r) ≡ record { op = r.op; role = r.role; fact = aimed r.op p r.a r.v }
    unfolding whole_ask
    rule-asked r = request_parts (bytes_of (whole_ask r))

    permits-rule : (S : State) (r : Rule) → Parts b.sizes r → GoodRule r → plain r ≡ true → Op r.op → rule_shown T S r ≡ true
        → PermittedBy b.juniors (lift b (on_level k R S)) (asked (whole_ask r)) r
    permits-rule S r parts good no-not op shows =
        rw (rule-asked r)
        (record {
          op = refl;
          role = refl;
          a = sym (a_of-aimed r.op p r.a r.v);
          v = sym (v_of-aimed r.op p r.a r.v (zero-value r parts));
          terms = rw (level.subject r op) (sym (rule_same S r parts good no-not op) ∙ shows);
        })

    may-rule : (S : State) (j : ℕ) (on : Bool) → j < rs.count → Op (rule_at rs j).op → adds (rule_at rs j).op ≡ on
        → member b.query.roles (rule_at rs j).role.0 ≡ true
        → rule_shown T S (rule_at rs j) ≡ true → May b (on_level k R S) on (whole_ask (rule_at rs j))
    unfolding whole_ask
    may-rule S j on l op add role shows =
        let r = rule_at rs j in
        let parts = rule_parts b.sizes r (fits_at j l) in
        let good = all_good.good j l in
        record {
          formed = well_formed_from b.sizes (bytes_of (whole_ask r)) refl (level.good r parts op);
          role = role;
          adding = add;
          of_fact = rw (rule-asked r) (level.tracks r parts op);
          number = rw (rule-asked r) (level.number r parts op);
          bounded = omega (arith, level.low, good.aims);
          allows = permitted_from b.juniors (lift b (on_level k R S)) (asked (whole_ask r)) b.rules no_rule j (rw (listed-length rs same-rules few room) l)
              (rw (listed_at rs same-rules j l) (permits-rule S r parts good (plain_rule j l) op shows));
        }

    -- What a permission says of the rule that gives it.
    record Named (F : Fact → Bool) (q : Ask) (r : Rule) : Type 0 where
      op : r.op ≡ q.op
      role : r.role.0 ≡ q.role
      a : r.a ≡ q.a
      v : r.v ≡ q.v
      all_hold : all (term_holds b.juniors F (subject_of (aimed q.op q.subject q.a q.v))) (take r.n r.terms) ≡ true

    fields-of : (q : Ask) → well_formed b.sizes (bytes_of q) ≡ true → fields_good b.sizes q.op q.role q.subject q.a q.v ≡ true
    fields-of q e = (well_formed_parts b.sizes (bytes_of q) e).1

    named-parts : (F : Fact → Bool) (q : Ask) (r : Rule) → fields_good b.sizes q.op q.role q.subject q.a q.v ≡ true
        → PermittedBy b.juniors F (asked q) r → Named F q r
    named-parts F q r good e =
        let by = rw (request_parts (bytes_of q)) at e in
        record {
          op = by.op;
          role = by.role;
          a = by.a ∙ a_of-aimed q.op q.subject q.a q.v;
          v = by.v ∙ v_of-aimed q.op q.subject q.a q.v (fields_zero b.sizes q.op q.role q.subject q.a q.v good);
          all_hold = by.terms;
        }

    module _ {one two : ℕ} {on : Bool} (side : SideIs Op one two on) (ms : Moves) (moves : MovesOf rs one two b.query.roles ms rs.count) where
      -- What a move permits at the level, the depot permits.
      side-into : (S : State) (q : Ask) → Some T ms p S q → May b (on_level k R S) on (to_whole k q)
      unfolding whole_ask
      side-into S q some =
          let from = moves.each some.index some.listed in
          let j = from.0 in
          let l = from.1 in
          let move = from.3 in
          let parts = chosen_parts one two b.query.roles (rule_at rs j) from.2 in
          let op = side.to (rule_at rs j).op parts.0 in
          let whole : to_whole k q ≡ whole_ask (rule_at rs j) = rw (some.same, move.fine.aim, move.op, move.role, move.a, move.v) refl in
          subst (May b (on_level k R S) on) (sym whole)
          (may-rule S j on l op.0 op.1 parts.1 (sym (move_met T S (all_good.good j l) (plain_rule j l) move) ∙ some.holds))

      some_of : (S : State) (q : Ask) → q.fact / 160 ≡ k → May b (on_level k R S) on q → (j : ℕ) → j < rs.count
          → Named (lift b (on_level k R S)) q (rule_at rs j) → Some T ms p S (to_level q)
      some_of S q here may j l named =
          let r = rule_at rs j in
          let fact_of = ap (λ (x : Request). x.fact) (request_parts (bytes_of q)) in
          let numbered = sym (ap (number_of b) fact_of) ∙ may.number in
          let parts = rule_parts b.sizes r (fits_at j l) in
          let good = all_good.good j l in
          let of_fact = sym (ap (tracked b) fact_of) ∙ may.of_fact in
          let at_level = ap (λ (n : ℕ). n / 160) numbered ∙ here in
          let where-at = level.from_number q.op q.subject q.a q.v q.role (fields-of q may.formed) of_fact at_level in
          let op : Op r.op = subst Op (sym named.op) where-at.0 in
          let aim : aimed q.op q.subject q.a q.v ≡ aimed r.op p r.a r.v = rw (named.op, named.a, named.v, where-at.1) refl in
          let number : q.fact ≡ 160 * k + place_of r.op r.a r.v = sym numbered ∙ ap (number_of b) aim ∙ level.number r parts op in
          let on-side = side.from r.op op (ap adds named.op ∙ may.adding) in
          let chosen = chosen_from one two b.query.roles r on-side (ap (member b.query.roles) named.role ∙ may.role) in
          let found = moves.every j l chosen in
          let move = found.2 in
          let about : subject_of (aimed q.op q.subject q.a q.v) ≡ s = ap subject_of aim ∙ level.subject r op in
          let shows : rule_shown T S r ≡ true = rule_same S r parts good (plain_rule j l) op ∙ rw about at named.all_hold in
          let place : (move_at ms found.0).fact ≡ place_of r.op r.a r.v = move.fine.aim ∙ rw (move.op, move.a, move.v) refl in
          let fact : (move_at ms found.0).fact ≡ q.fact % 160 = omega (arith, place, number, good.aims) in
          record {
            index = found.0;
            listed = found.1;
            same = ask_same q (move_at ms found.0) p fact (move.op ∙ named.op) (move.role ∙ named.role) where-at.1 (move.a ∙ named.a)
                (move.v ∙ named.v);
            holds = move_met T S good (plain_rule j l) move ∙ shows;
            known = omega arith;
          }

      -- What the depot permits at the level, some move permits.
      side-out : (S : State) (q : Ask) → q.fact / 160 ≡ k → May b (on_level k R S) on q → Some T ms p S (to_level q)
      side-out S q here may =
          let found = permitted_cases b.juniors (lift b (on_level k R S)) (asked q) b.rules no_rule may.allows in
          let l : found.0 < rs.count = rw (listed-length rs same-rules few room) at found.1.0 in
          some_of S q here may found.0 l
          (named-parts (lift b (on_level k R S)) q (rule_at rs found.0) (fields-of q may.formed) (rw (listed_at rs same-rules found.0 l) at found.1.1))

    -- The level's world is the depot's at that level.
    pub within : {add₁ add₂ del₁ del₂ : ℕ} (adds dels : Moves) → SideIs Op add₁ add₂ true → SideIs Op del₁ del₂ false
        → MovesOf rs add₁ add₂ b.query.roles adds rs.count → MovesOf rs del₁ del₂ b.query.roles dels rs.count
        → Within (depot b) (world T adds dels p) k R
    within adds dels up down more less = record { known = small; into = into-depot; out = out-depot }
      where
        small : (S : State) (on : Bool) (q : Ask) → (world T adds dels p).May S (req on q) → q.fact < 160
        small S true q some = some.known
        small S false q some = some.known

        into-depot : (S : State) (on : Bool) (q : Ask) → (world T adds dels p).May S (req on q) → (depot b).May (on_level k R S) (req on (to_whole k q))
        into-depot S true q some = side-into up adds more S q some
        into-depot S false q some = side-into down dels less S q some

        out-depot : (S : State) (on : Bool) (q : Ask) → q.fact / 160 ≡ k → (depot b).May (on_level k R S) (req on q)
            → (world T adds dels p).May S (req on (to_level q))
        out-depot S true q here may = side-out up adds more S q here may
        out-depot S false q here may = side-out down dels less S q here may
