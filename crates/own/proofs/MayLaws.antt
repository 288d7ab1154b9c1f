-- A request on a fact of the query's person is permitted exactly where the fact may be added: the rule that permits it is the fact's, by
-- "at most one rule for each op, a and v".
use mathlib.Core.Path.{◌≡◌, refl, sym, ap, subst, ◌∙◌}
use mathlib.Core.Logic.{inl, inr, ⊎_elim, dite}
use mathlib.Core.Bool.{Bool, true, not}
use Prim.Native.Nat.{ℕ, ◌+◌, ◌-◌, ◌*◌, ◌/◌, ◌%◌, ◌<◌}
use native.Mathlib.Decide.{dec_lt}
use native.Mathlib.Omega.{arith}
use lib.ListN.{length, get_or, take}
use lib.Seq.{get_or-take, length-take-le, take_all}
use borrow.Author.Tests.{not-true}
use Rattle.quantifiers.specs.Quantifiers.{all}
use Rattle.quantifiers.proofs.ListLaws.{each_at, all-front}
use Rattle.sets.specs.Sets.{member}
use Rattle.facts.specs.declared.Person.{Person}
use Rattle.frames.specs.Book.{Contents, no_term, no_rule}
use Rattle.frames.specs.Limits.{growing}
use Rattle.frames.specs.Inner.Fits.{rule_fits, Short}
use Rattle.quantifiers.proofs.ListLaws.{all_get}
use Rattle.frames.proofs.LimitLaws.{growing_op, growing_at, key_same, once_at}
use Rattle.requests.specs.declared.Request.{Request}
use Rattle.requests.specs.Requests.{adds, aimed}
use Rattle.requests.proofs.RequestLaws.{request_parts, aimed_value, aimed_crew, aimed-member, well_formed_parts, well_formed_from}
use Rattle.requests.proofs.RequestLaws.{fields_zero}
use Rattle.rules.specs.declared.Subject.TheVariants.{User}
use Rattle.rules.specs.Rules.{subject_of, term_holds}
use Rattle.rules.proofs.RuleLaws.{a_of-aimed, v_of-aimed}
use Rattle.rules.proofs.RuleLaws.{PermittedBy, permitted_cases, permitted_from}
use Rattle.theory.specs.Inner.Facts.{State}
use Rattle.theory.specs.Inner.Plan.{Ask}
use Rattle.level.specs.Inner.Terms.{GoodRule}
use Rattle.level.proofs.RuleLaws.{rule_good_lem}
use Rattle.reach.specs.Inner.Tracked.{person_level, tracked, number_of, lift, bytes_of, asked, May}
use Rattle.reach.specs.Inner.Growing.{Growing}
use Rattle.reach.proofs.TrackLaws.{tracked_value, tracked_crew, tracked-member}
use Rattle.growth.specs.Inner.Growth as growth
use Rattle.own.specs.Inner.Own.{own, says_of, code_at, HasTerm, book_rule, AddsOwn, place_of_rule, IsRule, RuleFor, RulesOf, ask_of_rule}
use Rattle.own.proofs.RuleLaws.{says_there, says_lacking, GrowingKind, code_low, term-says, OwnRule, own_rule, same_place}

module _ (b : Contents) (ok : Growing b) where
  -- ---------------------------------------------------------------- a rule of the book

  fits_at : (j : ℕ) → j < length b.rules → rule_fits b.sizes (book_rule b j) ≡ true
  fits_at j l =
      each_at (λ r. rule_fits b.sizes r ≡ true) b.rules (length b.rules) j no_rule l (omega arith)
      (rw (take_all (length b.rules) b.rules (omega arith)) ok.book.rules_in)

  short_at : (j : ℕ) → j < length b.rules → Short (book_rule b j)
  short_at j l =
      each_at Short b.rules (length b.rules) j no_rule l (omega arith)
      (rw (take_all (length b.rules) b.rules (omega arith)) ok.book.rules_short)

  module _ (j : ℕ) (l : j < length b.rules) where
    good-at : GoodRule (book_rule b j)
    good-at = rule_good_lem b.sizes ok.book.sized (book_rule b j) (fits_at j l) (short_at j l)

    kind_at : (i : ℕ) → i < (book_rule b j).n → GrowingKind (get_or (book_rule b j).terms i no_term).kind
    kind_at i h = growing_at (book_rule b j) (short_at j l) (all_get growing b.rules no_rule j ok.rules l) i h

    -- A term of the rule holds of the person where its place says so.
    says_at : (S : State) (i : ℕ) → i < (book_rule b j).n
        → term_holds b.juniors (lift b S) (User b.query.person) (get_or (book_rule b j).terms i no_term)
        ≡ says_of (own b S) (code_at (book_rule b j) i)
    says_at S i h = term-says (get_or (book_rule b j).terms i no_term) (good-at.terms i h) b S (kind_at i h)

    -- The rule as a request on the person.
    own-at-rule : AddsOwn (book_rule b j).op → OwnRule b (book_rule b j)
    own-at-rule op = own_rule b ok.book (book_rule b j) (fits_at j l) op

    -- Where all terms of the rule hold, each place of it says so.
    says_all : (S : State) → all (term_holds b.juniors (lift b S) (User b.query.person)) (take (book_rule b j).n (book_rule b j).terms) ≡ true
        → (k : ℕ) → HasTerm (book_rule b j) k → says_of (own b S) k ≡ true
    says_all S e k t =
        let r = book_rule b j in
        let holds = term_holds b.juniors (lift b S) (User b.query.person) in
        let n : length (take r.n r.terms) ≡ r.n = length-take-le r.n r.terms (omega (arith, good-at.few, good-at.size)) in
        ap (says_of (own b S)) (sym t.is) ∙ sym (says_at S t.at t.counts)
        ∙ ap holds (sym (get_or-take r.n r.terms t.at no_term t.counts))
        ∙ all_get holds (take r.n r.terms) no_term t.at e (omega (arith, t.counts))

  -- ---------------------------------------------------------------- a request that is permitted

  -- The rule that permits a request on a fact of the person.
  record PermitsOwn (S : State) (q : Ask) (j : ℕ) : Type 0 where
    listed : j < length b.rules
    op : AddsOwn (book_rule b j).op
    same_op : (book_rule b j).op ≡ q.op
    role : (book_rule b j).role.0 ≡ q.role
    place : place_of_rule (book_rule b j) ≡ q.fact % 160
    terms : all (term_holds b.juniors (lift b S) (User b.query.person)) (take (book_rule b j).n (book_rule b j).terms) ≡ true

  module _ (S : State) (on : Bool) (q : Ask) (may : May b S on q) (here : q.fact / 160 ≡ person_level b) where
    -- The request's fact.
    fact_of : (asked q).fact ≡ aimed q.op q.subject q.a q.v
    fact_of = ap (λ (x : Request). x.fact) (request_parts (bytes_of q))

    of_fact : tracked b (aimed q.op q.subject q.a q.v) ≡ true
    of_fact = sym (ap (tracked b) fact_of) ∙ may.of_fact

    number : number_of b (aimed q.op q.subject q.a q.v) ≡ q.fact
    number = sym (ap (number_of b) fact_of) ∙ may.number

    -- No request on a crew.
    not-crew : q.op ≡ 3 → ⊥
    unfolding number_of
    not-crew is =
        let aim = aimed_crew q.op q.subject q.a q.v (omega arith) (omega arith) in
        let low = tracked_crew b (record { 0 = q.subject }) (record { 0 = q.a }) q.v (rw aim at of_fact) in
        omega (arith, low.0, low.1.0, low.1.1, rw aim at number)

    -- A request on the person is on the query's.
    the-person : AddsOwn q.op → q.subject ≡ b.query.person.0
    the-person (inl is) =
        let aim = aimed_value q.op q.subject q.a q.v (omega arith) in
        ap (λ (x : Person). x.0) (tracked_value b (record { 0 = q.subject }) (record { 0 = q.a }) q.v (rw aim at of_fact)).0
    the-person (inr is) =
        let aim = aimed-member q.op q.subject q.a q.v (omega arith) in
        ap (λ (x : Person). x.0) (tracked-member b (record { 0 = q.subject }) (record { 0 = q.a }) (rw aim at of_fact)).0

    permits-own : (j : ℕ) → j < length b.rules → PermittedBy b.juniors (lift b S) (asked q) (book_rule b j) → PermitsOwn S q j
    permits-own j l e =
        let r = book_rule b j in
        let by = rw (request_parts (bytes_of q)) at e in
        let good = (well_formed_parts b.sizes (bytes_of q) may.formed).1 in
        let a-of = by.a ∙ a_of-aimed q.op q.subject q.a q.v in
        let v-of = by.v ∙ v_of-aimed q.op q.subject q.a q.v (fields_zero b.sizes q.op q.role q.subject q.a q.v good) in
        let op : AddsOwn r.op = ⊎_elim (λ (i : r.op ≡ 1). inl i)
        (λ x. ⊎_elim (λ (i : r.op ≡ 3). absurd (not-crew (sym by.op ∙ i))) (λ (i : r.op ≡ 5). inr i) x)
        (growing_op r (all_get growing b.rules no_rule j ok.rules l)) in
        let who : q.subject ≡ b.query.person.0 = the-person (subst AddsOwn by.op op) in
        let aim : aimed q.op q.subject q.a q.v ≡ aimed r.op b.query.person.0 r.a r.v = rw (by.op, a-of, v-of, who) refl in
        let rule = own-at-rule j l op in
        let at-number : q.fact ≡ 160 * person_level b + place_of_rule r = sym number ∙ ap (number_of b) aim ∙ rule.number in
        record {
          listed = l;
          op = op;
          same_op = by.op;
          role = by.role;
          place = omega (arith, at-number, rule.low);
          terms = rw (ap subject_of aim ∙ rule.subject) at by.terms;
        }

    module _ {R : growth.Rules} (rules : RulesOf b R) where
      -- The rule of the fact is the rule that permits the request.
      its-rule : (j : ℕ) → PermitsOwn S q j → (f : ℕ) → f ≡ q.fact % 160 → (x : RuleFor b R f) → x.at ≡ j
      its-rule j p f e x =
          let same = same_place b ok.book (book_rule b x.at) (book_rule b j) (fits_at x.at x.is.listed) (fits_at j p.listed)
          x.is.op p.op (x.is.place ∙ e ∙ sym p.place) in
          once_at b.rules no_rule ok.once x.at j x.is.listed p.listed
          (key_same (book_rule b x.at) (book_rule b j) same.0 same.1.0 same.1.1)

      may-by : (j : ℕ) → PermitsOwn S q j → growth.May R (own b S) (q.fact % 160)
      may-by j p =
          let u : R.usable (q.fact % 160) =
          subst R.usable p.place (rules.every j p.listed p.op (ap (member b.query.roles) p.role ∙ may.role)) in
          let x = rules.rule (q.fact % 160) u in
          let is : IsRule b R (q.fact % 160) j = subst (IsRule b R (q.fact % 160)) (its-rule j p (q.fact % 160) refl x) x.is in
          record {
            rule = u;
            held = λ g a.
                let t = is.asks g a in
                sym (says_there (own b S) g t.0) ∙ says_all j p.listed S p.terms g t.1;
            lacking = λ g a.
                let t = is.bars g a in
                not-true (own b S g) (sym (says_lacking (own b S) g) ∙ says_all j p.listed S p.terms (160 + g) t.1);
          }

      -- A request that is permitted on a fact of the person adds it, and the fact may be added.
      pub may-own : (on ≡ true) × growth.May R (own b S) (q.fact % 160)
      may-own =
          let found = permitted_cases b.juniors (lift b S) (asked q) b.rules no_rule may.allows in
          let p = permits-own found.0 found.1.0 found.1.1 in
          (sym may.adding ∙ ap adds (sym p.same_op) ∙ (own-at-rule found.0 p.listed p.op).adding, may-by found.0 p)

  -- ---------------------------------------------------------------- a fact that may be added

  module _ {R : growth.Rules} (rules : RulesOf b R) where
    -- The request of a fact that may be added.
    abbrev pub rule_ask : (f : ℕ) → R.usable f → Ask
    rule_ask f u = ask_of_rule b (book_rule b (rules.rule f u).at)

    -- It is permitted.
    pub own-may : (S : State) (f : ℕ) (may : growth.May R (own b S) f) → May b S true (rule_ask f may.rule)
    own-may S f may =
        let x = rules.rule f may.rule in
        let j = x.at in
        let is = x.is in
        let r = book_rule b j in
        let rule = own-at-rule j is.listed is.op in
        let same : asked (ask_of_rule b r) ≡ record { op = r.op; role = r.role; fact = aimed r.op b.query.person.0 r.a r.v } =
        request_parts (bytes_of (ask_of_rule b r)) in
        let holds = term_holds b.juniors (lift b S) (User b.query.person) in
        let terms : all holds (take r.n r.terms) ≡ true =
        all-front holds no_term r.terms r.n
        (λ i h. says_at j is.listed S i h
        ∙ dite (dec_lt (code_at r i) 160)
        (λ (low : code_at r i < 160). says_there (own b S) (code_at r i) low ∙ may.held (code_at r i) (is.asked i (code_at r i) h refl low))
        (λ (high : code_at r i < 160 → ⊥).
        let far = code_low (get_or r.terms i no_term) ((good-at j is.listed).terms i h) (kind_at j is.listed i h) in
        let g = code_at r i - 160 in
        let e : code_at r i ≡ 160 + g = omega arith in
        ap (says_of (own b S)) e ∙ says_lacking (own b S) g ∙ ap not (may.lacking g (is.barred i g h e (omega arith))))) in
        record {
          formed = well_formed_from b.sizes (bytes_of (ask_of_rule b r)) refl rule.fields;
          role = is.role;
          adding = rule.adding;
          of_fact = rw same rule.tracks;
          number = rw same rule.number;
          bounded = omega (arith, ok.book.sized.crews_most, rule.low);
          allows = permitted_from b.juniors (lift b S) (asked (ask_of_rule b r)) b.rules no_rule j is.listed
              (rw same
              (record {
                op = refl;
                role = refl;
                a = sym (a_of-aimed r.op b.query.person.0 r.a r.v);
                v = sym (v_of-aimed r.op b.query.person.0 r.a r.v
                    (fields_zero b.sizes r.op r.role.0 b.query.person.0 r.a r.v rule.fields));
                terms = rw rule.subject terms;
              }));
        }

    -- Its fact is the person's fact f.
    pub ask-fact : (f : ℕ) (u : R.usable f) → ((rule_ask f u).fact / 160 ≡ person_level b) × ((rule_ask f u).fact % 160 ≡ f)
    ask-fact f u =
        let x = rules.rule f u in
        let low = (own-at-rule x.at x.is.listed x.is.op).low in
        (omega arith, omega (arith, x.is.place))
