-- `replay::is_met` meets its contract: by the mode at least, exactly, or at least and directly, the direct crews first. Assumes nothing.
use mathlib.Core.Path.{◌≡◌, refl, sym, ◌∙◌}
use mathlib.Core.Bool.{Bool, true, false, cond, not, ◌&&◌, ◌||◌, true≢false}
use mathlib.Core.List.{List}
use Prim.Native.Nat.{ℕ}
use native.Mathlib.Omega.{arith}
use lib.Dec.{eqb}
use borrow.Author.Tests.{eqb-true, ne_eqb}
use Rattle.sets.specs.Sets.{subset}
use Rattle.facts.specs.Facts.{holds}
use Rattle.facts.specs.declared.Fact.{Fact}
use Rattle.frames.specs.declared.Want.{Want}
use Rattle.frames.specs.Book.{Contents, contents_of}
use Rattle.quantifiers.specs.Quantifiers.{all}
use Rattle.replay.specs.Met.{wants, direct_crews, met_at_least, met_exactly, met_directly, met}
use Rattle.replay.specs.Inner.Direct.{held_set, wanted}
use Rattle.replay.proofs.is_met.Goals as goal

-- The tests of a query: its mode is 01, or 02; of the direct crews, exactly and at least; and what is held of a named attribute.
abbrev one : Contents → Bool
one b = eqb b.query.mode 1

abbrev two : Contents → Bool
two b = eqb b.query.mode 2

abbrev held : Contents → (Fact → Bool) → Bool → Want → ℕ
held b S directly w = held_set directly b S w.attr.0

-- A mode is not both.
one_not-two : (m : ℕ) → eqb m 1 ≡ true → eqb m 2 ≡ false
one_not-two m e = ne_eqb m 2 (λ i. omega (arith, eqb-true m 1 e))

-- m: the mode is 01; t: it is 02; x and y: the direct crews are exactly, and at least, the listed ones.
unlisted : (m t x y a e f : Bool) → (m || cond t x y) ≡ false → false ≡ cond m a (cond t (x && e) (y && f))
unlisted true t x y a e f z = absurd (true≢false z)
unlisted false true true y a e f z = absurd (true≢false z)
unlisted false true false y a e f z = refl
unlisted false false x true a e f z = absurd (true≢false z)
unlisted false false x false a e f z = refl

by_mode : (m t x y : Bool) → (m ≡ true → t ≡ false) → (h : Bool → Want → ℕ) (ws : List Want) → (m || cond t x y) ≡ true
    → all (λ w. wanted t w.set (h (not m && not t) w)) ws
    ≡ cond m (all (λ w. subset w.set (h false w)) ws)
    (cond t (x && all (λ w. eqb (h false w) w.set) ws) (y && all (λ w. subset w.set (h true w)) ws))
by_mode true true x y other h ws z = absurd (true≢false (other refl))
by_mode true false x y other h ws z = refl
by_mode false true true y other h ws z = refl
by_mode false true false y other h ws z = absurd (true≢false (sym z))
by_mode false false x true other h ws z = refl
by_mode false false x false other h ws z = absurd (true≢false (sym z))

pub is_listed-requires : goal.is_listed-requires
unfolding contents_of
is_listed-requires c = c.requires.sized.crews_most

pub returns-then-not-is_listed : goal.returns-then-not-is_listed
unfolding met met_exactly met_directly direct_crews contents_of
returns-then-not-is_listed c =
    let b = contents_of c.args.b.now in
    let S = holds c.args.ledger.now in
    let crews = direct_crews b S in
    unlisted (one b) (two b) (eqb crews b.query.crews) (subset b.query.crews crews) (met_at_least b S)
    (all (λ w. eqb (held b S false w) w.set) (wants b)) (all (λ w. subset w.set (held b S true w)) (wants b))
    (sym c.is_listed.ensures ∙ c.if-not-is_listed.true)

pub returns : goal.returns
unfolding met met_at_least met_exactly met_directly direct_crews contents_of
returns c =
    let b = contents_of c.args.b.now in
    let S = holds c.args.ledger.now in
    let crews = direct_crews b S in
    c.has_wanted.ensures ∙ by_mode (one b) (two b) (eqb crews b.query.crews) (subset b.query.crews crews) (one_not-two b.query.mode)
    (held b S) (wants b) (sym c.is_listed.ensures ∙ c.if-not-is_listed.false)
