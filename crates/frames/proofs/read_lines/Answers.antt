-- `frames::read_lines` meets its contract. The invariant `Held` says that what is left of the book decides the answer; the
-- measure is what is left of its length. Each turn is one law of WalkLaws, by the kind of its frame. Assumes nothing.
use Rattle.std.proofs.Common.{rules}
use Rattle.std.specs.Prelude.{Some}
use Rattle.reader.specs.declared.Frame.TheVariants.{Bytes}
use mathlib.Core.Path.{◌≡◌, refl, sym, ap, ◌∙◌}
use mathlib.Core.Bool.{Bool, ◌&&◌}
use borrow.Author.Tests.{not-true, not-false}
use native.Mathlib.Omega.{arith}
use lib.ListN.{set, take}
use Rattle.reader.proofs.ReadLaws.{read_size}
use Rattle.lines.specs.Digits.{byte_at}
use Rattle.gate.specs.Gate.{verdict, Good}
use Rattle.gate.proofs.PassedLaws.{rule_passed}
use Rattle.facts.specs.Facts.{no_facts}
use Rattle.frames.specs.Limits.{plain}
use Rattle.frames.specs.Book.{contents_of, listed, nothing}
use Rattle.frames.proofs.WalkLaws.{Framed, held, judged-bad, judged-good, at_end-bad, at_end-whole, at_end-good}
use Rattle.frames.proofs.WalkLaws.{line-framed, edge-good, fact-good, rule_counted, rule_good_lem, other-good, edge_small}
use Rattle.frames.proofs.LimitLaws.{none-plain}
use Rattle.frames.proofs.read_lines.Goals as goal
use Rattle.frames.proofs.read_lines.Goals.{After-byte_at, in-2, in-4, in-3, in_default}

pub loop-cursor-init : goal.loop-cursor-init
unfolding held nothing no_facts
loop-cursor-init c =
    rw c.opening_line-cursor.ensures (
      record {
        within = omega arith;
        begun = omega arith;
        lined = omega arith;
        counted = omega arith;
        crewed = omega arith;
        edged = refl;
        roomed = search rules;
        unmarked = none-plain;
        left = refl;
      },
      refl,
    )

pub returns-in-Err : goal.returns-in-Err
returns-in-Err c =
    let at = c.loop-cursor in
    let read = c.read_frame-read.ensures in
    judged-bad at.invariant.0 read c.in-Err.f (sym c.in-Err.ensures) (read_size read ∙ at.invariant.1) c.loop-cursor-test.true

-- The line's frame was read, and it is good.
good : (c : After-byte_at) → let at = c.loop-cursor in
    let x = take c.in-Ok.n c.read_frame-read.new.frame in
    (c.read_frame-read.result.frame ≡ Some (Bytes c.in-Ok.n)) × (Framed c.args.book.now at.cursor.at x × (verdict at.known x ≡ Good))
good c =
    let read = c.read_frame-read.ensures in
    let judged = judged-good c.loop-cursor.invariant.0 read c.in-Ok.n (sym c.in-Ok.ensures) in
    (judged.0, (line-framed c.loop-cursor.invariant.0 read judged.0, judged.1))

pub enter_edge-requires-clause-x_value : goal.enter_edge-requires-clause-x_value
enter_edge-requires-clause-x_value c =
    let at = c.loop-cursor in
    let kind = sym c.byte_at.ensures ∙ c.in-2.is in
    (kind, edge_small at.known _ (good (goal.at.enter_edge-requires-clause-x_value c).After-byte_at).1.1 at.invariant.0.crewed kind)

pub bounds-b-known : goal.bounds-b-known
bounds-b-known c =
    (rule_passed c.loop-cursor.known _ (good (goal.at.bounds-b-known c).After-byte_at).1.1 (sym c.byte_at.ensures ∙ c.in-3.is)).1.1

pub loop-cursor-preserved : goal.loop-cursor-preserved
loop-cursor-preserved c =
    let at = c.loop-cursor in
    let read = c.read_frame-read.ensures in
    let size = read_size read ∙ at.invariant.1 in
    let x = take c.in-Ok.n c.read_frame-read.new.frame in
    let line = good (goal.at.loop-cursor-preserved c).After-byte_at in
    let is : c.byte_at.result ≡ byte_at x 0 = c.byte_at.ensures in
    elim c.match-byte_at.branch [
      | in-2 w ↦
          rw (read.next, w.b-is, w.known-is, w.unmarked-is)
          (edge-good at.invariant.0 line.1.0 line.1.1 (sym is ∙ w.in-2.is) w.enter_edge.ensures, size)
      | in-4 w ↦
          rw (read.next, w.b-is, w.known-is, w.unmarked-is)
          (fact-good at.invariant.0 line.1.0 line.1.1 (sym is ∙ w.in-4.is) w.enter_fact.ensures, size)
      | in-3 w ↦
          let kind = sym is ∙ w.in-3.is in
          let rule = w.rule_of-rule.ensures in
          rw (read.next, w.b-is) (
            rule_good_lem at.invariant.0 line.1.0 line.1.1 kind (w.known-is ∙ rule_counted at.known _ kind)
                (ap (set at.b.rules.rules at.known.count) rule)
                (w.unmarked-is ∙ ap (λ (u : Bool). at.unmarked && u) (w.is_plain-unmarked.ensures ∙ ap plain rule)),
            size,
          )
      | in_default w ↦
          rw (read.next, w.b-is, w.unmarked-is) (
            other-good at.invariant.0 line.1.0 line.1.1 (λ z. let e : c.byte_at.result ≡ 2 = is ∙ z in omega arith) (λ z. let e : c.byte_at.result ≡ 4 = is ∙ z in omega arith)
                (λ z. let e : c.byte_at.result ≡ 3 = is ∙ z in omega arith) (w.known-is ∙ w.known_after-known.ensures) w.query_after-b.ensures,
            size,
          )
    ]

pub returns-then-not-known : goal.returns-then-not-known
returns-then-not-known c = at_end-bad c.loop-cursor.invariant.0 c.loop-cursor-test.false (not-true _ c.if-not-known.true)

pub returns-in-Err-judge_whole : goal.returns-in-Err-judge_whole
returns-in-Err-judge_whole c =
    at_end-whole c.loop-cursor.invariant.0 c.loop-cursor-test.false (not-false _ c.if-not-known.false) c.in-Err-judge_whole.f
    (sym c.in-Err-judge_whole.ensures)

pub returns : goal.returns
unfolding contents_of listed held
returns c =
    at_end-good c.loop-cursor.invariant.0 c.loop-cursor-test.false (not-false _ c.if-not-known.false) (sym c.in_default-judge_whole.ensures)
