-- Each turn hands one rule, with the buffer, to `gather`. Assumes nothing.
use mathlib.Core.Path.{◌≡◌, sym, ◌∙◌, subst}
use mathlib.Core.Bool.{true}
use mathlib.Core.List.{[]}
use Rattle.frames.specs.declared.Rule.{Rule}
use Rattle.level.specs.Inner.Terms.{GoodRule}
use Rattle.level.specs.Inner.Chosen.{chosen_in}
use Rattle.moves.specs.Inner.Listed.{Taken}
use Rattle.moves.proofs.ListedLaws.{gathered_none, gathered_next, gathered_room, rule_same}
use Rattle.moves.proofs.moves_of.Goals as goal

-- What the step reads past the end.
abbrev default : Rule
default = record { op = 0; role = record { 0 = 0 }; a = 0; v = 0; n = 0; terms = [] }

pub loop-r-init : goal.loop-r-init
loop-r-init c = gathered_none _ _ _ _ _ _

pub gather-k-requires : goal.gather-k-requires
gather-k-requires c =
    let (good, (room, size)) = c.requires in
    let is = rule_same c.args.rules.now c.loop-r.r-index default c.loop-r-test.true in (
      subst (λ (y : Rule). GoodRule y) (sym is) (good.good c.loop-r.r-index c.loop-r-test.true),
      (
        λ chosen. gathered_room c.loop-r.invariant c.loop-r-test.true room
            (subst (λ (y : Rule). chosen_in c.args.one c.args.two c.args.roles y ≡ true) is chosen),
        c.loop-r.invariant.size ∙ size,
      ),
    )

pub loop-r-preserved : goal.loop-r-preserved
loop-r-preserved c =
    gathered_next c.loop-r.invariant c.loop-r-test.true
    (subst (λ (y : Rule). Taken c.args.one c.args.two c.args.roles y c.loop-r.k c.loop-r.ms c.gather-k.result c.gather-k.new.ms)
    (rule_same c.args.rules.now c.loop-r.r-index default c.loop-r-test.true) c.gather-k.ensures)
