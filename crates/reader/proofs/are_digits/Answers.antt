-- `reader::are_digits` meets its contract: a character is a digit where its value is below 16. Assumes nothing.
use Rattle.std.proofs.Common.{rules, tests, ◌∙◌}
use Rattle.std.proofs.lemmas.Iterator.{YieldsList-from_slice}
use Rattle.std.proofs.lemmas.Iterator.Search.{all_from_yields_List}
use Rattle.quantifiers.proofs.PositionLaws.{all_list}
use Rattle.lines.specs.Digits.{is_digit}
use Rattle.reader.proofs.are_digits.Goals as goal

pub returns : goal.returns
unfolding is_digit
returns c =
    all_from_yields_List is_digit _ _ _ c.all.ensures.ran (YieldsList-from_slice c.args.x.now cc) (λ x b q k. search (rules, tests))
    ∙ all_list is_digit c.args.x.now
