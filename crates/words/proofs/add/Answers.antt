-- `words::add` meets its contract: the one word that is written has the persons besides. Assumes nothing.
use Rattle.words.proofs.WordLaws.{lit_one}
use Rattle.words.proofs.add.Goals as goal

pub returns : goal.returns
returns c =
    lit_one c.args.who c.args.held.now c.args.k c.requires.0 c.requires.1
