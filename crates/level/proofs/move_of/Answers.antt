-- The move of a rule: before term `j` the places of the terms before it are written. Assumes nothing.
use native.Mathlib.Omega.{arith}
use lib.Seq.{length-take-le}
use Rattle.level.proofs.TermLaws.{move_made}
use Rattle.level.proofs.move_of.Goals as goal

pub returns : goal.returns
returns c =
    let many = length-take-le c.from.result c.args.r.now.terms (omega arith) in
    rw (c.from-2.ensures, c.from-3.ensures, c.from-4.ensures, c.from-5.ensures, c.from-6.ensures)
    (move_made c.loop-j.invariant c.requires (omega (arith, c.from.ensures, c.loop-j-test.false, c.requires.few, c.requires.size, many))
    (omega arith, (omega arith, (omega arith, omega arith))) c.aim.result c.aim.ensures)
