-- `readings::put_book` meets its contract: the sizes, and behind them the counts, as the invariant says; a blank and q. Assumes nothing.
use mathlib.Core.Path.{◌≡◌, refl, ap}
use Prim.Native.Nat.{◌+◌, ◌≤◌}
use native.Mathlib.Omega.{arith}
use lib.ListN.{length, length-set, length-take, length-drop}
use Rattle.frames.specs.Book.{contents_of}
use Rattle.answers.specs.Answers.{hex}
use Rattle.answers.proofs.WrittenLaws.{written_as}
use Rattle.answers.proofs.ReadingLaws.{counts_none, counts_more, book_written}
use Rattle.readings.proofs.put_book.Goals as goal
use Rattle.readings.proofs.put_book.Goals.{After-loop-n}

pub loop-n-init : goal.loop-n-init
loop-n-init c = counts_none _ (written_as c.put_bytes-end.ensures (ap hex c.sizes_bytes-sizes.ensures))

pub put_count-end-requires : goal.put_count-end-requires
unfolding hex
put_count-end-requires c =
    let so_far = c.loop-n.invariant in
    simp (length-take, length-drop) (omega (arith, so_far.place, so_far.written.size, c.loop-n-test.true, c.requires))

pub loop-n-preserved : goal.loop-n-preserved
loop-n-preserved c = counts_more c.loop-n.invariant refl c.put_count-end.ensures

-- All counts are written, and there is room for the four characters behind them.
room : (c : After-loop-n) → c.loop-n.end + 4 ≤ length c.loop-n.text
unfolding hex
room c =
    let so_far = c.loop-n.invariant in
    omega (arith, so_far.place, so_far.written.size, c.loop-n.auto.n-index-end, c.requires)

pub bounds-text-end : goal.bounds-text-end
bounds-text-end c = omega (arith, room (goal.at.bounds-text-end c).After-loop-n)

pub slice_bounds-put_line-start : goal.slice_bounds-put_line-start
slice_bounds-put_line-start c =
    omega (arith, room (goal.at.slice_bounds-put_line-start c).After-loop-n, length-set c.loop-n.text c.loop-n.end 32)

pub slice_bounds-put_line-count : goal.slice_bounds-put_line-count
slice_bounds-put_line-count c =
    omega (arith, room (goal.at.slice_bounds-put_line-count c).After-loop-n, length-set c.loop-n.text c.loop-n.end 32)

pub put_line-requires : goal.put_line-requires
put_line-requires c = simp (length-take, length-drop, length-set) (omega (arith, room (goal.at.put_line-requires c).After-loop-n))

pub returns : goal.returns
unfolding contents_of
returns c =
    let all : c.loop-n.n-index ≡ 3 = omega (arith, c.loop-n.auto.n-index-end, c.loop-n-test.false) in
    book_written (contents_of c.args.b.now) c.edge_count-edges.ensures c.facts_in-facts.ensures all c.loop-n.invariant
    (omega (arith, room (goal.at.returns c).After-loop-n)) refl c.put_line.ensures
