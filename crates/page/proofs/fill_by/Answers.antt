-- `page::fill_by` meets its contract: the crews are settled for every person, above them the levels of all persons are settled at once, and the rows
-- that their flags show are right (`persons_right`). Assumes nothing.
use mathlib.Core.Path.{◌≡◌, refl}
use mathlib.Core.Logic.{dite}
use mathlib.Core.Bool.{false}
use Prim.Native.Nat.{ℕ, ◌<◌}
use native.Mathlib.Decide.{dec_lt}
use native.Mathlib.Omega.{arith}
use lib.ListN.{get_or, replicate, get_or-replicate, get_or-eq_default}
use Rattle.frames.specs.Book.{contents_of}
use Rattle.page.proofs.PersonLaws.{persons_right}
use Rattle.page.proofs.fill_by.Goals as goal

-- Every word is 0 before the persons' levels.
words_clear : (k : ℕ) → ◌≡◌ {A = ℕ} (get_or (replicate 448 0) k 0) 0
words_clear k = dite (dec_lt k 448)
    (λ (l : k < 448). get_or-replicate 448 k 0 0 l)
    (λ (l : k < 448 → ⊥). get_or-eq_default (replicate 448 0) 0 {n = k} (omega arith))

pub crews_table-requires : goal.crews_table-requires
crews_table-requires c =
    let pre = c.requires in
    record {
      leveled = pre.leveled;
      side_moves = (pre.side_moves.0, record { size = refl; blank = λ j h. get_or-replicate 5280 j false false (omega arith) });
    }

pub settle-requires : goal.settle-requires
unfolding contents_of
settle-requires c =
    let pre = c.requires in
    record {
      persons_bound = (pre.leveled.0.book.sized.persons_most, pre.side_moves.1.sides.sound_adds);
      table_len = (c.crews_table.ensures.made.size, record { size = refl; none = words_clear });
    }

pub put_rows-requires : goal.put_rows-requires
unfolding contents_of
put_rows-requires c =
    let pre = c.requires in
    record {
      persons_bound = (pre.leveled.0.book.sized.persons_most, c.settle.ensures.size);
      cleared = c.clear.ensures;
    }

pub returns : goal.returns
unfolding contents_of
returns c =
    let pre = c.requires in
    persons_right c.args.b.now pre.leveled.0 pre.leveled.1 pre.side_moves.1 c.crews_table.ensures c.settle.ensures c.put_rows.ensures
