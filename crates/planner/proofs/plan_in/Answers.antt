-- `planner::plan_in` meets its contract: a short buffer is refused; else what the search found is given. Assumes nothing.
use mathlib.Core.Path.{◌≡◌}
use Prim.Native.Nat.{ℕ, ◌*◌, ◌≤◌, ◌<◌}
use Rattle.frames.specs.Book.{contents_of}
use Rattle.sizes.proofs.SizeLaws.{facts_few}
use Rattle.planner.proofs.AnswerLaws.{given_decided, answered_short, answered_long}
use native.Mathlib.Omega.{arith}
use Rattle.planner.proofs.plan_in.Goals as goal

below_of : {n f g : ℕ} → n < 10 * f → f ≡ g → n < 10 * g
below_of h e = omega arith

above_of : {n f g : ℕ} → 10 * f ≤ n → f ≡ g → 10 * g ≤ n
above_of h e = omega arith

pub fact_count-f-requires : goal.fact_count-f-requires
unfolding contents_of
fact_count-f-requires c = c.requires.sized

pub overflow_mul-f : goal.overflow_mul-f
unfolding contents_of
overflow_mul-f c = omega (arith, c.fact_count-f.ensures, facts_few c.args.b.now.sizes c.requires.sized)

pub returns-then-out-f : goal.returns-then-out-f
unfolding contents_of
returns-then-out-f c = answered_short (contents_of c.args.b.now) _ (below_of c.if-out-f.true c.fact_count-f.ensures)

-- By arithmetic alone, so that other numbers would be judged by what they are.
pub give-requires : goal.give-requires
unfolding contents_of
give-requires c =
    let found = c.find_plan-found.ensures in
    let long = above_of c.if-out-f.false c.fact_count-f.ensures in
    record {
      ups_le_depot_size = (omega (arith, found.few_up), (omega (arith, found.most_down), omega (arith, found.few, long)));
      up_len = (omega arith, omega arith);
    }

pub returns : goal.returns
unfolding contents_of
returns c =
    let long = above_of c.if-out-f.false c.fact_count-f.ensures in
    answered_long (contents_of c.args.b.now) _ long
    (given_decided (contents_of c.args.b.now) c.find_plan-found.ensures c.args.out.now long c.give.ensures)
