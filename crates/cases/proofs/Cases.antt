-- D1 to D12 hold, and so do the books that only grow, each as its row of the table claims: one computation over both tables, and one law.
-- Assumes nothing.
use mathlib.Core.Path.{◌≡◌, refl}
use mathlib.Core.Bool.{true}
use Rattle.quantifiers.specs.Inner.Lists.{Each}
use Rattle.cases.specs.Claims.{Meant}
use Rattle.cases.specs.Table.{d1, d2, d3, d4, d5, d6, d7, d8, d9, d10_senior, d10_junior, d11, d12, table, customs, customs_late, each_without, growing_table}
use Rattle.sets.specs.Sets.{bit, member, put, within, subset, member_at, put_at, number_at}
use Rattle.facts.specs.Facts.{fits, set_at, set_width, member_of, holds, put_fact, no_facts}
use Rattle.lines.specs.Digits.{digit, is_digit, malformed, frame_of, byte_at}
use Rattle.lines.specs.Lines.{extend, lines}
use Rattle.gate.specs.Gate.{pair_at, quad_at, misplaced, length_of, mislengthed, sizes_verdict, edge_verdict, rule_good, foreign, rule_verdict, fact_verdict}
use Rattle.sizes.specs.Sizes.{values_of, sizes_good, counts_of, sizes_of}
use Rattle.gate.specs.Gate.{query_good, query_verdict, fields_verdict, verdict, line_verdict}
use Rattle.quantifiers.specs.Quantifiers.{all_below, any_below, all, any}
use Rattle.frames.specs.Book.{term_at, terms_of, rule_of, juniors_after, fact_of, facts_after, rules_after, want_at, wants_of, query_of, query_after, known_after, nothing}
use Rattle.frames.specs.Book.{enter, last_fault, walk, book_for, book_of}
use Rattle.frames.specs.Limits.{is_not, plain, all_plain, growing, same_key, twice, beyond_not, wrong_mode}
use Rattle.inherit.specs.Inheritance.{is_junior, down_within, downward, crew_holds, person_in, person_holds}
use Rattle.requests.specs.Requests.{aimed, request_of, fields_good, well_formed}
use Rattle.rules.specs.Rules.{subject_of, a_of, v_of, directly, effectively, in_directly, in_effectively, term_holds, names, permits, permitted}
use Rattle.ledger.specs.Ledger.{after, allowed}
use Rattle.ledger.specs.Show.{set_below, value_set, value_sets, crew_set}
use Rattle.replay.specs.Chains.{goes, run, fives}
use Rattle.replay.specs.Met.{wants, direct_crews, direct_set, met_at_least, met_exactly, met_directly, met}
use Rattle.replay.specs.Replay.{judge, replay_in}
use Rattle.cases.specs.Text.{codes, written, five, fives_of}
use Rattle.cases.proofs.Search.{same_bytes, among, named, named_below, all_named, candidates, join, stepped, spread, reached, stays, closed, unmet, shut}
use Rattle.cases.proofs.Tests.{is_reaches, shows_in, done_in, passes, passes_on, test, sound, each}

-- Every row passes: computed, of both tables.
computed : (all test table ≡ true) × (all test growing_table ≡ true)
unfolding table growing_table customs customs_late each_without d1 d2 d3 d4 d5 d6 d7 d8 d9 d10_senior d10_junior d11 d12 codes written five fives_of
    test passes_on passes is_reaches shows_in done_in same_bytes among named named_below all_named candidates join stepped spread reached stays closed unmet shut
    bit member put within subset member_at put_at number_at fits set_at set_width member_of holds put_fact no_facts
    digit is_digit malformed frame_of byte_at extend lines
    all_below values_of sizes_good counts_of sizes_of pair_at quad_at misplaced length_of mislengthed sizes_verdict edge_verdict
    rule_good foreign rule_verdict fact_verdict query_good query_verdict fields_verdict verdict line_verdict
    term_at terms_of rule_of juniors_after fact_of facts_after rules_after want_at wants_of query_of query_after known_after nothing enter
    is_not plain all_plain growing same_key twice beyond_not wrong_mode last_fault walk book_for book_of
    is_junior any_below down_within downward crew_holds person_in person_holds aimed request_of fields_good well_formed
    all any subject_of a_of v_of directly effectively in_directly in_effectively term_holds names permits permitted
    after allowed set_below value_set value_sets crew_set goes run fives wants direct_crews direct_set met_at_least met_exactly met_directly met judge replay_in
computed = (refl, refl)

-- D1 to D12: every row of the table is as it claims.
pub every_case : Each Meant table
every_case = each test sound table computed.0

-- The books that only grow are as they claim.
pub every_growing_case : Each Meant growing_table
every_growing_case = each test sound growing_table computed.1
