-- The table of refusals holds, each row as it claims: one computation over the whole table, and one law. Assumes nothing.
use mathlib.Core.Path.{◌≡◌, refl}
use mathlib.Core.Bool.{true}
use Rattle.quantifiers.specs.Inner.Lists.{Each}
use Rattle.cases.specs.Refusals.{Turned, refusals}
use Rattle.sets.specs.Sets.{bit, member, put, within, member_at, put_at, number_at}
use Rattle.facts.specs.Facts.{fits, set_at, set_width, member_of, holds, put_fact, no_facts}
use Rattle.lines.specs.Digits.{digit, is_digit, malformed, frame_of, byte_at}
use Rattle.lines.specs.Lines.{extend, lines}
use Rattle.gate.specs.Gate.{pair_at, quad_at, misplaced, length_of, mislengthed, sizes_verdict, edge_verdict, rule_good, foreign, rule_verdict, fact_verdict, query_good}
use Rattle.sizes.specs.Sizes.{values_of, sizes_good, counts_of, sizes_of, fact_count}
use Rattle.gate.specs.Gate.{query_verdict, fields_verdict, verdict, line_verdict}
use Rattle.quantifiers.specs.Quantifiers.{all_below, sum_below, all, any, first}
use Rattle.frames.specs.Book.{term_at, terms_of, rule_of, fact_of, facts_after, rules_after, known_after, nothing, enter, query_of, wants_of, want_at, query_after, last_fault, walk, book_for, book_of}
use Rattle.frames.specs.Limits.{is_not, plain, all_plain, growing, same_key, twice, beyond_not, wrong_mode}
use Rattle.requests.specs.Requests.{aimed, request_of, fields_good, well_formed}
use Rattle.rules.specs.Rules.{names, permits, permitted, a_of, v_of, subject_of, directly, term_holds}
use Rattle.denials.specs.Denials.{first_named, first_unmet, why_not}
use Rattle.ledger.specs.Ledger.{allowed}
use Rattle.cases.specs.Text.{codes, written, five}
use Rattle.cases.proofs.Tests.{each}
use Rattle.cases.proofs.RefusalTests.{why, falls_on, falls_at, falls, is_turned, turned, turned_back}

-- Every row passes: computed.
computed : all turned refusals ≡ true
unfolding refusals codes written five turned is_turned falls falls_on falls_at why
    bit member put within member_at put_at number_at fits set_at set_width member_of holds put_fact no_facts digit is_digit malformed frame_of byte_at extend lines
    all_below sum_below values_of sizes_good counts_of sizes_of pair_at quad_at misplaced length_of mislengthed
    sizes_verdict edge_verdict rule_good foreign rule_verdict fact_verdict query_good query_verdict fields_verdict verdict line_verdict
    term_at terms_of rule_of fact_of facts_after rules_after known_after want_at wants_of query_of query_after nothing enter
    is_not plain all_plain growing same_key twice beyond_not wrong_mode last_fault walk book_for book_of
    aimed request_of fields_good well_formed all any subject_of a_of v_of directly term_holds names permits permitted allowed first first_named first_unmet why_not fact_count
computed = refl

-- 1 to 17: every row of the table of refusals is as it claims.
pub every_refusal : Each Turned refusals
every_refusal = each turned turned_back refusals computed
