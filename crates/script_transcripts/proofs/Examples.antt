-- Worked examples: document 01's script, by computation: what the definitions of lines, plans and answers come to on its bytes.
-- The same bytes are the program's files stdin and stdout.
use Rattle.std.specs.Prelude.{◌≡◌, refl, List, [], ◌∷◌, ℕ}
use Rattle.search.specs.Search.{all, any, least, after_last}
use Rattle.ternary.specs.Word.{agree, inside, both}
use Rattle.ternary.specs.Pattern.{overlaps, within, full_mask, matches}
use Rattle.layout.specs.Minimum.{minimum, lowest_at as lowest_of, highest_at as highest_of}
use Rattle.layout.specs.Cost.{window_end, costs, next_slot}
use Rattle.layout.specs.Chain.{steps}
use Rattle.layout.specs.Write.{moves}
use Rattle.layout.specs.Plan.{down_cost, up_cost, down_chain, up_chain, best_down, best_up, slot_down, slot_up, choose, after_preceding, first_dependant}
use Rattle.layout.specs.Plan.{insert_choice}
use Rattle.plan_words.specs.PlanWords.{write_of}
use Rattle.records.specs.Record.{listed, empty, rank_fits, sound_parts, record_of, put_slot, slot_matches}
use Rattle.records.specs.Order.{distinct, precedes, tied, same_id, same_pattern, equal_rule, replaceable, misordered}
use Rattle.records.specs.Checks.{lowest, shaped, check_shape, unsound_at, check_records, twice_at, check_twice, disorder_at, check_order, slot_checks}
use Rattle.records.specs.Checks.{table_checks, first_match}
use Rattle.records.specs.Entries.{entries}
use Rattle.records.specs.Editions.{rank_of, ranked, known_edition, check_sound, check_edition, check_given}
use Rattle.lookups.specs.Lookup.{hit_at, match_told, lookup_answer}
use Rattle.neighbours.specs.Neighbours.{check_known, check_tie, check_full, after_a, slot_b, check_crossed, replaced_slot, replaces, new_checks, place_checks}
use Rattle.neighbours.specs.Neighbours.{rule_checks, insert_checks}
use Rattle.delete_plans.specs.Deletes.{has_id, slot_of_id, check_id, check_unknown, delete_checks}
use Rattle.script_text.specs.Parts.{first_part, parts}
use Rattle.script_text.specs.Decimal.{every, decimal_on, digits_of, digits_in}
use Rattle.script_lines.specs.Lines.{last_kept, lines_of}
use Rattle.script_lines.specs.Blocks.{answered}
use Rattle.script_fields.specs.Fields.{is_number, binary, symbol_word}
use Rattle.script_commands.specs.Commands.{letter_of, table_command, insert_command, delete_command, lookup_command, short_command, long_command, command_of}
use Rattle.script_answers.specs.Answers.{printed_writes, plan_bytes}
use Rattle.script_operations.specs.Outcomes.{insert_outcome, delete_outcome}
use Rattle.script.specs.Script.{table_outcome}
use Rattle.script_transcripts.specs.Whole.{script_outcome}

-- T 6, I 1 30 11* 7, ..., L 1000, each with its newline
input : List ℕ
input =
    84 ∷ 32 ∷ 54 ∷ 10 ∷
    73 ∷ 32 ∷ 49 ∷ 32 ∷ 51 ∷ 48 ∷ 32 ∷ 49 ∷ 49 ∷ 42 ∷ 32 ∷ 55 ∷ 10 ∷
    73 ∷ 32 ∷ 50 ∷ 32 ∷ 50 ∷ 48 ∷ 32 ∷ 49 ∷ 32 ∷ 56 ∷ 10 ∷
    73 ∷ 32 ∷ 51 ∷ 32 ∷ 50 ∷ 53 ∷ 32 ∷ 49 ∷ 42 ∷ 49 ∷ 32 ∷ 57 ∷ 10 ∷
    73 ∷ 32 ∷ 52 ∷ 32 ∷ 50 ∷ 53 ∷ 32 ∷ 49 ∷ 49 ∷ 49 ∷ 32 ∷ 57 ∷ 10 ∷
    73 ∷ 32 ∷ 53 ∷ 32 ∷ 49 ∷ 48 ∷ 32 ∷ 48 ∷ 48 ∷ 32 ∷ 49 ∷ 10 ∷
    73 ∷ 32 ∷ 54 ∷ 32 ∷ 52 ∷ 48 ∷ 32 ∷ 48 ∷ 49 ∷ 32 ∷ 50 ∷ 10 ∷
    73 ∷ 32 ∷ 55 ∷ 32 ∷ 50 ∷ 48 ∷ 32 ∷ 48 ∷ 32 ∷ 51 ∷ 10 ∷
    76 ∷ 32 ∷ 48 ∷ 49 ∷ 48 ∷ 49 ∷ 10 ∷
    68 ∷ 32 ∷ 50 ∷ 10 ∷
    76 ∷ 32 ∷ 49 ∷ 48 ∷ 48 ∷ 48 ∷ 10 ∷ []

-- N 6, P 1, W - 0, ..., E 2, M
output : List ℕ
output =
    78 ∷ 32 ∷ 54 ∷ 10 ∷
    80 ∷ 32 ∷ 49 ∷ 10 ∷
    87 ∷ 32 ∷ 45 ∷ 32 ∷ 48 ∷ 10 ∷
    80 ∷ 32 ∷ 49 ∷ 10 ∷
    87 ∷ 32 ∷ 45 ∷ 32 ∷ 49 ∷ 10 ∷
    80 ∷ 32 ∷ 50 ∷ 10 ∷
    87 ∷ 32 ∷ 49 ∷ 32 ∷ 50 ∷ 10 ∷
    87 ∷ 32 ∷ 45 ∷ 32 ∷ 49 ∷ 10 ∷
    82 ∷ 32 ∷ 56 ∷ 32 ∷ 49 ∷ 10 ∷
    80 ∷ 32 ∷ 49 ∷ 10 ∷
    87 ∷ 32 ∷ 45 ∷ 32 ∷ 51 ∷ 10 ∷
    80 ∷ 32 ∷ 49 ∷ 10 ∷
    87 ∷ 32 ∷ 45 ∷ 32 ∷ 52 ∷ 10 ∷
    82 ∷ 32 ∷ 49 ∷ 48 ∷ 32 ∷ 52 ∷ 10 ∷
    65 ∷ 32 ∷ 52 ∷ 32 ∷ 54 ∷ 32 ∷ 50 ∷ 10 ∷
    80 ∷ 32 ∷ 49 ∷ 10 ∷
    69 ∷ 32 ∷ 50 ∷ 10 ∷
    77 ∷ 10 ∷ []

document_script : (script_outcome input).printed ≡ output
unfolding input output script_outcome answered lines_of last_kept first_part parts every decimal_on digits_of digits_in is_number binary symbol_word letter_of table_command insert_command delete_command lookup_command short_command long_command command_of table_outcome insert_outcome delete_outcome plan_bytes printed_writes write_of put_slot hit_at match_told lookup_answer first_match slot_matches matches all any least after_last agree inside both overlaps within minimum lowest_of highest_of window_end costs next_slot steps moves down_cost up_cost down_chain up_chain best_down best_up slot_down slot_up choose after_preceding first_dependant insert_choice listed empty rank_fits full_mask sound_parts record_of distinct precedes tied same_id same_pattern equal_rule replaceable misordered entries lowest shaped check_shape unsound_at check_records twice_at check_twice disorder_at check_order slot_checks table_checks check_given check_sound check_edition known_edition ranked rank_of check_known check_tie check_full after_a slot_b check_crossed replaced_slot replaces new_checks place_checks rule_checks insert_checks has_id slot_of_id check_id check_unknown delete_checks
document_script = refl
