-- Document 01, "Tables at the edge": the ten items marked to be proved, as one list, with what the planning calls promise on them. Lists of document 02's
-- rules that are sent again, of uncounted tables and of covered rules beside it.
use Rattle.std.specs.Prelude.{◌≡◌, List, [], ◌∷◌, ◌++◌, map, ℕ, ◌+◌, ◌*◌, ◌/◌, length, Bool, true, false}
use Rattle.search.specs.Search.{all, any, least, after_last, first_from}
use Rattle.ternary.specs.Word.{agree, inside, both}
use Rattle.ternary.specs.Pattern.{overlaps, within, full_mask}
use Rattle.ternary.specs.Comparison.{covers}
use Rattle.layout.specs.Minimum.{minimum, lowest_at as lowest_of, highest_at as highest_of}
use Rattle.layout.specs.Cost.{window_end, costs, next_slot}
use Rattle.layout.specs.Chain.{steps}
use Rattle.layout.specs.Write.{moves}
use Rattle.layout.specs.Plan.{down_cost, up_cost, down_chain, up_chain, best_down, best_up, slot_down, slot_up, choose, after_preceding, first_dependant}
use Rattle.layout.specs.Plan.{insert_choice}
use Rattle.plan_words.specs.PlanWords.{write_of}
use Rattle.records.specs.Record.{listed, empty, rank_fits, sound_parts, record_of, rule_of, word, put_slot}
use Rattle.records.specs.Order.{distinct, precedes, tied, obscures, same_id, same_pattern, equal_rule, replaceable, misordered}
use Rattle.records.specs.Checks.{Told, success, lowest, shaped, check_shape, unsound_at, check_records, twice_at, check_twice, disorder_at, check_order, slot_checks}
use Rattle.records.specs.Checks.{table_checks}
use Rattle.records.specs.Widths.{known, check_width, check_words, check_rule as check_lent}
use Rattle.records.specs.Entries.{vacant, entries}
use Rattle.records.specs.Editions.{Given, under13, rank_of, ranked, known_edition, check_sound, check_edition, check_given}
use Rattle.records.specs.declared.Rule.{Rule}
use Rattle.records.specs.Writes.{apply_words}
use Rattle.buffers.specs.Buffers.{check_room, buffer_answer, buffer_after}
use Rattle.neighbours.specs.Neighbours.{check_known, check_tie, check_full, after_a, slot_b, check_crossed, replaced_slot, replaces, new_checks, place_checks}
use Rattle.neighbours.specs.Neighbours.{rule_checks, insert_checks, covering_slot}
use Rattle.delete_plans.specs.Deletes.{has_id, slot_of_id, check_id, check_unknown, delete_checks, delete_answer, delete_plan, delete_call, delete_call_plan}
use Rattle.insert_plans.specs.Inserts.{insert_answer, insert_plan, insert_call, insert_call_plan, insert_call_reply, planned_words}

-- a pattern, highest bit first: a bit that must be 0, one that must be 1, one not cared for
pub data Symbol : Type 0 where
  nought : Symbol
  one : Symbol
  star : Symbol

-- its value and its mask; the first symbol's bit weighs as much as given
unfoldable pub value_from : ℕ → List Symbol → ℕ
value_from bit [] = 0
value_from bit (nought ∷ rest) = value_from (bit / 2) rest
value_from bit (one ∷ rest) = bit + value_from (bit / 2) rest
value_from bit (star ∷ rest) = value_from (bit / 2) rest

unfoldable pub mask_from : ℕ → List Symbol → ℕ
mask_from bit [] = 0
mask_from bit (nought ∷ rest) = bit + mask_from (bit / 2) rest
mask_from bit (one ∷ rest) = bit + mask_from (bit / 2) rest
mask_from bit (star ∷ rest) = mask_from (bit / 2) rest

-- plan words, as document 01 has them: from × 65,536 + to, and from 65,535 for the new rule
abbrev pub moved : ℕ → ℕ → ℕ
moved from to = from * 65536 + to

abbrev pub new : ℕ → ℕ
new to = 65535 * 65536 + to

-- what a call is asked
pub data Asked : Type 0 where
  inserting : Given → Asked
  deleting : ℕ → Asked

-- what it gives: the answer, and the plan buffer afterwards
pub record Result : Type 0 where
  pub answer : Told
  pub buffer : List ℕ

-- by the definitions, w being the number of words of a value
abbrev pub result : ℕ → Bool → List ℕ → Asked → List ℕ → Result
result w u t (inserting given) plan = record { answer = insert_answer w u t given (length plan); buffer = insert_plan w u t given plan }
result w u t (deleting id) plan = record { answer = delete_answer w u t id (length plan); buffer = delete_plan w u t id plan }

-- as the contracts of plan_insert and plan_delete have it: a rule is lent as its record, and a width that there is not is 1
abbrev pub called : ℕ → Bool → List ℕ → Asked → List ℕ → Result
called w u t (inserting given) plan = record {
  answer = insert_call w u given.edition t (record_of w given.rule) (length plan);
  buffer = insert_call_plan w u given.edition t (record_of w given.rule) plan;
}
called w u t (deleting id) plan = record { answer = delete_call w u t id (length plan); buffer = delete_call_plan w u t id plan }

-- as document 01 has it: so many words and the buffer, or a refusal's number and spot and the buffer
abbrev pub planned : ℕ → List ℕ → Result
planned count plan = record { answer = record { number = 0; values = count ∷ [] }; buffer = plan }

abbrev pub declined : ℕ → ℕ → List ℕ → Result
declined number spot plan = record { answer = record { number = number; values = spot ∷ [] }; buffer = plan }

-- an item of the list
pub record Item : Type 0 where
  pub table : List ℕ
  pub asked : Asked
  pub buffer : List ℕ
  pub expected : Result

-- one of an insert whose rule may be covered
pub record Covered : Type 0 where
  pub table : List ℕ
  pub rule : Rule
  pub count : ℕ
  pub covered : ℕ
  pub plan : List ℕ

unfoldable pub result_of : ℕ → Bool → Item → Result
unfolding all any least after_last agree inside both overlaps within minimum lowest_of highest_of window_end costs next_slot steps moves down_cost up_cost down_chain up_chain best_down best_up slot_down slot_up choose after_preceding first_dependant insert_choice listed empty full_mask rank_fits sound_parts rank_of ranked known_edition check_sound check_edition check_given record_of distinct precedes tied same_id misordered same_pattern equal_rule replaceable entries lowest shaped check_shape unsound_at check_records twice_at check_twice disorder_at check_order slot_checks table_checks check_room buffer_answer buffer_after check_known check_tie check_full after_a slot_b check_crossed replaced_slot replaces new_checks place_checks rule_checks insert_checks has_id slot_of_id check_id check_unknown delete_checks
result_of w u item = result w u item.table item.asked item.buffer

unfoldable pub called_of : ℕ → Bool → Item → Result
unfolding result_of known check_width check_words check_lent rule_of
called_of w u item = called w u item.table item.asked item.buffer

unfoldable pub expected : Item → Result
expected item = item.expected

-- rules, tables and the list
module _ (w : ℕ) where
  -- a rule as the script's lines give it; the pattern's first bit is the highest of the first word, and no other word is cared for
  unfoldable pub line : ℕ → ℕ → List Symbol → ℕ → Rule
  line id priority pattern action = record {
    id = id;
    priority = priority;
    value = listed w (word (value_from 9223372036854775808 pattern ∷ []));
    mask = listed w (word (mask_from 9223372036854775808 pattern ∷ []));
    action = action;
  }

  -- a slot that holds a rule, and an empty one: tables are these, one after the other
  abbrev pub held : Rule → List ℕ
  held rule = record_of w rule

  abbrev pub vacancy : List ℕ
  vacancy = vacant w

  -- the rules of the script, by their ids
  unfoldable pub rule1 : Rule
  rule1 = line 1 30 (one ∷ one ∷ star ∷ []) 7

  unfoldable pub rule2 : Rule
  rule2 = line 2 20 (one ∷ []) 8

  unfoldable pub rule3 : Rule
  rule3 = line 3 25 (one ∷ star ∷ one ∷ []) 9

  unfoldable pub rule4 : Rule
  rule4 = line 4 25 (one ∷ one ∷ one ∷ []) 9

  unfoldable pub rule5 : Rule
  rule5 = line 5 10 (nought ∷ nought ∷ []) 1

  unfoldable pub rule6 : Rule
  rule6 = line 6 40 (nought ∷ one ∷ []) 2

  unfoldable pub rule7 : Rule
  rule7 = line 7 20 (nought ∷ []) 3

  -- the script's table before its third insert, after it, and before the crossing
  unfoldable pub before_third : List ℕ
  before_third = held rule1 ++ held rule2 ++ vacancy ++ vacancy ++ vacancy ++ vacancy

  unfoldable pub after_third : List ℕ
  after_third = held rule1 ++ held rule3 ++ held rule2 ++ vacancy ++ vacancy ++ vacancy

  unfoldable pub before_crossing : List ℕ
  before_crossing = held rule1 ++ held rule3 ++ held rule2 ++ held rule5 ++ held rule6 ++ vacancy

  -- the rules of the five-slot table: c depends on a, d on c, a on the new rule, and no others overlap
  unfoldable pub rule_a : Rule
  rule_a = line 11 30 (one ∷ one ∷ []) 1

  unfoldable pub rule_other : Rule
  rule_other = line 12 30 (nought ∷ []) 2

  unfoldable pub rule_c : Rule
  rule_c = line 13 20 (one ∷ star ∷ one ∷ []) 3

  unfoldable pub rule_d : Rule
  rule_d = line 14 10 (one ∷ nought ∷ []) 4

  unfoldable pub rule_new : Rule
  rule_new = line 15 40 (one ∷ one ∷ nought ∷ []) 5

  unfoldable pub items : List Item
  items =
      -- one empty slot: one write, to 0
      record { table = vacancy; asked = inserting (under13 rule1); buffer = 801 ∷ 802 ∷ []; expected = planned 1 (new 0 ∷ 802 ∷ []) }
      -- one slot, occupied, a sound rule of new id that ties with nothing: 9
      ∷ record { table = held rule1; asked = inserting (under13 rule3); buffer = 801 ∷ 802 ∷ []; expected = declined 9 0 (801 ∷ 802 ∷ []) }
      -- the third insert of the script
      ∷ record { table = before_third; asked = inserting (under13 rule3); buffer = 801 ∷ 802 ∷ 803 ∷ []; expected = planned 2 (moved 1 2 ∷ new 1 ∷ 803 ∷ []) }
      -- its tie
      ∷ record { table = after_third; asked = inserting (under13 rule4); buffer = 801 ∷ 802 ∷ []; expected = declined 8 1 (801 ∷ 802 ∷ []) }
      -- its crossing
      ∷ record { table = before_crossing; asked = inserting (under13 rule7); buffer = 801 ∷ 802 ∷ []; expected = declined 10 4 (801 ∷ 802 ∷ []) }
      -- slots 0 a, 1 other, 2 c, 3 d, 4 empty; the new rule before a: 1→4, 0→1, new→0
      ∷ record {
        table = held rule_a ++ held rule_other ++ held rule_c ++ held rule_d ++ vacancy;
        asked = inserting (under13 rule_new);
        buffer = 801 ∷ 802 ∷ 803 ∷ 804 ∷ 805 ∷ [];
        expected = planned 3 (moved 1 4 ∷ moved 0 1 ∷ new 0 ∷ 804 ∷ 805 ∷ []);
      }
      -- 0 empty, 1 a, 2 b, b depends on a; new between: 1→0, new→1; a, b and new are the rules 1, 2 and 3 of the script
      ∷ record {
        table = vacancy ++ held rule1 ++ held rule2;
        asked = inserting (under13 rule3);
        buffer = 801 ∷ 802 ∷ 803 ∷ [];
        expected = planned 2 (moved 1 0 ∷ new 1 ∷ 803 ∷ []);
      }
      -- with slot 3 empty too: 2→3, new→2
      ∷ record {
        table = vacancy ++ held rule1 ++ held rule2 ++ vacancy;
        asked = inserting (under13 rule3);
        buffer = 801 ∷ 802 ∷ 803 ∷ [];
        expected = planned 2 (moved 2 3 ∷ new 2 ∷ 803 ∷ []);
      }
      -- a plan of two in a one-word buffer: 11, spot 2
      ∷ record { table = before_third; asked = inserting (under13 rule3); buffer = 801 ∷ []; expected = declined 11 2 (801 ∷ []) }
      -- delete of an absent id: 7
      ∷ record { table = before_third; asked = deleting 3; buffer = 801 ∷ 802 ∷ []; expected = declined 7 0 (801 ∷ 802 ∷ []) }
      ∷ []

  -- document 02, 2026-03: a full table; a rule equal to the one in slot 1, and three that differ from that one in one thing besides the action
  unfoldable pub again_table : List ℕ
  again_table = held rule1 ++ held rule2

  unfoldable pub again_equal : Rule
  again_equal = line 9 20 (one ∷ []) 5

  unfoldable pub again_known : Rule
  again_known = line 2 20 (one ∷ []) 5

  unfoldable pub again_mask : Rule
  again_mask = line 9 20 (one ∷ nought ∷ []) 5

  unfoldable pub again_rank : Rule
  again_rank = line 9 25 (one ∷ []) 5

  unfoldable pub again_items : List Item
  again_items =
      -- the same value, mask and rank: one put-in at that slot, though no slot is empty
      record { table = again_table; asked = inserting (under13 again_equal); buffer = 801 ∷ 802 ∷ []; expected = planned 1 (new 1 ∷ 802 ∷ []) }
      -- without a word of buffer: 11, spot 1
      ∷ record { table = again_table; asked = inserting (under13 again_equal); buffer = []; expected = declined 11 1 [] }
      -- with the id that stands: 6
      ∷ record { table = again_table; asked = inserting (under13 again_known); buffer = 801 ∷ []; expected = declined 6 1 (801 ∷ []) }
      -- with another mask: 8
      ∷ record { table = again_table; asked = inserting (under13 again_mask); buffer = 801 ∷ []; expected = declined 8 1 (801 ∷ []) }
      -- with another rank: 9
      ∷ record { table = again_table; asked = inserting (under13 again_rank); buffer = 801 ∷ []; expected = declined 9 0 (801 ∷ []) }
      ∷ []

  -- document 02, 2026-11: two rules of one action that stand out of order, and such as stand in order with an empty slot before them
  unfoldable pub loose_table : List ℕ
  loose_table = held (line 1 20 (one ∷ star ∷ []) 7) ++ held (line 2 30 (star ∷ one ∷ []) 7) ++ vacancy

  unfoldable pub loose_rule : Rule
  loose_rule = line 9 5 (nought ∷ []) 3

  unfoldable pub alike_table : List ℕ
  alike_table = vacancy ++ held (line 1 40 (one ∷ star ∷ []) 7) ++ held (line 2 30 (star ∷ one ∷ []) 7)

  unfoldable pub alike_rule : Rule
  alike_rule = line 3 20 (nought ∷ one ∷ []) 9

  -- two equal rules of one action, and a rule equal to both, with an action
  unfoldable pub equal_table : List ℕ
  equal_table = held (line 1 20 (one ∷ []) 7) ++ held (line 2 20 (one ∷ []) 7) ++ vacancy

  unfoldable pub equal_rule_lem : ℕ → Rule
  equal_rule_lem action = line 9 20 (one ∷ []) action

  -- a rule that depends on another stands before one that precedes it: crossed, with an action
  unfoldable pub crossed_table : List ℕ
  crossed_table = held (line 5 10 (nought ∷ nought ∷ []) 1) ++ held (line 6 40 (nought ∷ one ∷ []) 2) ++ vacancy

  unfoldable pub crossed_rule : ℕ → Rule
  crossed_rule action = line 7 20 (nought ∷ []) action

  unfoldable pub uncounted_items : List Item
  uncounted_items =
      -- rules of one action are not ordered
      record { table = loose_table; asked = inserting (under13 loose_rule); buffer = 801 ∷ 802 ∷ []; expected = planned 1 (new 2 ∷ 802 ∷ []) }
      -- so that one of them may pass the other: two writes
      ∷ record { table = alike_table; asked = inserting (under13 alike_rule); buffer = 801 ∷ 802 ∷ 803 ∷ []; expected = planned 2 (moved 2 0 ∷ new 2 ∷ 803 ∷ []) }
      -- of two equal rules the lower is replaced, if the action is the same
      ∷ record { table = equal_table; asked = inserting (under13 (equal_rule_lem 7)); buffer = 801 ∷ []; expected = planned 1 (new 0 ∷ []) }
      ∷ record { table = equal_table; asked = inserting (under13 (equal_rule_lem 8)); buffer = 801 ∷ []; expected = declined 8 0 (801 ∷ []) }
      -- crossed by rules of other actions alone
      ∷ record { table = crossed_table; asked = inserting (under13 (crossed_rule 1)); buffer = 801 ∷ []; expected = planned 1 (new 2 ∷ []) }
      ∷ record { table = crossed_table; asked = inserting (under13 (crossed_rule 2)); buffer = 801 ∷ 802 ∷ []; expected = planned 2 (moved 0 2 ∷ new 0 ∷ []) }
      ∷ record { table = crossed_table; asked = inserting (under13 (crossed_rule 3)); buffer = 801 ∷ []; expected = declined 10 1 (801 ∷ []) }
      ∷ []

  -- the same of tables that are counted
  unfoldable pub counted_items : List Item
  counted_items =
      record { table = loose_table; asked = inserting (under13 loose_rule); buffer = 801 ∷ 802 ∷ []; expected = declined 4 1 (801 ∷ 802 ∷ []) }
      ∷ record { table = alike_table; asked = inserting (under13 alike_rule); buffer = 801 ∷ 802 ∷ 803 ∷ []; expected = planned 3 (moved 1 0 ∷ moved 2 1 ∷ new 2 ∷ []) }
      ∷ record { table = equal_table; asked = inserting (under13 (equal_rule_lem 7)); buffer = 801 ∷ []; expected = declined 4 1 (801 ∷ []) }
      ∷ record { table = crossed_table; asked = inserting (under13 (crossed_rule 1)); buffer = 801 ∷ []; expected = declined 10 1 (801 ∷ []) }
      ∷ []

  -- document 02, 2026-05: rules within each other; and two that cover a third only together
  unfoldable pub nested_table : List ℕ
  nested_table = held (line 1 40 (one ∷ nought ∷ []) 7) ++ held (line 2 30 (one ∷ []) 7) ++ held (line 3 20 [] 7) ++ vacancy

  unfoldable pub halves_table : List ℕ
  halves_table = held (line 1 40 (one ∷ nought ∷ []) 7) ++ held (line 2 30 (one ∷ one ∷ []) 7) ++ vacancy

  -- a rule that is inserted into a table, with four words of buffer, and what the call is to tell: count, covering slot, and the plan's words
  unfoldable pub covered_items : List Covered
  covered_items =
      record { table = nested_table; rule = line 9 10 (one ∷ one ∷ []) 5; count = 1; covered = 1; plan = new 3 ∷ 802 ∷ 803 ∷ 804 ∷ [] }
      ∷ record { table = nested_table; rule = line 9 25 (one ∷ one ∷ []) 5; count = 2; covered = 1; plan = moved 2 3 ∷ new 2 ∷ 803 ∷ 804 ∷ [] }
      ∷ record { table = nested_table; rule = line 9 35 (one ∷ one ∷ []) 5; count = 3; covered = 65535; plan = moved 2 3 ∷ moved 1 2 ∷ new 1 ∷ 804 ∷ [] }
      -- the same value and mask as a rule of higher rank; and of the same, which is replaced
      ∷ record { table = nested_table; rule = line 9 29 (one ∷ []) 5; count = 2; covered = 1; plan = moved 2 3 ∷ new 2 ∷ 803 ∷ 804 ∷ [] }
      ∷ record { table = nested_table; rule = line 9 30 (one ∷ []) 5; count = 1; covered = 65535; plan = new 1 ∷ 802 ∷ 803 ∷ 804 ∷ [] }
      ∷ record { table = nested_table; rule = line 9 10 (nought ∷ one ∷ []) 5; count = 1; covered = 2; plan = new 3 ∷ 802 ∷ 803 ∷ 804 ∷ [] }
      ∷ record { table = nested_table; rule = line 9 19 (one ∷ nought ∷ []) 5; count = 1; covered = 0; plan = new 3 ∷ 802 ∷ 803 ∷ 804 ∷ [] }
      ∷ record { table = halves_table; rule = line 9 10 (one ∷ []) 5; count = 1; covered = 65535; plan = new 2 ∷ 802 ∷ 803 ∷ 804 ∷ [] }
      ∷ []

-- each item gives what is expected of it, by the definitions and by the calls
abbrev pub AsExpected : ℕ → Bool → List Item → Type 0
AsExpected w u list = (map (result_of w u) list ≡ map expected list) × (map (called_of w u) list ≡ map expected list)

-- document 01's items, of counted tables
abbrev pub TablesAtTheEdge : ℕ → Type 0
TablesAtTheEdge w = map (result_of w false) (items w) ≡ map expected (items w)

abbrev pub CallsAtTheEdge : ℕ → Type 0
CallsAtTheEdge w = map (called_of w false) (items w) ≡ map expected (items w)

abbrev pub AgainAtTheEdge : ℕ → Type 0
AgainAtTheEdge w = AsExpected w false (again_items w)

-- 2026-11: tables that are uncounted, and the same ones counted
abbrev pub UncountedAtTheEdge : ℕ → Type 0
UncountedAtTheEdge w = AsExpected w true (uncounted_items w) × AsExpected w false (counted_items w)

-- 2026-05: what an insert replies and leaves, and what it is to
unfoldable pub replied_of : ℕ → Covered → Result
unfolding called_of obscures covers first_from covering_slot
replied_of w item = record {
  answer = insert_call_reply w false 13 item.table (record_of w item.rule) 4;
  buffer = insert_call_plan w false 13 item.table (record_of w item.rule) (801 ∷ 802 ∷ 803 ∷ 804 ∷ []);
}

unfoldable pub told_of : Covered → Result
told_of item = record { answer = success (item.count ∷ item.covered ∷ []); buffer = item.plan }

abbrev pub CoveredAtTheEdge : ℕ → Type 0
CoveredAtTheEdge w = map (replied_of w) (covered_items w) ≡ map told_of (covered_items w)

-- the table with a rule put in by its plan
unfoldable pub after_insert : ℕ → Bool → List ℕ → Rule → List ℕ
unfolding result_of write_of put_slot
after_insert w u t rule = apply_words w t rule (planned_words w u t rule)

-- row by row, which of the rules that rule precedes
unfoldable pub precedence : ℕ → Bool → List Rule → List (List Bool)
unfolding result_of
precedence w u rules = map (λ a. map (λ b. precedes w u (word (held w a)) (word (held w b))) rules) rules
