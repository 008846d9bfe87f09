-- Worked examples: document 01's script, by rules alone: what its two lookups are answered follows from the accepted inserts and the delete, without slots.
-- And what is not promised in a table without counters: the id. By computation.
use Rattle.std.specs.Prelude.{◌≡◌, refl, List, [], ◌∷◌, ◌++◌, ℕ}
use Rattle.search.specs.Search.{all, least}
use Rattle.ternary.specs.Word.{agree}
use Rattle.ternary.specs.Pattern.{matches}
use Rattle.plan_words.specs.PlanWords.{write_of}
use Rattle.records.specs.Record.{word, listed, empty, slot_matches, record_of, put_slot}
use Rattle.records.specs.Entries.{vacant}
use Rattle.records.specs.Checks.{first_match}
use Rattle.records.specs.Writes.{apply_word}
use Rattle.records.specs.declared.Rule.{Rule}
use Rattle.lookups.specs.Lookup.{reply, match_told, hit_at}
use Rattle.histories.specs.RuleSet.{Change, insert, delete, rule_set, highest_match, set_reply}

-- a rule whose pattern lies in the highest bits
rule : ℕ → ℕ → ℕ → ℕ → ℕ → Rule
rule id priority value mask action = record { id = id; priority = priority; value = value ∷ 0 ∷ []; mask = mask ∷ 0 ∷ []; action = action }

-- I 1 30 11* 7, I 2 20 1 8, I 3 25 1*1 9, I 5 10 00 1 and I 6 40 01 2 are accepted, the latest first here
before : List Change
before =
    insert (rule 6 40 0x4000000000000000 0xC000000000000000 2)
    ∷ insert (rule 5 10 0 0xC000000000000000 1)
    ∷ insert (rule 3 25 0xA000000000000000 0xA000000000000000 9)
    ∷ insert (rule 2 20 0x8000000000000000 0x8000000000000000 8)
    ∷ insert (rule 1 30 0xC000000000000000 0xC000000000000000 7)
    ∷ []

-- L 0101: rule 6, action 2
first_lookup : set_reply 2 (rule_set before) (word (0x5000000000000000 ∷ 0 ∷ [])) ≡ 6 ∷ 2 ∷ []
unfolding before rule highest_match matches all agree
first_lookup = refl

-- L 1000, before the delete: rule 2, action 8; after D 2: a miss
second_lookup_before : set_reply 2 (rule_set before) (word (0x8000000000000000 ∷ 0 ∷ [])) ≡ 2 ∷ 8 ∷ []
unfolding before rule highest_match matches all agree
second_lookup_before = refl

second_lookup : set_reply 2 (rule_set (delete 2 ∷ before)) (word (0x8000000000000000 ∷ 0 ∷ [])) ≡ []
unfolding before rule highest_match matches all agree
second_lookup = refl

-- document 02, 2026-11: slot 0 empty, 1 40 1* 7 and 2 30 *1 7. The plan for 3 20 01 9 begins with the copy of slot 2 to slot 0, which stands out of order
-- with slot 1 in a counted table, and not in one without counters
alike : List ℕ
alike = vacant 2 ++ record_of 2 (rule 1 40 0x8000000000000000 0x8000000000000000 7) ++ record_of 2 (rule 2 30 0x4000000000000000 0x4000000000000000 7)

-- key 11: rule 1 before that write, rule 2 after it, action 7 both times
id_before : reply 2 alike (word (0xC000000000000000 ∷ 0 ∷ [])) ≡ 1 ∷ 7 ∷ []
unfolding alike rule record_of listed empty least first_match slot_matches matches all agree match_told hit_at
id_before = refl

id_turns : reply 2 (apply_word 2 alike (rule 3 20 0x4000000000000000 0xC000000000000000 9) 0x20000) (word (0xC000000000000000 ∷ 0 ∷ [])) ≡ 2 ∷ 7 ∷ []
unfolding alike rule record_of listed empty least first_match slot_matches matches all agree match_told hit_at put_slot write_of
id_turns = refl
