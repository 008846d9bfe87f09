-- Planning an insert: the words of its plan, its answer and the buffer afterwards; the choice between A and B, and when a choice in numbers is it.
-- Document 01, "How a plan is found", on the table's words.
use Rattle.std.specs.Prelude.{◌≡◌, Bool, cond, List, [], ◌∷◌, ℕ, ◌+◌, ◌-◌, ◌<◌, length}
use Rattle.ternary.specs.Pattern.{Words}
use Rattle.layout.specs.Plan.{Choice, choose}
use Rattle.layout.specs.Write.{put}
use Rattle.plan_words.specs.PlanWords.{write_word}
use Rattle.records.specs.Checks.{Told, unless}
use Rattle.records.specs.Widths.{check_rule, leaves}
use Rattle.records.specs.Entries.{vacant, entries, entry_occupied, entry_misordered}
use Rattle.records.specs.Inserts.{insert_choice_of, plan_words}
use Rattle.records.specs.Editions.{Given, lent_rule, ranked}
use Rattle.records.specs.declared.Rule.{Rule}
use Rattle.buffers.specs.Buffers.{buffer_answer, buffer_after, with_cover}
use Rattle.costs.specs.Costs.{cost_of}
use Rattle.planner.specs.Emit.{Stays}
use Rattle.planner.specs.Choice.{choice_words}
use Rattle.planner.specs.declared.PositionChoice.{PositionChoice}
use Rattle.neighbours.specs.Neighbours.{after_a, slot_b, replaced_slot, replaces, covering_slot, rule_words, insert_checks}

-- the words of a plan that makes room: the far end of the chain first, the new rule last
abbrev pub insert_words : ℕ → Bool → List ℕ → Rule → List ℕ
insert_words w u t rule = plan_words (insert_choice_of w u t rule)

-- document 02, 2026-03: the plan of a replacement, one put-in at the slot of the rule that is replaced
abbrev pub replacement_words : ℕ → List ℕ
replacement_words slot = write_word (put slot) ∷ []

-- the words that an insert is planned with, by its record's words: those of a replacement, or else these
abbrev pub planned_or : ℕ → Bool → List ℕ → Words → List ℕ → List ℕ
planned_or w u t new words = cond (replaces w u t new) (replacement_words (replaced_slot w u t new)) words

abbrev pub planned_words : ℕ → Bool → List ℕ → Rule → List ℕ
planned_words w u t rule = planned_or w u t (rule_words w rule) (insert_words w u t rule)

-- the answer with a buffer of so many words, and the buffer afterwards: the rule that is planned has its rank
abbrev pub insert_answer : ℕ → Bool → List ℕ → Given → ℕ → Told
insert_answer w u t given room = buffer_answer (insert_checks w u t given) (length (planned_words w u t (ranked w given))) room

abbrev pub insert_plan : ℕ → Bool → List ℕ → Given → List ℕ → List ℕ
insert_plan w u t given plan = buffer_after (insert_checks w u t given) (planned_words w u t (ranked w given)) plan

-- document 02: the call, on a rule as it is lent, a record, with its edition e; another width or another number of words is 1
abbrev pub insert_call : ℕ → Bool → ℕ → List ℕ → List ℕ → ℕ → Told
insert_call w u e t rule room = unless (check_rule w (length rule)) (insert_answer w u t (lent_rule w e rule) room)

abbrev pub insert_call_plan : ℕ → Bool → ℕ → List ℕ → List ℕ → List ℕ → List ℕ
insert_call_plan w u e t rule plan = leaves (check_rule w (length rule)) (insert_plan w u t (lent_rule w e rule) plan) plan

-- document 02, 2026-05: the slot that a success holds besides, by the table before the plan; the rule has its rank
abbrev pub insert_cover : ℕ → List ℕ → Given → ℕ
insert_cover w t given = covering_slot w t (rule_words w (ranked w given))

abbrev pub insert_reply : ℕ → Bool → List ℕ → Given → ℕ → Told
insert_reply w u t given room = with_cover (insert_answer w u t given room) (insert_cover w t given)

abbrev pub insert_call_reply : ℕ → Bool → ℕ → List ℕ → List ℕ → ℕ → Told
insert_call_reply w u e t rule room = with_cover (insert_call w u e t rule room) (insert_cover w t (lent_rule w e rule))

-- the layout's choice between A and B, by A + 1 and B
unfoldable pub choice_between : ℕ → Bool → List ℕ → ℕ → ℕ → Choice
choice_between w u t after dependant =
    choose (vacant w) (entry_occupied w) (entry_misordered w u) (entries w t) (record { from = after; to = dependant + 1 })
    (record { from = after - 1; to = dependant })

-- and of a new rule, by its record's words
abbrev pub record_choice : ℕ → Bool → List ℕ → Words → Choice
record_choice w u t new = choice_between w u t (after_a w u t new) (slot_b w u t new)

-- and the words that it is planned with
abbrev pub record_plan : ℕ → Bool → List ℕ → Words → List ℕ
record_plan w u t new = planned_or w u t new (plan_words (record_choice w u t new))

-- a choice in numbers, of n slots, that is a layout's: its cost is finite, its walk stays among the slots, and its words are the plan's
pub record Joined (n : ℕ) (planned : Choice) (down up : List ℕ) (choice : PositionChoice) : Type 0 where
  pub finite : choice.cost < n
  pub stays : Stays (cost_of (cond choice.up up down)) n choice.position choice.cost
  pub words : choice_words (cost_of (cond choice.up up down)) n choice ≡ plan_words planned
