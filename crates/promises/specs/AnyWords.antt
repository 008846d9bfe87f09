-- Document 02, 2026-09: matching, order and least count are shown for any number of words, and cited for both widths; so are demand 2's histories and plans,
-- and the round trip of images. w is the number of words of a value, here any number: no width is tested in these definitions.
use Rattle.std.specs.Prelude.{◌≡◌, Bool, true, ◌↔◌, List, [], ◌∷◌, ◌++◌, ℕ, ◌≤◌, ◌<◌, length, take, drop}
use Rattle.ternary.specs.Pattern.{Words, Overlap}
use Rattle.records.specs.Record.{word, slot_words, value, mask, ident, record_of}
use Rattle.records.specs.Order.{overlapping, InOrder}
use Rattle.records.specs.Checks.{success, check_order, compared_at}
use Rattle.records.specs.Editions.{Given, ranked}
use Rattle.records.specs.declared.Rule.{Rule}
use Rattle.records.specs.Verdict.{Pass}
use Rattle.delete_plans.specs.Deletes.{delete_answer, delete_plan, delete_words}
use Rattle.insert_plans.specs.Insertable.{ReplacingGiven}
use Rattle.insert_plans.specs.Replacements.{ReplacementPlanned}
use Rattle.insert_plans.specs.Inserts.{insert_answer, insert_plan, planned_words}
use Rattle.histories.specs.RuleSet.{Change, rule_set, without, set_reply}
use Rattle.histories.specs.Inserted.{rules_inserted}
use Rattle.histories.specs.Holding.{Replies}
use Rattle.histories.specs.Histories.{Reached}
use Rattle.histories.specs.Demand2.{Demand2}
use Rattle.image.specs.Reading.{Numbered, Words64}
use Rattle.image.specs.Answers.{save_answer, save_buffer, load_answer, load_table}
use Rattle.refusals.specs.Rows.{Accepts}
use Rattle.refusals.specs.Calls.{ReplacesNone, new_rule_rows}
use Rattle.promises.specs.KeysOfSlot.{KeysOfSlot}
use Rattle.promises.specs.Editions.{Editions}
use Rattle.promises.specs.Replacements.{Replacements}
use Rattle.promises.specs.SecondDemand.{SecondDemand}
use Rattle.promises.specs.ThirdDemand.{OneWay, ThirdDemand}

pub record AnyWords (w : ℕ) (u : Bool) : Type 0 where
  -- matching: of every slot and key what the comparison finds is exactly whether the rule matches
  pub matching : (t : List ℕ) (i : ℕ) (key : Words) → KeysOfSlot w t i key (compared_at w t key i)
  -- order: the test of two patterns is whether they overlap, and check 4 passes exactly where the table is in order
  pub overlap : (a b : Words) → (overlapping w a b ≡ true) ↔ Overlap w (value a) (mask w a) (value b) (mask w b)
  pub order : (t : List ℕ) → (check_order w u t ≡ Pass) ↔ InOrder w u t
  -- least count: where no condition of an insert's rows holds and no rule is replaced there is a sequence of the class, and none is shorter; those words are
  -- its plan, and with buffer enough their number the answer
  pub least : (t : List ℕ) (given : Given) → given.rule.action < 4294967296 → Accepts (new_rule_rows w u t given)
      → ReplacesNone w u t (word (record_of w (ranked w given))) → (words : List ℕ) × OneWay w u t (ranked w given) words × ((other : List ℕ) → OneWay w u t (ranked w given) other → length words ≤ length other)
      × ((plan : List ℕ) → length words ≤ length plan
      → (insert_answer w u t given (length plan) ≡ success (length words ∷ [])) × (insert_plan w u t given plan ≡ words ++ drop (length words) plan))
  -- 2026-03: a rule that is sent again gets one put-in at the slot of the rule that it replaces, which is taken away
  pub replaces : (t : List ℕ) (given : Given) (s : ℕ) → ReplacingGiven w u t given s
      → ((plan : List ℕ) → ReplacementPlanned s (insert_answer w u t given (length plan)) plan (insert_plan w u t given plan))
      × ((rules : List Rule) → rules_inserted w u t (ranked w given) rules ≡ ranked w given ∷ without (ident w (slot_words w t s)) rules)
  -- demand 2: after any history, and within the plan of an insert or a delete
  pub answered : (history : List Change) (t : List ℕ) → Reached w u history t → (key : Words) → Replies w u t key (set_reply w (rule_set history) key)
  pub inserts : (t : List ℕ) (given : Given) (plan : List ℕ) (count : ℕ) → given.rule.action < 4294967296
      → insert_answer w u t given (length plan) ≡ success (count ∷ [])
      → Demand2 w u t (insert_plan w u t given plan) given (planned_words w u t (ranked w given)) count (rules_inserted w u t (ranked w given))
  pub deletes : (t : List ℕ) (id : ℕ) (plan : List ℕ) (count : ℕ) (given : Given) → delete_answer w u t id (length plan) ≡ success (count ∷ [])
      → Demand2 w u t (delete_plan w u t id plan) given (delete_words w t id) count (without id)
  -- a saved image loads to the table it was saved from, where the offsets of an image have 32 bits
  pub loads : Numbered w → (t image : List ℕ) (bytes : ℕ) → Words64 t → save_answer w u t (length image) ≡ success (bytes ∷ []) → (lent : List ℕ) → length lent ≡ length t
      → (load_answer w u (take bytes (save_buffer w u t image)) lent ≡ success []) × (load_table w u (take bytes (save_buffer w u t image)) lent ≡ t)

-- What is cited at a width that calls take: all this, an image whose offsets fit, demands 2 and 3 of what the exported calls return and leave,
-- 2026-07, whose full mask is all bits of the width, and 2026-03.
pub record AtWidth (w : ℕ) (u : Bool) : Type 0 where
  pub words : AnyWords w u
  pub offsets : Numbered w
  pub second : SecondDemand w u
  pub third : ThirdDemand w u
  pub editions : Editions w u
  pub replacements : Replacements w u
