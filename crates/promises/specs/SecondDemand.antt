-- Document 01, demand 2: from an empty table, after any accepted inserts and deletes carried out in full, each key is answered by the highest-priority
-- matching rule that was inserted and not since deleted, or by a miss. Within a plan every key keeps its old rule or miss until the last write, and from
-- then on has the reply of the changed rule set. Images load to the table they were saved from. By document 02, 2026-07, the rank counts for the priority.
use Rattle.std.specs.Prelude.{◌≡◌, Bool, true, false, ◌⊎◌, List, ℕ, ◌+◌, ◌*◌, ◌≤◌, ◌<◌, min, length, get_or, take}
use Rattle.ternary.specs.Pattern.{Matches, FullMask}
use Rattle.records.specs.Record.{word, record_words, record_of}
use Rattle.records.specs.Editions.{Given, lent_rule, ranked}
use Rattle.records.specs.Writes.{apply_words}
use Rattle.records.specs.declared.Rule.{Rule}
use Rattle.histories.specs.RuleSet.{Change, rule_set, without, Member}
use Rattle.histories.specs.Inserted.{rules_inserted}
use Rattle.histories.specs.TableRules.{table_rules}
use Rattle.image.specs.Reading.{Words64}
use Rattle.refusals.specs.Rows.{Accepts}
use Rattle.refusals.specs.Calls.{table_rows}
use Rattle.tcam.specs.declared.carry.Progress.{Progress}
use Rattle.tcam.specs.Carried.{CarryLeft}
use Rattle.tcam.specs.Cells.{LookupLeft, InsertLeft, DeleteLeft}
use Rattle.tcam.specs.Images.{SaveLeft, LoadLeft}
use Rattle.promises.specs.Calls.{wrote_result, finished_result, Carrying, CameTo}

-- a key matches a rule when it equals the value at all bits cared for
abbrev pub KeyMatches : ℕ → List ℕ → Rule → Type 0
KeyMatches w key rule = Matches w (word key) (word rule.value) (word rule.mask)

module _ (w : ℕ) (rules : List Rule) (key : List ℕ) where
  -- this is the highest-ranked rule of the list that matches the key: every other that matches has a lower rank, which each rule of a list of rules
  -- has for its priority
  abbrev pub Highest : Rule → Type 0
  Highest rule =
      Member rule rules × KeyMatches w key rule
      × ((other : Rule) → Member other rules → KeyMatches w key other → (record_of w other ≡ record_of w rule) ⊎ (other.priority < rule.priority))

  -- no rule of the list matches the key
  abbrev pub NoneMatches : Type 0
  NoneMatches = (rule : Rule) → Member rule rules → KeyMatches w key rule → ⊥

  -- a lookup of the key is accepted, and its cells tell that rule's id and action, or 0 in both for a miss
  abbrev pub KeyReplied : ℕ → ℕ → ℕ → Type 0
  KeyReplied result id action =
      (result ≡ 0) × (((rule : Rule) × Highest rule × (id ≡ rule.id) × (action ≡ rule.action)) ⊎ (NoneMatches × (id ≡ 0) × (action ≡ 0)))

  -- document 02, 2026-11: a highest-ranked match: no rule of the list that matches has a higher rank. In an uncounted table there may be several
  abbrev pub HighestRanked : Rule → Type 0
  HighestRanked rule =
      Member rule rules × KeyMatches w key rule × ((other : Rule) → Member other rules → KeyMatches w key other → other.priority ≤ rule.priority)

  -- the cells tell the action of each of them, of which there is one at least, and the id of a rule that matches and has this action; or 0 in both for a miss,
  -- exactly where none matches
  abbrev pub ActionReplied : ℕ → ℕ → ℕ → Type 0
  ActionReplied result id action =
      (result ≡ 0)
      × ((((rule : Rule) × HighestRanked rule) × ((rule : Rule) → HighestRanked rule → action ≡ rule.action)
      × ((rule : Rule) × Member rule rules × KeyMatches w key rule × (id ≡ rule.id) × (action ≡ rule.action)))
      ⊎ (NoneMatches × (id ≡ 0) × (action ≡ 0)))

  -- what is promised of a counted table, and of an uncounted one
  abbrev pub Replied : Bool → ℕ → ℕ → ℕ → Type 0
  Replied false = KeyReplied
  Replied true = ActionReplied

-- every call of tcam_lookup on the table is replied to so, whatever the key of as many words
abbrev pub AllReplied : ℕ → Bool → List ℕ → List Rule → Type 0
AllReplied w u t rules =
    (key : List ℕ) → length key ≡ w → (result slot slot' id id' action action' spot spot' : ℕ)
    → LookupLeft w t key result slot slot' id id' action action' spot spot' → Replied w rules key u result id' action'

-- The rules of a table, each with its rank: of one that a caller came to from an empty one, those inserted and not since deleted, with the rank that they
-- were put in with; of any sound one, as a loaded one is, those that stand in its slots. u: the table is uncounted.
pub data RulesOf (w : ℕ) (u : Bool) : List Rule → List ℕ → Type 0 where
  ran : (history : List Change) (t : List ℕ) → CameTo w u history t → RulesOf w u (rule_set history) t
  stand : (t : List ℕ) → Accepts (table_rows w u t) → RulesOf w u (table_rules w t) t

-- Within a plan, from the table it was drawn for, with its rule, lent as a record, its edition and count: old are the rules before it, new those after it.
pub record DuringPlan (w : ℕ) (u : Bool) (e : ℕ) (t plan rule : List ℕ) (count : ℕ) (old new : List Rule) : Type 0 where
  -- as many writes of the plan are made as are done, one by each call
  pub made : (v : List ℕ) (progress : Progress) → Carrying w e t plan rule count v progress
      → v ≡ apply_words w t (ranked w (lent_rule w e rule)) (take progress.done plan)
  -- until the last write every key has its old reply, and from then on that of the changed rules; in an uncounted table its action
  pub kept : (v : List ℕ) (progress : Progress) → Carrying w e t plan rule count v progress → progress.done < count → AllReplied w u v old
  pub changed : (v : List ℕ) (progress : Progress) → Carrying w e t plan rule count v progress → progress.done ≡ count → AllReplied w u v new
  -- until then each call makes a write, and then it answers "finished": so every plan can be carried out in full
  pub few : (v : List ℕ) (progress : Progress) → Carrying w e t plan rule count v progress → progress.done ≤ count
  pub goes_on : (v : List ℕ) (progress : Progress) → Carrying w e t plan rule count v progress
      → (words result : ℕ) → count ≤ words → words ≤ length plan → (after : List ℕ) (progress' : Progress)
      → CarryLeft w e v (take words plan) rule progress result after progress'
      → (progress.done < count → result ≡ wrote_result) × (progress.done ≡ count → result ≡ finished_result)

-- the rule that a caller gives as a record, value words, mask words, id × 2^32 + action, priority, with the edition that it names
pub record Gives (w e : ℕ) (record-words : List ℕ) (given : Given) : Type 0 where
  pub values : (j : ℕ) → j < w → word given.rule.value j ≡ get_or record-words j 0
  pub masks : (j : ℕ) → j < w → word given.rule.mask j ≡ get_or record-words (w + j) 0
  pub both : given.rule.id * 4294967296 + given.rule.action ≡ get_or record-words (2 * w) 0
  pub small : given.rule.action < 4294967296
  -- the struct's priority has 32 bits: a larger word, which no sound rule has, becomes the largest of those
  pub priority : given.rule.priority ≡ min (get_or record-words (2 * w + 1) 0) 4294967295
  pub edition : given.edition ≡ e

-- the rule that is planned and put in: under 1.0 a rule with every mask bit of the width set has rank 65,536; any other rule's rank is its priority; all else is
-- as it was given
pub record Ranks (w : ℕ) (given : Given) (rule : Rule) : Type 0 where
  pub exact : given.edition ≡ 10 → FullMask w (word given.rule.mask) → rule.priority ≡ 65536
  pub other : (given.edition ≡ 10 → FullMask w (word given.rule.mask) → ⊥) → rule.priority ≡ given.rule.priority
  pub id : rule.id ≡ given.rule.id
  pub value : rule.value ≡ given.rule.value
  pub mask : rule.mask ≡ given.rule.mask
  pub action : rule.action ≡ given.rule.action

-- w is the width that the calls name, and is one that there is; u whether they name the table as uncounted. Of a history that begins counted both are told:
-- SecondDemand w false up to the first call that names it so, SecondDemand w true from it on.
pub record SecondDemand (w : ℕ) (u : Bool) : Type 0 where
  -- the contracts of tcam_plan_insert and tcam_carry_out speak of the rule and the edition that they are given, and of the rank that the one gives the other
  pub given : (e : ℕ) (rule : List ℕ) → Gives w e rule (lent_rule w e rule)
  pub ranks : (given : Given) → Ranks w given (ranked w given)
  -- each key is answered by the highest-ranked match of the table's rules, or by a miss; in an uncounted table with its action
  pub answered : (rules : List Rule) (t : List ℕ) → RulesOf w u rules t → AllReplied w u t rules
  -- within the plan of an insert, which adds the rule and takes away the one that it replaces (Replacements), carried out with the edition that it was
  -- planned with, and of a delete, which is carried out with any record of as many words and any edition
  pub insert : (rules : List Rule) (t : List ℕ) → RulesOf w u rules t → (e : ℕ) (rule : List ℕ)
      → (plan after : List ℕ) (count count' spot spot' : ℕ) → InsertLeft w u e t rule 0 plan after count count' spot spot'
      → DuringPlan w u e t after rule count' rules (rules_inserted w u t (ranked w (lent_rule w e rule)) rules)
  pub delete : (rules : List Rule) (t : List ℕ) → RulesOf w u rules t → (id : ℕ)
      → (plan after : List ℕ) (count count' spot spot' : ℕ) → DeleteLeft w u t id 0 plan after count count' spot spot'
      → (e : ℕ) (rule : List ℕ) → length rule ≡ record_words w → DuringPlan w u e t after rule count' rules (without id rules)
  -- an image loads, into any table of as many words of 64 bits, to the table it was saved from, where both calls name the table alike, or where it was saved
  -- as counted and has been named as uncounted since
  pub loads : (v : Bool) → (v ≡ true → u ≡ true)
      → (t image saved : List ℕ) (bytes bytes' spot spot' : ℕ) → Words64 t → SaveLeft w v t 0 image saved bytes bytes' spot spot'
      → (lent loaded : List ℕ) (result place place' : ℕ) → length lent ≡ length t → LoadLeft w u (take bytes' saved) result lent loaded place place'
      → (result ≡ 0) × (loaded ≡ t)
