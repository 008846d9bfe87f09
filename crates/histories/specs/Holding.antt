-- A table and the rules that it holds, and what a lookup of it tells.
-- Where the rules stand does not matter.
use Rattle.std.specs.Prelude.{◌≡◌, Bool, true, false, ◌↔◌, List, ℕ, ◌<◌, drop}
use Rattle.ternary.specs.Pattern.{Words}
use Rattle.layout.specs.Held.{Held}
use Rattle.records.specs.Record.{record_of}
use Rattle.records.specs.Checks.{table_checks}
use Rattle.records.specs.Entries.{vacant, entries, entry_occupied}
use Rattle.records.specs.declared.Rule.{Rule}
use Rattle.records.specs.Verdict.{Pass}
use Rattle.lookups.specs.Lookup.{lookup_answer}
use Rattle.histories.specs.RuleSet.{Member}

-- what is promised of a reply, id and action, or nothing for a miss: all of it; by document 02, 2026-11, in an uncounted table the action, or a miss
abbrev pub observed : Bool → List ℕ → List ℕ
observed false told = told
observed true told = drop 1 told

-- a lookup of the key is answered, and with this reply, as far as it is promised
abbrev pub Replies : ℕ → Bool → List ℕ → Words → List ℕ → Type 0
Replies w u t key told = ((lookup_answer w t key).number ≡ 0) × (observed u (drop 1 (lookup_answer w t key).values) ≡ observed u told)

-- The table is sound and holds exactly the rules of the list: each occupied slot's record is that of one of them, and each of them stands in
-- some slot; by check 3 in one slot only.
pub record Holding (w : ℕ) (u : Bool) (rules : List Rule) (t : List ℕ) : Type 0 where
  pub checks : table_checks w u t ≡ Pass
  pub held : (x : List ℕ) → Held (vacant w) (entry_occupied w) (entries w t) x ↔ ((r : Rule) × Member r rules × (record_of w r ≡ x))
  -- an action has 32 bits
  pub actions : (r : Rule) → Member r rules → r.action < 4294967296
