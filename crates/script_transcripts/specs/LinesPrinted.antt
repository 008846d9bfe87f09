-- What lines print, in document 01's words: `P count` and then `W from to` per copy, `W - to` for the new rule, `E slot` for emptying, each a line;
-- what a T and an L print, by the checks of the table.
use Rattle.std.specs.Prelude.{◌≡◌, List, [], ◌∷◌, ◌++◌, map, ℕ, suc, length}
use Rattle.ternary.specs.Pattern.{Words}
use Rattle.layout.specs.Write.{Write, copy, put}
use Rattle.plan_words.specs.PlanWords.{write_of}
use Rattle.records.specs.Record.{slot_words, ident, action}
use Rattle.records.specs.Checks.{cause_number, slot_checks}
use Rattle.records.specs.declared.Cause.{Cause}
use Rattle.records.specs.Verdict.{Check}
use Rattle.records.specs.Verdict.{Pass, Fail}
use Rattle.lookups.specs.Lookup.{FirstAt, NoMatch}
use Rattle.script_text.specs.Decimal.{digits_of}
use Rattle.script_lines.specs.Blocks.{Outcome}
use Rattle.script_answers.specs.Answers.{hit_bytes, miss_bytes, refusal_bytes}
use Rattle.script_operations.specs.Outcomes.{refused}

-- lines, each with its newline
unfoldable pub ended : List (List ℕ) → List ℕ
ended [] = []
ended (line ∷ lines) = line ++ 10 ∷ ended lines

-- a copy's two slots
pub record Copied : Type 0 where
  pub from : ℕ
  pub to : ℕ

abbrev pub copy_of : Copied → Write
copy_of copied = copy copied.from copied.to

-- `P count`, `W from to`, `W - to`, `E slot`
abbrev pub count_line : ℕ → List ℕ
count_line count = 80 ∷ 32 ∷ digits_of count

abbrev pub copy_line : Copied → List ℕ
copy_line copied = 87 ∷ 32 ∷ (digits_of copied.from ++ 32 ∷ digits_of copied.to)

abbrev pub put_in_line : ℕ → List ℕ
put_in_line to = 87 ∷ 32 ∷ 45 ∷ 32 ∷ digits_of to

abbrev pub emptying_line : ℕ → List ℕ
emptying_line slot = 69 ∷ 32 ∷ digits_of slot

-- The words of an insert's plan are copies and then the new rule; printed are their count, and in their order a line for each.
pub record InsertPrinted (words printed : List ℕ) : Type 0 where
  pub copies : List Copied
  pub slot : ℕ
  pub plan : map write_of words ≡ map copy_of copies ++ put slot ∷ []
  pub lines : printed ≡ ended (count_line (suc (length copies)) ∷ map copy_line copies ++ put_in_line slot ∷ [])

-- by a check: refused as it says, or else this
abbrev pub unless_refused : List ℕ → Check → Outcome (List ℕ) → Outcome (List ℕ)
unless_refused t Pass otherwise = otherwise
unless_refused t (Fail cause spot) otherwise = refused t (cause_number cause) spot

-- what an L prints: `R number spot` of checks 1 and 2, `A slot id action` of the first slot that matches, or `M`
pub data LookupPrinted (t : List ℕ) (key : Words) : List ℕ → Type 0 where
  declined : (cause : Cause) (spot : ℕ) → slot_checks 2 t ≡ Fail cause spot → LookupPrinted t key (refusal_bytes (cause_number cause) spot)
  found : (slot : ℕ) → slot_checks 2 t ≡ Pass → FirstAt 2 t key slot
      → LookupPrinted t key (hit_bytes slot (ident 2 (slot_words 2 t slot)) (action 2 (slot_words 2 t slot)))
  missed : slot_checks 2 t ≡ Pass → NoMatch 2 t key → LookupPrinted t key miss_bytes
