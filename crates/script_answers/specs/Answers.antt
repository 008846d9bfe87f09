-- Document 01's answers, each a list of bytes.
-- `N slots`; `P count` and then `W from to` per copy, `W - to` for the new rule, `E slot` for emptying; `A slot id action`; `M`; `R number spot`.
use Rattle.std.specs.Prelude.{List, [], ◌∷◌, ◌++◌, ℕ, length}
use Rattle.layout.specs.Write.{Write, copy, put, clear}
use Rattle.plan_words.specs.PlanWords.{write_of}
use Rattle.script_printing.specs.PrintedLines.{printed_fields, printed}

-- `N slots`, `A slot id action`, `M` for a miss, `R number spot`
abbrev pub table_bytes : ℕ → List ℕ
table_bytes slots = printed 78 (slots ∷ [])

abbrev pub hit_bytes : ℕ → ℕ → ℕ → List ℕ
hit_bytes slot id action = printed 65 (slot ∷ id ∷ action ∷ [])

abbrev pub miss_bytes : List ℕ
miss_bytes = printed 77 []

abbrev pub refusal_bytes : ℕ → ℕ → List ℕ
refusal_bytes number spot = printed 82 (number ∷ spot ∷ [])

-- the dash that stands for the new rule, after a space
abbrev pub dash : List ℕ
dash = 32 ∷ 45 ∷ []

-- `W from to` per copy, `W - to` for the new rule, `E slot` for emptying
abbrev pub printed_write : Write → List ℕ
printed_write (copy from to) = printed 87 (from ∷ to ∷ [])
printed_write (put to) = 87 ∷ (dash ++ printed_fields (to ∷ []))
printed_write (clear slot) = printed 69 (slot ∷ [])

unfoldable pub printed_writes : List ℕ → List ℕ
printed_writes [] = []
printed_writes (word ∷ words) = printed_write (write_of word) ++ printed_writes words

-- `P count`, the number of plan words, and then a line for each of them
unfoldable pub plan_bytes : List ℕ → List ℕ
plan_bytes words = printed 80 (length words ∷ []) ++ printed_writes words
