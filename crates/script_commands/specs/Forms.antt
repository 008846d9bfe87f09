-- The four forms of a script line, by its fields: document 01's sentences on lines, without saying what a line is taken for.
use Rattle.std.specs.Prelude.{◌≡◌, ◌⊎◌, List, [], ◌∷◌, ℕ, ◌≤◌, ◌<◌, length, get_or}
use Rattle.script_text.specs.Decimal.{decimal}
use Rattle.script_text.specs.Parts.{parts}

-- a field of 1 to so many bytes, each of them one of these
abbrev pub FieldOf : ℕ → (ℕ → Type 0) → List ℕ → Type 0
FieldOf most Byte field = (1 ≤ length field) × (length field ≤ most) × ((k : ℕ) → k < length field → Byte (get_or field k 0))

-- numbers have 1 to 10 decimal digits and fit 32 bits
abbrev pub NumberField : List ℕ → Type 0
NumberField field = FieldOf 10 (λ byte. (48 ≤ byte) × (byte ≤ 57)) field × (decimal field < 4294967296)

-- a key has 1 to 128 of `0 1`, a pattern 1 to 128 of `0 1 *`
abbrev pub KeyField : List ℕ → Type 0
KeyField field = FieldOf 128 (λ byte. (byte ≡ 48) ⊎ (byte ≡ 49)) field

abbrev pub PatternField : List ℕ → Type 0
PatternField field = FieldOf 128 (λ byte. (byte ≡ 42) ⊎ ((byte ≡ 48) ⊎ (byte ≡ 49))) field

-- a letter, as a field of its own: T, I, D, L
abbrev pub letter_field : ℕ → List ℕ
letter_field letter = letter ∷ []

-- `T slots`
abbrev pub TableForm : List (List ℕ) → Type 0
TableForm fields = (slots : List ℕ) × (fields ≡ letter_field 84 ∷ slots ∷ []) × NumberField slots

-- `I id priority pattern action`
abbrev pub InsertForm : List (List ℕ) → Type 0
InsertForm fields =
    (id : List ℕ) × (priority : List ℕ) × (pattern : List ℕ) × (action : List ℕ) × (fields ≡ letter_field 73 ∷ id ∷ priority ∷ pattern ∷ action ∷ [])
    × NumberField id × NumberField priority × PatternField pattern × NumberField action

-- `D id`
abbrev pub DeleteForm : List (List ℕ) → Type 0
DeleteForm fields = (id : List ℕ) × (fields ≡ letter_field 68 ∷ id ∷ []) × NumberField id

-- `L key`
abbrev pub LookupForm : List (List ℕ) → Type 0
LookupForm fields = (key : List ℕ) × (fields ≡ letter_field 76 ∷ key ∷ []) × KeyField key

abbrev pub Form : List (List ℕ) → Type 0
Form fields = (TableForm fields ⊎ InsertForm fields) ⊎ (DeleteForm fields ⊎ LookupForm fields)

-- a line that is not malformed: at most 256 bytes, fields parted by one space, one of the four forms
abbrev pub WellFormed : List ℕ → Type 0
WellFormed line = (length line ≤ 256) × Form (parts 32 line)
