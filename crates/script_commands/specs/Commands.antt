-- Script lines: `T slots`, `I id priority pattern action`, `D id`, `L key`, of at most 256 bytes, fields parted by one space.
-- Every other line is malformed.
use Rattle.std.specs.Prelude.{cond, ◌&&◌, List, [], ◌∷◌, ℕ, eqb, leb, length, get_or, Option, None, Some}
use Rattle.records.specs.declared.Rule.{Rule}
use Rattle.script_text.specs.Parts.{parts}
use Rattle.script_text.specs.Decimal.{decimal}
use Rattle.script_fields.specs.Fields.{is_number, is_pattern, is_key, symbol_words, value_bit, mask_bit}
use Rattle.script_commands.specs.declared.Insertion.{Insertion}
use Rattle.script_commands.specs.declared.Query.{Query}
use Rattle.script_commands.specs.declared.Command.{Command}
use Rattle.script_commands.specs.declared.Command.TheVariants.{Table, Insert, Delete, Lookup, Malformed}

-- the rule that an I line tells: value and mask as two words each, high word first
abbrev pub inserted_rule : Insertion → Rule
inserted_rule i = record {
  id = i.id;
  priority = i.priority;
  value = i.value.high ∷ i.value.low ∷ [];
  mask = i.mask.high ∷ i.mask.low ∷ [];
  action = i.action;
}

-- the words of the key that an L line tells, high word first
abbrev pub key_of : Query → List ℕ
key_of q = q.key.high ∷ q.key.low ∷ []

-- the letter of a field of one byte; 0, which is none, for any other field
unfoldable pub letter_of : List ℕ → ℕ
letter_of field = cond (eqb (length field) 1) (get_or field 0 0) 0

-- that letter as code tells it: of a field of one byte, else none
abbrev pub letter_option : List ℕ → Option ℕ
letter_option field = cond (eqb (length field) 1) (Some (get_or field 0 0)) None

-- `T slots`
unfoldable pub table_command : List ℕ → Command
table_command slots = cond (is_number slots) (Table (record { slots = decimal slots })) Malformed

-- `I id priority pattern action`: the pattern's value and mask, highest bit first, the rest uncared for
unfoldable pub insert_command : List ℕ → List ℕ → List ℕ → List ℕ → Command
insert_command id priority pattern action =
    cond (is_number id && (is_number priority && (is_pattern pattern && is_number action)))
    (Insert (record {
      id = decimal id;
      priority = decimal priority;
      value = symbol_words value_bit pattern;
      mask = symbol_words mask_bit pattern;
      action = decimal action;
    }))
    Malformed

-- `D id`
unfoldable pub delete_command : List ℕ → Command
delete_command id = cond (is_number id) (Delete (record { id = decimal id })) Malformed

-- `L key`: the key's bits, highest first, the rest 0
unfoldable pub lookup_command : List ℕ → Command
lookup_command key = cond (is_key key) (Lookup (record { key = symbol_words value_bit key })) Malformed

-- a letter and one field: T, D or L; a letter and four fields: I
unfoldable pub short_command : ℕ → List ℕ → Command
short_command letter field =
    cond (eqb letter 84) (table_command field) (cond (eqb letter 68) (delete_command field) (cond (eqb letter 76) (lookup_command field) Malformed))

unfoldable pub long_command : ℕ → List ℕ → List ℕ → List ℕ → List ℕ → Command
long_command letter id priority pattern action = cond (eqb letter 73) (insert_command id priority pattern action) Malformed

-- by the number of fields after the letter
abbrev pub after_letter : ℕ → List (List ℕ) → Command
after_letter letter [] = Malformed
after_letter letter (field ∷ []) = short_command letter field
after_letter letter (a ∷ b ∷ []) = Malformed
after_letter letter (a ∷ b ∷ c ∷ []) = Malformed
after_letter letter (id ∷ priority ∷ pattern ∷ action ∷ []) = long_command letter id priority pattern action
after_letter letter (a ∷ b ∷ c ∷ d ∷ e ∷ more) = Malformed

abbrev pub of_fields : List (List ℕ) → Command
of_fields [] = Malformed
of_fields (letter ∷ fields) = after_letter (letter_of letter) fields

-- what a line says; it has at most 256 bytes, and one space parts two fields
unfoldable pub command_of : List ℕ → Command
command_of line = cond (leb (length line) 256) (of_fields (parts 32 line)) Malformed
