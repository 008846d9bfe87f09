-- Worked examples: lines, good ones and malformed ones, by computation.
-- Those of document 01's script, and the edges of numbers, spaces and fields.
use Rattle.std.specs.Prelude.{◌≡◌, refl, [], ◌∷◌}
use Rattle.script_text.specs.Parts.{parts}
use Rattle.script_text.specs.Decimal.{every, decimal_on}
use Rattle.script_fields.specs.Fields.{is_number, symbol_word, binary}
use Rattle.script_commands.specs.Commands.{command_of, letter_of, table_command, insert_command, delete_command, lookup_command, short_command}
use Rattle.script_commands.specs.Commands.{long_command}
use Rattle.script_commands.specs.declared.Command.TheVariants.{Table, Insert, Lookup, Malformed}

-- `I 1 30 11* 7`
line_insert : command_of (73 ∷ 32 ∷ 49 ∷ 32 ∷ 51 ∷ 48 ∷ 32 ∷ 49 ∷ 49 ∷ 42 ∷ 32 ∷ 55 ∷ []) ≡ Insert (record { id = 1; priority = 30; value = record { high = 0xC000000000000000; low = 0 }; mask = record { high = 0xC000000000000000; low = 0 }; action = 7 })
unfolding command_of parts letter_of short_command long_command table_command insert_command delete_command lookup_command is_number every decimal_on symbol_word binary
line_insert = refl

-- `I 7 20 0 3`
line_zero_cared_for : command_of (73 ∷ 32 ∷ 55 ∷ 32 ∷ 50 ∷ 48 ∷ 32 ∷ 48 ∷ 32 ∷ 51 ∷ []) ≡ Insert (record { id = 7; priority = 20; value = record { high = 0; low = 0 }; mask = record { high = 0x8000000000000000; low = 0 }; action = 3 })
unfolding command_of parts letter_of short_command long_command table_command insert_command delete_command lookup_command is_number every decimal_on symbol_word binary
line_zero_cared_for = refl

-- `L 0101`
line_lookup : command_of (76 ∷ 32 ∷ 48 ∷ 49 ∷ 48 ∷ 49 ∷ []) ≡ Lookup (record { key = record { high = 0x5000000000000000; low = 0 } })
unfolding command_of parts letter_of short_command long_command table_command insert_command delete_command lookup_command is_number every decimal_on symbol_word binary
line_lookup = refl

-- `T 0000000006`
line_ten_digits : command_of (84 ∷ 32 ∷ 48 ∷ 48 ∷ 48 ∷ 48 ∷ 48 ∷ 48 ∷ 48 ∷ 48 ∷ 48 ∷ 54 ∷ []) ≡ Table (record { slots = 6 })
unfolding command_of parts letter_of short_command long_command table_command insert_command delete_command lookup_command is_number every decimal_on symbol_word binary
line_ten_digits = refl

-- `T 4294967296`
line_too_large : command_of (84 ∷ 32 ∷ 52 ∷ 50 ∷ 57 ∷ 52 ∷ 57 ∷ 54 ∷ 55 ∷ 50 ∷ 57 ∷ 54 ∷ []) ≡ Malformed
unfolding command_of parts letter_of short_command long_command table_command insert_command delete_command lookup_command is_number every decimal_on symbol_word binary
line_too_large = refl

-- `T 00000000006`
line_eleven_digits : command_of (84 ∷ 32 ∷ 48 ∷ 48 ∷ 48 ∷ 48 ∷ 48 ∷ 48 ∷ 48 ∷ 48 ∷ 48 ∷ 48 ∷ 54 ∷ []) ≡ Malformed
unfolding command_of parts letter_of short_command long_command table_command insert_command delete_command lookup_command is_number every decimal_on symbol_word binary
line_eleven_digits = refl

-- ``
line_blank : command_of ([]) ≡ Malformed
unfolding command_of parts letter_of short_command long_command table_command insert_command delete_command lookup_command is_number every decimal_on symbol_word binary
line_blank = refl

-- `T  6`
line_two_spaces : command_of (84 ∷ 32 ∷ 32 ∷ 54 ∷ []) ≡ Malformed
unfolding command_of parts letter_of short_command long_command table_command insert_command delete_command lookup_command is_number every decimal_on symbol_word binary
line_two_spaces = refl

-- `T 6 `
line_space_last : command_of (84 ∷ 32 ∷ 54 ∷ 32 ∷ []) ≡ Malformed
unfolding command_of parts letter_of short_command long_command table_command insert_command delete_command lookup_command is_number every decimal_on symbol_word binary
line_space_last = refl

-- `T 6 and a carriage return`
line_return_last : command_of (84 ∷ 32 ∷ 54 ∷ 13 ∷ []) ≡ Malformed
unfolding command_of parts letter_of short_command long_command table_command insert_command delete_command lookup_command is_number every decimal_on symbol_word binary
line_return_last = refl

-- `L 1*`
line_star_in_key : command_of (76 ∷ 32 ∷ 49 ∷ 42 ∷ []) ≡ Malformed
unfolding command_of parts letter_of short_command long_command table_command insert_command delete_command lookup_command is_number every decimal_on symbol_word binary
line_star_in_key = refl

-- `I 1 30 11*`
line_field_missing : command_of (73 ∷ 32 ∷ 49 ∷ 32 ∷ 51 ∷ 48 ∷ 32 ∷ 49 ∷ 49 ∷ 42 ∷ []) ≡ Malformed
unfolding command_of parts letter_of short_command long_command table_command insert_command delete_command lookup_command is_number every decimal_on symbol_word binary
line_field_missing = refl

-- `I 1 30 11* 7 7`
line_field_more : command_of (73 ∷ 32 ∷ 49 ∷ 32 ∷ 51 ∷ 48 ∷ 32 ∷ 49 ∷ 49 ∷ 42 ∷ 32 ∷ 55 ∷ 32 ∷ 55 ∷ []) ≡ Malformed
unfolding command_of parts letter_of short_command long_command table_command insert_command delete_command lookup_command is_number every decimal_on symbol_word binary
line_field_more = refl
