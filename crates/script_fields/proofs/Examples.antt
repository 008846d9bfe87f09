-- Worked examples: `10*` has value bit 1 at the highest place, and mask bits at the two highest, by computation.
use Rattle.std.specs.Prelude.{◌≡◌, refl, [], ◌∷◌}
use Rattle.script_fields.specs.Fields.{value_bit, mask_bit, binary, symbol_word}

pattern_value : symbol_word value_bit (49 ∷ 48 ∷ 42 ∷ []) 0 ≡ 0x8000000000000000
unfolding symbol_word binary
pattern_value = refl

pattern_mask : symbol_word mask_bit (49 ∷ 48 ∷ 42 ∷ []) 0 ≡ 0xC000000000000000
unfolding symbol_word binary
pattern_mask = refl
