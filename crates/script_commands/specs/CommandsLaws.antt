-- End theorems on lines: only the first 257 bytes of a line count, so that the program need not hold more.
-- A letter stands alone in its field; a number, printed, is read back; and which keys match the rule of an insert.
use Rattle.std.specs.Prelude.{◌≡◌, refl, Bool, true, cond, ◌↔◌, ◌≢◌, List, [], ◌∷◌, ℕ, zero, suc, ◌+◌, ◌-◌, ◌≤◌, ◌<◌, leb, length, get_or, take}
use Rattle.std.proofs.Common.{sym, ap, subst, ◌∙◌, arith, take_all, length-take-le, le-leb, lt-ltb, ne_eqb}
use Rattle.std.proofs.Math.Decide.{dec_le}
use Rattle.search.specs.SearchLaws.{and_both}
use Rattle.ternary.specs.Pattern.{Matches, matches}
use Rattle.ternary.proofs.PatternLaws.{matches_law}
use Rattle.records.specs.Record.{word}
use Rattle.script_text.specs.Decimal.{every, digit, decimal, digits_of}
use Rattle.script_text.proofs.DecimalLaws.{digits_read, digits_digits, digits_some, digits_few}
use Rattle.script_fields.specs.Fields.{is_number, sized, value_bit, mask_bit, symbol_word, symbol_words, Asks}
use Rattle.script_fields.proofs.PatternLaws.{word_asks}
use Rattle.script_commands.specs.Commands.{inserted_rule, key_of, letter_of, command_of}
use Rattle.script_commands.specs.LineLaws.{line_long}

-- a longer line is malformed, whatever follows: the program need not hold more than 257 bytes
pub command_short : (line : List ℕ) → command_of (take 257 line) ≡ command_of line
command_short line = by (dec_le (length line) 256)
  where
    by : Dec (length line ≤ 256) → command_of (take 257 line) ≡ command_of line
    by (yes h) = ap command_of (take_all 257 line (omega arith))
    by (no h) = sym (line_long (take 257 line) (let e = length-take-le 257 line (omega arith) in omega arith)) ∙ line_long line (omega arith)

-- a letter stands alone in its field: `letter_of` is 0, the letter of no command, for any other field
pub letter_alone : (field : List ℕ) → 0 < letter_of field → field ≡ letter_of field ∷ []
unfolding letter_of
letter_alone [] h = absurd (omega arith)
letter_alone (b ∷ []) h = refl
letter_alone (b ∷ c ∷ rest) h =
    let more : length (b ∷ c ∷ rest) ≢ 1 = λ e. omega arith in
    let none : letter_of (b ∷ c ∷ rest) ≡ 0 = ap (λ (alone : Bool). cond alone b 0) (ne_eqb (length (b ∷ c ∷ rest)) 1 more) in
    absurd (omega (arith, h, none))

-- a number of 32 bits, printed, is a number, and read back it is the same
pub number_printed : (n : ℕ) → n < 4294967296 → (is_number (digits_of n) ≡ true) × (decimal (digits_of n) ≡ n)
unfolding is_number
number_printed n h =
    let some = le-leb 1 (length (digits_of n)) (digits_some n) in
    let few = le-leb (length (digits_of n)) 10 (digits_few 9 n (omega arith)) in
    let fits = lt-ltb (decimal (digits_of n)) 4294967296 (let e = digits_read n in omega arith) in
    (and_both (sized 10 (digits_of n)) _ (and_both (leb 1 (length (digits_of n))) _ some few) (and_both (every digit (digits_of n)) _ (digits_digits n) fits), digits_read n)

-- What an I line's pattern and an L line's key mean for each other: the key matches the rule exactly when at each of the 128 places where the
-- pattern has 0 or 1 the key has the same; past its end a pattern asks nothing, and a key has 0.
pub pattern_matches_lem : (id priority action : ℕ) (pattern key : List ℕ)
    → let rule = inserted_rule (record { id = id; priority = priority; value = symbol_words value_bit pattern; mask = symbol_words mask_bit pattern; action = action }) in
    (matches 2 (word (key_of (record { key = symbol_words value_bit key }))) (word rule.value) (word rule.mask) ≡ true) ↔ Asks pattern key 0 128
pattern_matches_lem id priority action pattern key =
    let law = matches_law 2 (word (symbol_word value_bit key 0 ∷ symbol_word value_bit key 64 ∷ [])) (word (symbol_word value_bit pattern 0 ∷ symbol_word value_bit pattern 64 ∷ [])) (word (symbol_word mask_bit pattern 0 ∷ symbol_word mask_bit pattern 64 ∷ [])) in
    (λ e. there (law.0 e), λ g. law.1 (back g))
  where
    Agree : Type 0
    Agree =
        Matches 2 (word (symbol_word value_bit key 0 ∷ symbol_word value_bit key 64 ∷ [])) (word (symbol_word value_bit pattern 0 ∷ symbol_word value_bit pattern 64 ∷ []))
        (word (symbol_word mask_bit pattern 0 ∷ symbol_word mask_bit pattern 64 ∷ []))

    there : Agree → Asks pattern key 0 128
    there f k h = by (dec_le k 63)
      where
        by : Dec (k ≤ 63) → mask_bit (get_or pattern (0 + k) 0) ≡ true → value_bit (get_or key (0 + k) 0) ≡ value_bit (get_or pattern (0 + k) 0)
        by (yes l) = (word_asks pattern key 0).0 (f 0 (omega arith)) k (omega arith)
        by (no l) =
            let e : 64 + (k - 64) ≡ 0 + k = omega arith in
            subst (λ (n : ℕ). mask_bit (get_or pattern n 0) ≡ true → value_bit (get_or key n 0) ≡ value_bit (get_or pattern n 0)) e
            ((word_asks pattern key 64).0 (f 1 (omega arith)) (k - 64) (omega arith))

    back : Asks pattern key 0 128 → Agree
    back g zero h = (word_asks pattern key 0).1 (λ k l. g k (omega arith))
    back g (suc zero) h =
        (word_asks pattern key 64).1
        (λ k l.
        let e : 0 + (64 + k) ≡ 64 + k = omega arith in
        subst (λ (n : ℕ). mask_bit (get_or pattern n 0) ≡ true → value_bit (get_or key n 0) ≡ value_bit (get_or pattern n 0)) e (g (64 + k) (omega arith)))
    back g (suc (suc j)) h = absurd (omega arith)
