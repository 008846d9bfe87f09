-- Worked examples: answers, by computation: those of document 01's script, and the largest line number.
-- Each is the list of the bytes printed.
use Rattle.std.specs.Prelude.{◌≡◌, refl, [], ◌∷◌, ◌+◌, ◌*◌}
use Rattle.plan_words.specs.PlanWords.{write_of}
use Rattle.script_text.specs.Decimal.{digits_of, digits_in}
use Rattle.script_answers.specs.Answers.{table_bytes, plan_bytes, printed_writes, hit_bytes, miss_bytes, refusal_bytes}

-- `N 6`
answer_table : table_bytes 6 ≡ 78 ∷ 32 ∷ 54 ∷ 10 ∷ []
unfolding digits_of digits_in plan_bytes printed_writes write_of
answer_table = refl

-- `P 2, W 1 2, W - 1`
answer_copy_and_put_in : plan_bytes ((1 * 65536 + 2) ∷ (65535 * 65536 + 1) ∷ []) ≡ 80 ∷ 32 ∷ 50 ∷ 10 ∷ 87 ∷ 32 ∷ 49 ∷ 32 ∷ 50 ∷ 10 ∷ 87 ∷ 32 ∷ 45 ∷ 32 ∷ 49 ∷ 10 ∷ []
unfolding digits_of digits_in plan_bytes printed_writes write_of
answer_copy_and_put_in = refl

-- `P 1, E 2`
answer_emptying : plan_bytes ((65534 * 65536 + 2) ∷ []) ≡ 80 ∷ 32 ∷ 49 ∷ 10 ∷ 69 ∷ 32 ∷ 50 ∷ 10 ∷ []
unfolding digits_of digits_in plan_bytes printed_writes write_of
answer_emptying = refl

-- `A 4 6 2`
answer_hit : hit_bytes 4 6 2 ≡ 65 ∷ 32 ∷ 52 ∷ 32 ∷ 54 ∷ 32 ∷ 50 ∷ 10 ∷ []
unfolding digits_of digits_in plan_bytes printed_writes write_of
answer_hit = refl

-- `M`
answer_miss : miss_bytes ≡ 77 ∷ 10 ∷ []
unfolding digits_of digits_in plan_bytes printed_writes write_of
answer_miss = refl

-- `R 10 4`
answer_refusal : refusal_bytes 10 4 ≡ 82 ∷ 32 ∷ 49 ∷ 48 ∷ 32 ∷ 52 ∷ 10 ∷ []
unfolding digits_of digits_in plan_bytes printed_writes write_of
answer_refusal = refl

-- `R 13 18446744073709551615`
answer_line_number : refusal_bytes 13 18446744073709551615 ≡ 82 ∷ 32 ∷ 49 ∷ 51 ∷ 32 ∷ 49 ∷ 56 ∷ 52 ∷ 52 ∷ 54 ∷ 55 ∷ 52 ∷ 52 ∷ 48 ∷ 55 ∷ 51 ∷ 55 ∷ 48 ∷ 57 ∷ 53 ∷ 53 ∷ 49 ∷ 54 ∷ 49 ∷ 53 ∷ 10 ∷ []
unfolding digits_of digits_in plan_bytes printed_writes write_of
answer_line_number = refl
