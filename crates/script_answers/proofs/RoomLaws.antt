-- Laws on how long a plan's lines can get, and the lines of one word more.
-- A plan word's line has at most 14 bytes, so that a plan of 1,024 words has at most 7 + 14 × 1,024 = 14,343.
use Rattle.std.specs.Prelude.{◌≡◌, List, [], ◌∷◌, ◌++◌, ℕ, ◌+◌, ◌≤◌, ◌<◌, length, get_or, take}
use Rattle.std.proofs.Common.{sym, ap, ◌∙◌, append_assoc, append-nil, arith, add-one, length-append, take-suc, take_all}
use Rattle.std.proofs.Math.Decide.{ℕ_discrete}
use Rattle.layout.specs.Write.{copy, put, clear}
use Rattle.plan_words.specs.PlanWords.{put_in, emptying, from_of, to_of, write_of}
use Rattle.plan_words.specs.PlanWordsLaws.{word_puts, word_clears, word_copies}
use Rattle.script_text.specs.Decimal.{digits_of}
use Rattle.script_text.proofs.DecimalLaws.{digits_few}
use Rattle.script_printing.specs.PrintedLines.{printed}
use Rattle.script_printing.specs.PrintedLinesLaws.{digits_5, length_one, length_two}
use Rattle.script_answers.specs.Answers.{printed_write, printed_writes}

pub length_put : (to : ℕ) → length (printed_write (put to)) ≡ 5 + length (digits_of to)
length_put to = simp length-append (omega arith)

pub put_short : (to : ℕ) → to < 65536 → length (printed_write (put to)) ≤ 14
put_short to h = omega (arith, length_put to, digits_5 to h)

pub clear_short : (to : ℕ) → to < 65536 → length (printed_write (clear to)) ≤ 14
clear_short to h = omega (arith, length_one 69 to, digits_5 to h)

pub copy_short : (from to : ℕ) → from < 65536 → to < 65536 → length (printed_write (copy from to)) ≤ 14
copy_short from to h g = omega (arith, length_two 87 from to, digits_5 from h, digits_5 to g)

pub line_short : (word : ℕ) → word < 4294967296 → length (printed_write (write_of word)) ≤ 14
line_short word h = by (ℕ_discrete (from_of word) put_in) (ℕ_discrete (from_of word) emptying)
  where
    by : Dec (from_of word ≡ put_in) → Dec (from_of word ≡ emptying) → length (printed_write (write_of word)) ≤ 14
    by (yes e) d = rw (← word_puts word e) (put_short (to_of word) (omega arith))
    by (no e) (yes f) = rw (← word_clears word f) (clear_short (to_of word) (omega arith))
    by (no e) (no f) = rw (← word_copies word e f) (copy_short (from_of word) (to_of word) (omega arith) (omega arith))

pub count_short : (count : ℕ) → count ≤ 1024 → length (printed 80 (count ∷ [])) ≤ 7
count_short count h = omega (arith, length_one 80 count, digits_few 3 count (omega arith))

-- the lines of one word more
writes_append : (x : List ℕ) (w : ℕ) → printed_writes (x ++ w ∷ []) ≡ printed_writes x ++ printed_write (write_of w)
unfolding printed_writes
writes_append [] w = append-nil (printed_write (write_of w))
writes_append (a ∷ x) w = ap (λ (l : List ℕ). printed_write (write_of a) ++ l) (writes_append x w) ∙ sym (append_assoc (printed_write (write_of a)) (printed_writes x) (printed_write (write_of w)))

pub writes_on : (words : List ℕ) (i : ℕ) → i < length words
    → printed_writes (take i words) ++ printed_write (write_of (get_or words i 0)) ≡ printed_writes (take (i + 1) words)
writes_on words i h = sym (ap (λ (n : ℕ). printed_writes (take n words)) (add-one i) ∙ (ap printed_writes (take-suc words i 0 h) ∙ writes_append (take i words) (get_or words i 0)))

pub writes_all : (words : List ℕ) (i : ℕ) → length words ≤ i → printed_writes (take i words) ≡ printed_writes words
writes_all words i h = ap printed_writes (take_all i words h)
