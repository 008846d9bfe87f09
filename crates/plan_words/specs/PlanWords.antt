-- Document 01's write as one plan word of 32 bits, and the write that a word stands for.
-- A write is that of layouts, so that a plan found there is carried out on words.
use Rattle.std.specs.Prelude.{cond, ℕ, ◌+◌, ◌*◌, ◌/◌, ◌%◌, ◌<◌, eqb}
use Rattle.layout.specs.Write.{Write, copy, put, clear}
use Rattle.plan_words.specs.declared.PlanWrite.{PlanWrite}
use Rattle.plan_words.specs.declared.PlanWrite.TheVariants.{Copy, PutIn, Clear}

-- document 01: from 65,535 puts in the rule given with the call, from 65,534 empties slot to
abbrev pub put_in : ℕ
put_in = 65535

abbrev pub emptying : ℕ
emptying = 65534

-- document 01: one 32-bit plan word, from × 65,536 + to
abbrev pub word_of : ℕ → ℕ → ℕ
word_of from to = from * 65536 + to

abbrev pub from_of : ℕ → ℕ
from_of n = n / 65536

abbrev pub to_of : ℕ → ℕ
to_of n = n % 65536

abbrev pub write_word : Write → ℕ
write_word (copy from to) = word_of from to
write_word (put to) = word_of put_in to
write_word (clear to) = word_of emptying to

-- the write of a word: any other from copies slot from to slot to
unfoldable pub write_of : ℕ → Write
write_of n = cond (eqb (from_of n) put_in) (put (to_of n)) (cond (eqb (from_of n) emptying) (clear (to_of n)) (copy (from_of n) (to_of n)))

-- the write that a value of the code stands for
abbrev pub write_meant : PlanWrite → Write
write_meant (Copy from to) = copy from to
write_meant (PutIn to) = put to
write_meant (Clear to) = clear to

-- the write's slots are below n: they exist, where n is the number of slots
abbrev pub SlotsBelow : ℕ → Write → Type 0
SlotsBelow n (copy from to) = (from < n) × (to < n)
SlotsBelow n (put to) = to < n
SlotsBelow n (clear to) = to < n
