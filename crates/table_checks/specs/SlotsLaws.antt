-- Laws on the number of slots: a table that passes its checks has at most 1,024.
use Rattle.std.specs.Prelude.{◌≡◌, Bool, List, ℕ, ◌≤◌}
use Rattle.records.specs.Order.{slots}
use Rattle.records.specs.Checks.{slot_checks, check_records, table_checks}
use Rattle.records.proofs.Laws.{slot_checks_law, table_checks_law}
use Rattle.records.proofs.EntriesLaws.{shaped_slots}
use Rattle.records.specs.Verdict.{Pass}

-- after checks 1 and 2, and after 1 to 4
pub few_slots : (w : ℕ) (t : List ℕ) → slot_checks w t ≡ Pass → slots w t ≤ 1024
few_slots w t e = (shaped_slots w t ((slot_checks_law w t).0 e).0).1

pub table_few : (w : ℕ) (u : Bool) (t : List ℕ) → table_checks w u t ≡ Pass → slots w t ≤ 1024
table_few w u t e = few_slots w t ((table_checks_law w u t).0 e).0

pub table_records : (w : ℕ) (u : Bool) (t : List ℕ) → table_checks w u t ≡ Pass → check_records w t ≡ Pass
table_records w u t e = ((slot_checks_law w t).0 ((table_checks_law w u t).0 e).0).1
