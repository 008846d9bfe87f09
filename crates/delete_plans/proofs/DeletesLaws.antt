-- End theorems on the planning of deletes: what an accepted one plans, and the code's tests of the id.
use Rattle.std.specs.Prelude.{◌≡◌, Bool, true, List, ℕ, ◌<◌, ◌≤◌, eqb}
use Rattle.std.proofs.Common.{ap, arith, ltb-true, lt-ltb, le-ltb, eq-eqb, ne_eqb}
use Rattle.search.specs.SearchLaws.{least_law, and_right}
use Rattle.layout.specs.Write.{clear}
use Rattle.plan_words.specs.PlanWords.{write_word, write_of}
use Rattle.plan_words.specs.PlanWordsLaws.{write_of_word}
use Rattle.records.specs.Record.{slot_words, ident}
use Rattle.records.specs.Order.{slots}
use Rattle.records.specs.Checks.{or_else, table_checks}
use Rattle.records.proofs.Laws.{or_else_pass, pass_law}
use Rattle.records.specs.Writes.{apply_write, fits_word}
use Rattle.records.specs.declared.Cause.TheVariants.{Rule as RuleCause, Unknown}
use Rattle.records.specs.Verdict.{Check}
use Rattle.records.specs.Verdict.{Pass, Fail}
use Rattle.table_checks.specs.SlotsLaws.{table_few}
use Rattle.delete_plans.specs.Deletes.{has_id, DeletePlanned, check_id, delete_checks, slot_of_id, check_unknown}

-- the code's tests of the id
pub id_refused : (id : ℕ) (next : Check) → id ≡ 0 → Fail RuleCause 0 ≡ or_else (check_id id) next
unfolding check_id
id_refused id next e = rw (eq-eqb id 0 e)

pub id_accepted : (id : ℕ) {answer next : Check} → (id ≡ 0 → ⊥) → answer ≡ next → answer ≡ or_else (check_id id) next
unfolding check_id
id_accepted id e h = rw (ne_eqb id 0 e) h

pub id_found : (w : ℕ) (t : List ℕ) (id slot : ℕ) → slot ≡ slot_of_id w t id → slot < slots w t → Pass ≡ check_unknown w t id
unfolding check_unknown
id_found w t id slot e h = rw (← e, lt-ltb slot (slots w t) h)

pub id_absent : (w : ℕ) (t : List ℕ) (id slot : ℕ) → slot ≡ slot_of_id w t id → slots w t ≤ slot → Fail Unknown 0 ≡ check_unknown w t id
unfolding check_unknown
id_absent w t id slot e h = rw (← e, le-ltb slot (slots w t) h)

-- where the checks pass the slot is one of at most 1,024
pub delete_small : (w : ℕ) (u : Bool) (t : List ℕ) (id : ℕ) → delete_checks w u t id ≡ Pass → slot_of_id w t id ≤ 1024
unfolding delete_checks slot_of_id
delete_small w u t id e =
    let l = least_law (has_id w t id) (slots w t) 0 in
    let few = table_few w u t ((or_else_pass (table_checks w u t) (or_else (check_id id) (check_unknown w t id))).0 e).0 in
    omega (arith, l.high)

pub delete_planned : (w : ℕ) (u : Bool) (t : List ℕ) (id : ℕ) → delete_checks w u t id ≡ Pass → DeletePlanned w u t id
unfolding delete_checks slot_of_id check_unknown has_id
delete_planned w u t id e = record { table = checks.0; exists = exists; holds = holds; fits = fits; after = λ rule. ap (apply_write w t rule) write }
  where
    checks : (table_checks w u t ≡ Pass) × (or_else (check_id id) (check_unknown w t id) ≡ Pass)
    checks = (or_else_pass (table_checks w u t) (or_else (check_id id) (check_unknown w t id))).0 e

    exists : slot_of_id w t id < slots w t
    exists = ltb-true (slot_of_id w t id) (slots w t) ((pass_law Unknown 0 _).0 ((or_else_pass (check_id id) (check_unknown w t id)).0 checks.1).1)

    holds : has_id w t id (slot_of_id w t id) ≡ true
    holds = (least_law (has_id w t id) (slots w t) 0).hit (omega (arith, exists))

    write : write_of (write_word (clear (slot_of_id w t id))) ≡ clear (slot_of_id w t id)
    write = write_of_word (clear (slot_of_id w t id)) (omega (arith, exists, table_few w u t checks.0))

    fits : fits_word w t (write_word (clear (slot_of_id w t id))) ≡ true
    fits = rw (write, lt-ltb (slot_of_id w t id) (slots w t) exists) (and_right (eqb (ident w (slot_words w t (slot_of_id w t id))) id) _ holds)
