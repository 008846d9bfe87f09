-- What an I line does and is told, by the plan of its insert, which has room.
use Rattle.std.specs.Prelude.{◌≡◌, refl, false, List, ℕ, ◌≤◌, ◌<◌, length}
use Rattle.std.proofs.Common.{sym, ap, ◌∙◌, subst₂, arith}
use Rattle.records.specs.Checks.{Told}
use Rattle.records.specs.Writes.{apply_words}
use Rattle.records.specs.Editions.{under13, rank_of, ranked}
use Rattle.records.specs.declared.Rule.{Rule}
use Rattle.records.specs.Verdict.{Pass}
use Rattle.buffers.proofs.BuffersLaws.{buffer_written}
use Rattle.neighbours.specs.Neighbours.{insert_checks}
use Rattle.insert_plans.specs.Inserts.{planned_words, insert_answer, insert_plan}
use Rattle.histories.proofs.Demand2Laws.{demand_2_insert, carried_whole}
use Rattle.script_operations.specs.Outcomes.{insert_outcome, WithinRoom}
use Rattle.script_operations.specs.Outcomes.{plan_outcome}
use Rattle.script_operations.specs.Told.{insert_told, planned_told}
use Rattle.script_operations.proofs.OutcomesLaws.{plan_is, told_is, insert_short}

-- an I line
pub insert_is : (t : List ℕ) (rule : Rule) (plan plan' : List ℕ) (told : Told) → rule.action < 4294967296 → length plan ≡ 1024
    → told ≡ insert_answer 2 false t (under13 rule) (length plan) → plan' ≡ insert_plan 2 false t (under13 rule) plan
    → WithinRoom told (length plan') × (plan_outcome told t plan' rule ≡ insert_outcome t rule)
unfolding insert_outcome ranked rank_of
insert_is t rule plan plan' told small n e f =
    let words = planned_words 2 false t rule in
    let long : insert_checks 2 false t (under13 rule) ≡ Pass → length words ≤ length plan = λ p. omega (arith, insert_short t rule small p, n) in
    let r = plan_is t rule (insert_checks 2 false t (under13 rule)) words plan (apply_words 2 t rule words) long
    (λ p. carried_whole (demand_2_insert 2 false t (under13 rule) plan (length words) small (sym (buffer_written words plan refl p (long p)).0))) in
    subst₂ (λ (x : Told) (y : List ℕ). WithinRoom x (length y) × (plan_outcome x t y rule ≡ insert_outcome t rule)) (sym e) (sym f) r

pub insert_told_lem : (t : List ℕ) (rule : Rule) (room : ℕ) (told : Told) → rule.action < 4294967296 → room ≡ 1024
    → told ≡ insert_answer 2 false t (under13 rule) room → planned_told told ≡ insert_told t rule
unfolding insert_told ranked rank_of
insert_told_lem t rule room told small n e =
    ap planned_told e ∙ told_is (insert_checks 2 false t (under13 rule)) (planned_words 2 false t rule) room (λ p. omega (arith, insert_short t rule small p, n))
