-- `insert_plans::plan_checked` meets its contract.
-- Each case of what the rule was found to be has its plan or refusal.
use mathlib.Core.Path.{sym, ap, ap₂, ◌∙◌, subst}
use mathlib.Core.List.{List}
use Prim.Native.Nat.{ℕ}
use native.Mathlib.Omega.{arith}
use lib.ListN.{length}
use Rattle.records.specs.Record.{slot_words}
use Rattle.records.specs.Checks.{or_else}
use Rattle.records.specs.Verdict.{Check}
use Rattle.records.proofs.Laws.{is_refusal}
use Rattle.buffers.specs.Buffers.{plan_told, buffer_answer, buffer_after}
use Rattle.table_checks.specs.SlotsLaws.{table_few}
use Rattle.neighbours.specs.Neighbours.{FoundIn}
use Rattle.neighbours.proofs.NeighboursLaws.{replaced_equal}
use Rattle.std.specs.Prelude.{Some, Ok}
use Rattle.insert_plans.proofs.InsertsLaws.{found_declined, found_replaces, found_adds}
use Rattle.insert_plans.proofs.plan_checked.Goals as goal

pub plan_between_neighbours-requires : goal.plan_between_neighbours-requires
plan_between_neighbours-requires c =
    let a = c.args in
    let adds = found_adds a.mode.width a.mode.uncounted a.table.now (slot_words a.mode.width a.new.now 0) a.plan.now (c.in_ok-found.was ∙ ap Ok c.in-None.is) c.requires.len.1 in
    record { width = c.requires.width; len = (c.requires.len.0, c.requires.len.2 adds.0); bound = λ e. c.requires.bound adds.0 adds.1 (adds.2 ∙ e) }

pub plan_replacement-requires : goal.plan_replacement-requires
plan_replacement-requires c =
    let a = c.args in
    let new = slot_words a.mode.width a.new.now 0 in
    let in_slot : FoundIn a.mode.width a.mode.uncounted a.table.now new (Ok (Some _)) = subst (FoundIn a.mode.width a.mode.uncounted a.table.now new) (c.in_ok-found.was ∙ ap Ok c.in-Some.is) c.requires.len.1 in
    omega (arith, in_slot.0, (replaced_equal a.mode.width a.mode.uncounted a.table.now new in_slot.1).0, table_few a.mode.width a.mode.uncounted a.table.now c.requires.width.1)

pub returns-in-None : goal.returns-in-None
returns-in-None c =
    let a = c.args in
    let plan = a.plan.now in
    let adds = found_adds a.mode.width a.mode.uncounted a.table.now (slot_words a.mode.width a.new.now 0) plan (c.in_ok-found.was ∙ ap Ok c.in-None.is) c.requires.len.1 in
    let check = sym (ap₂ or_else adds.0 adds.2) in
    record { result_value = c.plan_between_neighbours.ensures.result_value ∙ ap₂ (λ (x : Check) (l : List ℕ). buffer_answer x (length l) (length plan)) check (sym adds.3); plan_after = c.plan_between_neighbours.ensures.plan_after ∙ ap₂ (λ (x : Check) (l : List ℕ). buffer_after x l plan) check (sym adds.3) }

pub returns-in-Some : goal.returns-in-Some
returns-in-Some c =
    let a = c.args in
    let law = found_replaces a.mode.width a.mode.uncounted a.table.now (slot_words a.mode.width a.new.now 0) a.plan.now (c.in_ok-found.was ∙ ap Ok c.in-Some.is) c.requires.len.1 in
    record { result_value = c.plan_replacement.ensures.result_value ∙ law.0; plan_after = c.plan_replacement.ensures.plan_after ∙ law.1 }

pub returns-in_err-found : goal.returns-in_err-found
returns-in_err-found c =
    let a = c.args in
    let both = found_declined a.mode.width a.mode.uncounted a.table.now (slot_words a.mode.width a.new.now 0) a.plan.now c.in_err-found.was in
    record { result_value = ap plan_told (is_refusal _ c.from_residual.ensures.1) ∙ both.0; plan_after = both.1 }
