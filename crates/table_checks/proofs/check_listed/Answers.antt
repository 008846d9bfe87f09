-- `table_checks::check_listed` meets its contract.
-- Checks 3 and 4 are made in turn where 1 and 2 pass.
use mathlib.Core.Path.{sym, ap, ◌∙◌}
use mathlib.Core.Bool.{false≢true}
use native.Mathlib.Omega.{arith}
use Rattle.records.specs.Verdict.{checked}
use Rattle.records.specs.Checks.{passes, table_checks}
use Rattle.records.proofs.Laws.{is_refusal, stops, goes_on, slot_checks_law}
use Rattle.table_checks.specs.SlotsLaws.{few_slots}
use Rattle.table_checks.proofs.check_listed.Goals as goal

pub returns-in_err-check_slots : goal.returns-in_err-check_slots
unfolding table_checks
returns-in_err-check_slots c =
    let refused = ap checked (is_refusal _ c.from_residual.ensures.1) in
    record { value = refused ∙ stops _ c.in_err-check_slots.ensures; listed = λ e. absurd (false≢true (ap passes (sym refused ∙ e))) }

pub check_twice-requires : goal.check_twice-requires
check_twice-requires c = (c.requires.0, few_slots _ c.args.table.now (sym c.in_ok-check_slots.ensures))

pub returns-in_err-check_twice : goal.returns-in_err-check_twice
unfolding table_checks
returns-in_err-check_twice c =
    let refused = ap checked (is_refusal _ c.from_residual-in_err-check_twice.ensures.1) in
    record {
      value = goes_on c.in_ok-check_slots.ensures (refused ∙ stops _ c.in_err-check_twice.ensures);
      listed = λ e. absurd (false≢true (ap passes (sym refused ∙ e)));
    }

pub check_order-requires : goal.check_order-requires
check_order-requires c =
    let t = c.args.table.now in
    let pass = sym c.in_ok-check_slots.ensures in
    let few = few_slots _ t pass in
    record { width = (c.requires.0, few, omega arith); table_value = ((slot_checks_law _ t).0 pass).1 }

pub returns : goal.returns
unfolding table_checks
returns c =
    record { value = goes_on c.in_ok-check_slots.ensures (goes_on c.in_ok-check_twice.ensures c.check_order.ensures.value); listed = λ e. c.check_order.ensures.listed }
