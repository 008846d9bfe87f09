-- `listed_writes::write_listed` meets its contract.
-- The write leaves every slot but one as it was, and check 2 passes again.
use mathlib.Core.Path.{◌≡◌, sym, subst}
use mathlib.Core.List.{List}
use Prim.Native.Nat.{ℕ, ◌*◌, ◌≤◌, ◌<◌}
use native.Mathlib.Omega.{arith}
use lib.ListN.{length}
use Rattle.plan_words.specs.PlanWords.{write_of}
use Rattle.records.specs.Record.{most_slots, word}
use Rattle.records.specs.Order.{slots}
use Rattle.records.specs.Widths.{Width}
use Rattle.records.specs.Editions.{lent_rule, ranked}
use Rattle.records.specs.Checks.{check_records}
use Rattle.records.proofs.RulesLaws.{rule_action}
use Rattle.records.proofs.WritesLaws.{apply_slots}
use Rattle.records.specs.Verdict.{Pass}
use Rattle.carrying.proofs.StepsLaws.{carried_below}
use Rattle.list_updates.specs.Updates.{ListedBefore}
use Rattle.listed_writes.specs.ListedWritesLaws.{written_below, write_before, write_records}
use Rattle.listed_writes.proofs.write_listed.Goals as goal

pub update_list-requires : goal.update_list-requires
update_list-requires c =
    let a = c.args in
    let w = a.mode.width in
    let t = a.table.now in
    let given = lent_rule w a.edition a.rule.now in
    let x = write_of a.word in
    let below = carried_below w t (ranked w given) x c.requires.width.2 in
    let size = apply_slots w t (ranked w given) x below in
    let checks = write_records w t given x (rule_action w (word a.rule.now)) c.requires.table_bound.1 below c.requires.width.3 in
    let both = subst
    (λ (after : List ℕ).
    ((Width w) × (slots w after ≤ most_slots) × (c.written_slot.result < slots w after) × (check_records w after ≡ Pass) × (2 * slots w after ≤ length a.list.now))
    × ListedBefore w a.mode.uncounted after c.written_slot.result a.list.now)
    (sym c.make_write.ensures)
    (rw c.written_slot.ensures (
      (c.requires.width.0, omega (arith, size, c.requires.table_bound.0), omega (arith, size, written_below w t x below), checks, omega (arith, size, c.requires.table_bound.2)),
      (t, write_before w t (ranked w given) x below, c.requires.table_bound.3),
    )) in
    record { width = both.0; listed_before = both.1 }
