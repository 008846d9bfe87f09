-- `table_checks::ids::id_twice` meets its contract.
-- An empty slot has no id, and one that the column does not find stands in no earlier slot.
use mathlib.Core.Path.{sym, ◌∙◌}
use borrow.Author.Tests.{not-false}
use Rattle.table_checks.specs.IdsLaws.{unlisted, empty_once}
use Rattle.table_checks.proofs.ids.id_twice.Goals.{then-not-slot_empty, else-not-slot_empty}
use Rattle.table_checks.proofs.ids.id_twice.Goals as goal

pub returns-else-listed_before : goal.returns-else-listed_before
returns-else-listed_before c =
    let a = c.args in
    let no = c.if-listed_before.false in
    no
    ∙ elim c.if-not-slot_empty.branch [
      | then-not-slot_empty w ↦
          sym (unlisted _ a.table.now a.ids.now _ a.slot c.requires.id_column c.requires.width.1 (sym w.listed_before.ensures ∙ (sym w.value-is ∙ no)))
      | else-not-slot_empty w ↦ sym (empty_once _ _ _ (sym c.slot_empty.ensures ∙ not-false _ (sym w.value-is ∙ no)))
    ]
