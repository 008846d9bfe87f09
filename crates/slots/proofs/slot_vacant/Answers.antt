-- `slots::slot_vacant` meets its contract: where check 2 passes, a slot is empty exactly when its word of id and action is 0.
use mathlib.Core.Path.{◌∙◌}
use Rattle.records.proofs.Laws.{id_word}
use Rattle.slots.proofs.slot_vacant.Goals as goal

pub returns : goal.returns
returns c =
    let a = c.args in
    c.slot_unnamed.ensures ∙ id_word a.width a.table.now a.slot c.requires.table_value c.requires.width.1
