-- `insert_plans::choose_insert` meets its contract.
-- The ranges are the definition's.
use mathlib.Core.Path.{◌∙◌}
use Rattle.insert_plans.proofs.choose_insert.Goals as goal

pub returns : goal.returns
returns c = c.choose.ensures ∙ rw c.saturating_sub.ensures
