-- `pairs::same_action` meets its contract.
-- The actions are those that the two slots tell.
use mathlib.Core.Path.{ap₂}
use lib.Dec.{eqb}
use Rattle.pairs.proofs.same_action.Goals as goal

pub returns : goal.returns
returns c = ap₂ eqb c.slot_action.ensures c.slot_action-2.ensures
