-- `lookups::lookup::hit_at` meets its contract.
-- Slot, id and action of the word that holds both.
use Rattle.lookups.specs.Lookup.{hit_at}
use Rattle.lookups.proofs.lookup.hit_at.Goals as goal

pub returns : goal.returns
unfolding hit_at
returns c = rw (c.lower_half.ensures, c.upper_half.ensures, c.named_word-id_action.ensures)
