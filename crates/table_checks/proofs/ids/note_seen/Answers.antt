-- `table_checks::ids::note_seen` meets its contract.
use Rattle.table_checks.proofs.ids.note_seen.Goals as goal

pub returns : goal.returns
returns c = rw c.seen_place.ensures at c.mark.ensures
