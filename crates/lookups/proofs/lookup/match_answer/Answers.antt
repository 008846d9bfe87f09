-- `lookups::lookup::match_answer` meets its contract.
-- A hit where there is such a slot, else a miss.
use mathlib.Core.Path.{ap}
use native.Mathlib.Omega.{arith}
use borrow.Author.Tests.{lt-ltb, le-ltb}
use Rattle.std.specs.Prelude.{Some, Ok}
use Rattle.lookups.specs.declared.Hit.{Hit}
use Rattle.lookups.specs.Lookup.{lookup_told, match_told}
use Rattle.lookups.proofs.lookup.match_answer.Goals as goal

pub hit_at-hit-requires : goal.hit_at-hit-requires
hit_at-hit-requires c = (c.requires.0, c.requires.1, omega arith)

pub returns-then-slot-slot_count : goal.returns-then-slot-slot_count
unfolding match_told
returns-then-slot-slot_count c = rw (rw c.slot_count.ensures at (lt-ltb _ _ c.if-slot-slot_count.true)) (ap (λ (h : Hit). lookup_told (Ok (Some h))) c.hit_at-hit.ensures)

pub returns : goal.returns
unfolding match_told
returns c = rw (rw c.slot_count.ensures at (le-ltb _ _ c.if-slot-slot_count.false))
