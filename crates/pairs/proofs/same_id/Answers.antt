-- `pairs::same_id` meets its contract.
-- Equal ids, and then both slots occupied.
use mathlib.Core.Path.{ap₂, ◌∙◌}
use lib.Dec.{eqb}
use borrow.Author.Tests.{eq-eqb, ne_eqb}
use Rattle.search.specs.SearchLaws.{and_more, and_stop}
use Rattle.records.specs.Order.{same_id}
use Rattle.pairs.proofs.same_id.Goals as goal

pub returns-then-slot_id : goal.returns-then-slot_id
unfolding same_id
returns-then-slot_id c = and_more (ap₂ eqb c.slot_id.ensures c.slot_id-2.ensures) (eq-eqb _ _ c.if-slot_id.true) c.both_occupied.ensures

pub returns-else-slot_id : goal.returns-else-slot_id
unfolding same_id
returns-else-slot_id c =
    let no = ne_eqb _ _ c.if-slot_id.false in
    no ∙ and_stop _ (ap₂ eqb c.slot_id.ensures c.slot_id-2.ensures) no
