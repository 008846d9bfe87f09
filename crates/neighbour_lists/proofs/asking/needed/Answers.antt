-- `neighbour_lists::asking::needed` meets its contract.
use borrow.Author.Tests.{eq-eqb, ne_eqb, le-leb, lt-leb}
use Rattle.neighbour_lists.specs.Row.{needed_bits}
use Rattle.neighbour_lists.proofs.asking.needed.Goals.{then-before-via-then-before, then-before-via-else-before+then-low-block}
use Rattle.neighbour_lists.proofs.asking.needed.Goals as goal

pub returns-then-before : goal.returns-then-before
unfolding needed_bits
returns-then-before c =
    elim c.then-before.branch [
      | then-before-via-then-before w ↦ rw (eq-eqb _ _ w.if-before.true)
      | then-before-via-else-before+then-low-block w ↦ rw (ne_eqb _ _ w.if-before.false, le-leb _ _ w.if-low-block.true)
    ]

pub returns : goal.returns
unfolding needed_bits
returns c = rw (ne_eqb _ _ c.if-before.false, lt-leb _ _ c.if-low-block.false)
