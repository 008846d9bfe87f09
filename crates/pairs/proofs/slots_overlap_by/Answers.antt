-- `pairs::slots_overlap_by` meets its contract.
-- Patterns that are not apart overlap.
use mathlib.Core.Path.{sym, ap, ◌∙◌}
use Rattle.ternary.specs.Comparison.{not_apart}
use Rattle.ternary.proofs.ComparisonLaws.{overlaps_compared}
use Rattle.pairs.proofs.slots_overlap_by.Goals as goal

pub returns : goal.returns
returns c = c.not_apart.ensures ∙ (ap not_apart c.compare_slots.ensures ∙ sym (overlaps_compared _ _ _ _ _))
