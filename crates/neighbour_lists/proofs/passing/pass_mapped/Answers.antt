-- `neighbour_lists::passing::pass_mapped` meets its contract: the maps begin with no bit set.
use native.Mathlib.Omega.{arith}
use Rattle.records.proofs.RulesLaws.{zero_word}
use Rattle.neighbour_lists.proofs.passing.pass_mapped.Goals as goal

pub whole_as_slice-pass_with : goal.whole_as_slice-pass_with
whole_as_slice-pass_with g c = omega (arith, c.requires.count_bound.1)

pub pass_with-requires : goal.pass_with-requires
pass_with-requires g c =
    record { width = c.requires.width; count_in_bounds = (omega (arith, c.requires.count_bound.0), omega (arith, c.requires.count_bound.0, c.requires.count_bound.1), c.requires.count_bound.2); width_in_bounds = c.requires.width_in_bounds; by_index = zero_word g.row.WORDS }
