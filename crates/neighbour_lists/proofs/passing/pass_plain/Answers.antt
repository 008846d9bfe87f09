-- `neighbour_lists::passing::pass_plain` meets its contract: with no place chosen nothing is asked of the maps.
use lib.ListN.{replicate}
use native.Mathlib.Omega.{arith}
use Rattle.bitmaps.specs.RowsLaws.{spread_none, total_none}
use Rattle.records.proofs.RulesLaws.{zero_word}
use Rattle.neighbour_lists.proofs.passing.pass_plain.Goals as goal

pub pass_mapped-requires : goal.pass_mapped-requires
pass_mapped-requires c =
    record { width = c.requires; count_bound = (omega arith, omega arith, λ m h. absurd (omega arith)); width_in_bounds = (omega arith, omega arith, omega (arith, total_none (replicate 5 0) (zero_word 5) c.args.mode.width), spread_none (replicate 0 0) 0 (replicate 5 0) (replicate 320 0) (zero_word 5)) }
