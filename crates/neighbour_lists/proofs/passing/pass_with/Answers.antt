-- `neighbour_lists::passing::pass_with` meets its contract: in words that are all zero no slot is taken.
use lib.ListN.{replicate}
use native.Mathlib.Omega.{arith}
use Rattle.records.proofs.RulesLaws.{zero_word}
use Rattle.neighbour_lists.proofs.PassLaws.{taken_start}
use Rattle.neighbour_lists.proofs.passing.pass_with.Goals as goal

pub take_slots-requires : goal.take_slots-requires
take_slots-requires c =
    let a = c.args in
    let maps = c.requires.count_in_bounds in
    let places = c.requires.width_in_bounds in record {
      width = (c.requires.width.0, c.requires.width.1, c.requires.width.2);
      room = record {
        numbers = c.requires.width.3;
        blocks = omega arith;
        blocks_free = omega arith;
        blocks_low = omega arith;
        rows = maps.0;
        few = maps.1;
        words = places.0;
        by_place = places.1;
        row_others = maps.1;
        row_own = maps.1;
        inside = maps.2;
        bits = places.2;
        spread = places.3;
      };
      taken = taken_start a.mode.width a.mode.uncounted a.table.now a.places.now a.near.now (replicate 16 0) (replicate 16 0) (replicate 16 65536) a.maps.now (zero_word 16) (zero_word 16) c.requires.by_index;
    }
