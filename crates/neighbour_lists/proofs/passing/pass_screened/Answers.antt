-- `neighbour_lists::passing::pass_screened` meets its contract: the words of chosen places begin with no bit set, 256 words are room for 8
-- places, and 2,048 for 64.
use Prim.Native.Nat.{◌*◌}
use native.Mathlib.Omega.{arith}
use Rattle.std.proofs.lemmas.List.{length-take-le}
use Rattle.records.proofs.RulesLaws.{zero_word}
use Rattle.neighbour_lists.proofs.PassLaws.{front_below}
use Rattle.neighbour_lists.proofs.passing.pass_screened.Goals as goal

pub spread_places-requires : goal.spread_places-requires
spread_places-requires c =
    let front = length-take-le c.choose_places-count.result c.choose_places-count.new.places (omega (arith, c.choose_places-count.ensures.0, c.choose_places-count.auto.places)) in
    record { width = (c.requires.0, omega (arith, front, c.choose_places-count.ensures.0), omega arith, omega arith); below = (front_below c.choose_places-count.new.places c.choose_places-count.result (64 * c.args.mode.width) (omega (arith, c.choose_places-count.ensures.0, c.choose_places-count.auto.places)) c.choose_places-count.ensures.1, zero_word 5) }

pub pass_mapped-requires : goal.pass_mapped-requires
pass_mapped-requires c =
    let front = length-take-le c.choose_places-count.result c.choose_places-count.new.places (omega (arith, c.choose_places-count.ensures.0, c.choose_places-count.auto.places)) in
    record { width = c.requires; count_bound = (omega (arith, front, c.if-count-le8.true), omega arith, front_below c.choose_places-count.new.places c.choose_places-count.result (64 * c.args.mode.width) (omega (arith, c.choose_places-count.ensures.0, c.choose_places-count.auto.places)) c.choose_places-count.ensures.1); width_in_bounds = (omega (arith, c.spread_places.auto.chosen), omega (arith, c.spread_places.auto.starts), c.spread_places.ensures.0, c.spread_places.ensures.1) }

pub pass_mapped-requires-2 : goal.pass_mapped-requires-2
pass_mapped-requires-2 c =
    let front = length-take-le c.choose_places-count.result c.choose_places-count.new.places (omega (arith, c.choose_places-count.ensures.0, c.choose_places-count.auto.places)) in
    record { width = c.requires; count_bound = (omega (arith, front, c.choose_places-count.ensures.0), omega arith, front_below c.choose_places-count.new.places c.choose_places-count.result (64 * c.args.mode.width) (omega (arith, c.choose_places-count.ensures.0, c.choose_places-count.auto.places)) c.choose_places-count.ensures.1); width_in_bounds = (omega (arith, c.spread_places.auto.chosen), omega (arith, c.spread_places.auto.starts), c.spread_places.ensures.0, c.spread_places.ensures.1) }
