-- End theorems: matching, order, least count, demand 2 and the round trip for any number of words, and each at two words and at five.
use Rattle.std.specs.Prelude.{refl, Bool, List, ℕ}
use Rattle.std.proofs.Common.{sym, ap}
use Rattle.ternary.proofs.PatternLaws.{overlaps_law}
use Rattle.records.specs.Record.{value, mask}
use Rattle.records.specs.Checks.{compared_at}
use Rattle.records.proofs.Laws.{order_law}
use Rattle.records.specs.Widths.{Width}
use Rattle.records.proofs.WidthsLaws.{two, five}
use Rattle.records.specs.Editions.{ranked}
use Rattle.records.specs.declared.Rule.{Rule}
use Rattle.insert_plans.proofs.ReplacementsLaws.{replacement_planned}
use Rattle.histories.proofs.InsertedLaws.{inserted_replaced}
use Rattle.histories.proofs.HistoriesLaws.{reached_lookup}
use Rattle.histories.proofs.Demand2Laws.{demand_2_insert, demand_2_delete}
use Rattle.image.proofs.RoundTripLaws.{width_numbered, saved_loads}
use Rattle.promises.specs.AnyWords.{AnyWords, AtWidth}
use Rattle.promises.proofs.KeysOfSlotLaws.{compares}
use Rattle.promises.proofs.EditionsLaws.{editions}
use Rattle.promises.proofs.ReplacementsLaws.{replacements}
use Rattle.promises.proofs.SecondDemandLaws.{second_demand}
use Rattle.promises.proofs.ThirdDemandLaws.{least_words, third_demand}

-- document 02: for any number of words
pub any_words : (w : ℕ) (u : Bool) → AnyWords w u
any_words w u = record {
  matching = λ t i key. compares w t i key (compared_at w t key i) refl;
  overlap = λ a b. overlaps_law w (value a) (mask w a) (value b) (mask w b);
  order = order_law w u;
  least = least_words w u;
  replaces = λ t given s r. (
    replacement_planned w u t given s r,
    λ rules. sym (ap (λ (change : List Rule → List Rule). change rules) (inserted_replaced w u t (ranked w given) s r.replacing)),
  );
  answered = λ history t reached key. reached_lookup reached key;
  inserts = demand_2_insert w u;
  deletes = demand_2_delete w u;
  loads = λ narrow t image bytes words. saved_loads w u t image bytes narrow words;
}

-- and cited for both, of counted and of uncounted tables
at_width : (w : ℕ) (u : Bool) → Width w → AtWidth w u
at_width w u known = record { words = any_words w u; offsets = width_numbered known; second = second_demand w u known; third = third_demand w u known; editions = editions w u known; replacements = replacements w u known }

pub at_two_words : (u : Bool) → AtWidth 2 u
at_two_words u = at_width 2 u two

pub at_five_words : (u : Bool) → AtWidth 5 u
at_five_words u = at_width 5 u five
