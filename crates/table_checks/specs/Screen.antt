-- The screen of a lookup: slots that the first two words of a key tell from those that match. A lookup passes over them, and compares the others exactly.
-- For any width; of two words or more, every slot that matches passes it.
use Rattle.std.specs.Prelude.{Bool, not, ◌&&◌, List, ℕ, ◌*◌, eqb}
use Rattle.ternary.specs.Word.{agree}
use Rattle.records.specs.Record.{slot_words, value, mask}

-- slot i has an id or an action, and a key with these first two words agrees with the first two of its pattern
unfoldable pub may_match : ℕ → List ℕ → ℕ → ℕ → ℕ → Bool
may_match w t first second i =
    agree first (value (slot_words w t i) 0) (mask w (slot_words w t i) 0)
    && agree second (value (slot_words w t i) 1) (mask w (slot_words w t i) 1)
    && not (eqb (slot_words w t i (2 * w)) 0)
