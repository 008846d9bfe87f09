-- Document 01's comparison class on plan words: by the layout's class, and in plain terms on the table's words.
use Rattle.std.specs.Prelude.{◌≡◌, Bool, true, List, map, ℕ, suc, ◌<◌, length, get_or, take}
use Rattle.layout.specs.Write.{copy, put}
use Rattle.layout.specs.Class.{InClass}
use Rattle.plan_words.specs.PlanWords.{write_of}
use Rattle.records.specs.Record.{record_of}
use Rattle.records.specs.Order.{InOrder}
use Rattle.records.specs.Entries.{vacant, entries, entry_occupied, entry_same, entry_misordered}
use Rattle.records.specs.Writes.{apply_words, fits_word}
use Rattle.records.specs.declared.Rule.{Rule}

-- the words whose writes are in document 01's comparison class, from the table and rule of the plan
abbrev pub InClassWords : ℕ → Bool → List ℕ → Rule → List ℕ → Type 0
InClassWords w u t r ns = InClass (vacant w) (entry_occupied w) (entry_same w) (entry_misordered w u) (record_of w r) (entries w t) (map write_of ns)

-- The class by the table's words alone, one way: each word but the last copies toward that way, the last puts the new rule in; each word fits,
-- so that no rule is lost; after each the table is in order.
pub record ClassToward (toward : ℕ → ℕ → Type 0) (w : ℕ) (u : Bool) (t : List ℕ) (r : Rule) (ns : List ℕ) : Type 0 where
  pub some : 0 < length ns
  pub copies : (k : ℕ) → suc k < length ns → (from : ℕ) × (to : ℕ) × (write_of (get_or ns k 0) ≡ copy from to) × toward from to
  pub last : (k : ℕ) → suc k ≡ length ns → (to : ℕ) × (write_of (get_or ns k 0) ≡ put to)
  pub fits : (k : ℕ) → k < length ns → fits_word w (apply_words w t r (take k ns)) (get_or ns k 0) ≡ true
  pub order : (k : ℕ) → k < length ns → InOrder w u (apply_words w t r (take (suc k) ns))
