-- `writes::clear_slot` meets its contract.
-- The front of a record of zeros is an empty slot's record.
use mathlib.Core.Path.{◌≡◌, ap, ◌∙◌}
use mathlib.Core.Logic.{◌⊎◌}
use mathlib.Core.Logic.◌⊎◌.{inl, inr}
use Prim.Native.Nat.{ℕ, ◌-◌}
use lib.ListN.{take, replicate}
use Rattle.records.specs.Record.{record_words, put_slot}
use Rattle.records.specs.Entries.{vacant}
use Rattle.records.specs.Widths.{Width}
use Rattle.writes.proofs.clear_slot.Goals as goal

-- at two words and at five
front : (w r : ℕ) → Width w → r ≡ record_words w → take {A = ℕ} (r - 0) (replicate 12 0) ≡ vacant w
front w r known f = by known.2
  where
    by : (w ≡ 2) ⊎ (w ≡ 5) → take {A = ℕ} (r - 0) (replicate 12 0) ≡ vacant w
    by (inl e) = rw (f, e)
    by (inr e) = rw (f, e)

pub returns : goal.returns
returns c =
    let w = c.args.width in
    c.put_record.ensures
    ∙ ap (put_slot w c.args.table.now c.args.slot) (front w _ c.requires.0 c.record_words.ensures)
