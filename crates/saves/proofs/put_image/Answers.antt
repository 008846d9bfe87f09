-- `saves::put_image` meets its contract.
-- Behind the header stand the rules, and past the image what stood there.
use mathlib.Core.Path.{ap, ◌∙◌}
use Prim.Native.Nat.{ℕ}
use Rattle.image.specs.Bytes.{bytes_of, store}
use Rattle.image.proofs.SaveLaws.{image_stored}
use Rattle.image.specs.Format.{stored}
use Rattle.saves.proofs.put_image.Goals as goal

pub returns : goal.returns
returns c =
    let a = c.args in
    let asked = c.requires in
    let first = c.put_number in
    let second = c.put_number-2 in
    image_stored a.width a.table.now a.image.now (rw asked.2 at asked.3)
    (first.ensures ∙ ap (λ (n : ℕ). store a.image.now 0 (bytes_of 2 n)) c.slot_count.ensures)
    (second.ensures ∙ ap (λ (n : ℕ). store first.new.image 2 (bytes_of 2 n)) asked.2)
    (c.put_rules.ensures ∙ ap (stored a.width a.table.now second.new.image) asked.2)
