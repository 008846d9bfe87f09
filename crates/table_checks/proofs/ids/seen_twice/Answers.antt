-- `table_checks::ids::seen_twice` meets its contract.
-- An id whose bit is not set stands in no earlier slot.
use mathlib.Core.Path.{◌≡◌, sym, ap, ◌∙◌}
use mathlib.Core.Bool.{false}
use Prim.Native.Nat.{ℕ, ◌/◌, ◌%◌}
use lib.ListN.{get_or}
use Rattle.bitmaps.specs.Flags.{on}
use Rattle.table_checks.specs.Ids.{seen_at}
use Rattle.table_checks.specs.IdsLaws.{unlisted, unseen}
use Rattle.table_checks.proofs.ids.seen_twice.Goals as goal

pub returns-else-has_bit : goal.returns-else-has_bit
unfolding seen_at
returns-else-has_bit c =
    let ids = c.args.ids.now in
    let seen = c.args.seen.now in
    let slot = c.args.slot in
    let no = c.if-has_bit.false in
    let off : seen_at seen (get_or ids slot 0) ≡ false
    = ap (λ (p : ℕ). on (get_or seen (p / 64) 0) (p % 64)) (sym c.seen_place-place.ensures) ∙ (sym c.has_bit.ensures ∙ no) in
    no ∙ sym (unlisted _ c.args.table.now ids _ slot c.requires.id_column.0 c.requires.width.1 (unseen ids seen slot c.requires.id_column.1 off))
