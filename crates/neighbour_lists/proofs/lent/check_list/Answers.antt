-- `neighbour_lists::lent::check_list` meets its contract.
use mathlib.Core.Path.{ap, ◌∙◌}
use Prim.Native.Nat.{ℕ, ◌*◌}
use native.Mathlib.Omega.{arith}
use Rattle.records.specs.Widths.{check_words}
use Rattle.neighbour_lists.proofs.LentLaws.{numbers_few}
use Rattle.neighbour_lists.proofs.lent.check_list.Goals as goal

pub overflow_mul-slot_count : goal.overflow_mul-slot_count
overflow_mul-slot_count c =
    omega (arith, c.slot_count.ensures, numbers_few c.args.width c.args.table.now c.requires)

pub returns : goal.returns
returns c =
    c.check_words.ensures ∙ ap (λ (n : ℕ). check_words c.args.numbers (2 * n)) c.slot_count.ensures
