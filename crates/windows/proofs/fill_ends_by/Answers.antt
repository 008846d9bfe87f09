-- `windows::fill_ends_by` meets its contract.
-- The positions below the loop's have their numbers, and the rest of the array is as it was.
use mathlib.Core.Path.{◌≡◌, refl, ap, ap₂, ◌∙◌}
use mathlib.Core.List.{List, ◌++◌}
use Prim.Native.Nat.{ℕ}
use native.Mathlib.Omega.{arith}
use lib.ListN.{drop, set, length-set}
use Rattle.records.specs.Record.{listed}
use Rattle.records.specs.Order.{slots}
use Rattle.windows.specs.Windows.{end_at}
use Rattle.windows.specs.WindowsLaws.{fill_next}
use Rattle.windows.proofs.fill_ends_by.Goals as goal

pub loop-position-init : goal.loop-position-init
unfolding listed
loop-position-init c = (omega arith, refl, refl)

pub end_at-requires : goal.end_at-requires
end_at-requires c = record { width = (c.requires.width.0, c.requires.width.1, omega arith, c.requires.width.3); table_value = c.requires.table_value }

pub loop-position-preserved : goal.loop-position-preserved
loop-position-preserved c =
    let a = c.args in
    let inv = c.loop-position.invariant in
    let i = c.loop-position.position in (
      omega arith,
      length-set c.loop-position.ends i c.end_at.result ∙ inv.1,
      ap₂ (λ (l : List ℕ) (v : ℕ). set l i v) inv.2 c.end_at.ensures ∙ fill_next (end_at a.mode.width a.mode.uncounted a.table.now a.up) a.ends.now i (omega arith),
    )

pub returns : goal.returns
returns c =
    let a = c.args in
    let done : c.loop-position.position ≡ slots a.mode.width a.table.now = omega arith in
    c.loop-position.invariant.2 ∙ ap (λ (n : ℕ). listed n (end_at a.mode.width a.mode.uncounted a.table.now a.up) ++ drop n a.ends.now) done
