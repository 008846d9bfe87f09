-- `loads::load_sized` meets its contract.
-- The call of itself is never made: a table that passes check 1 is no longer than the larger working table. Each width's table fits its own.
use mathlib.Core.Path.{◌≡◌}
use mathlib.Core.List.{List}
use Prim.Native.Nat.{ℕ, ◌+◌, ◌*◌, ◌≤◌, ◌<◌}
use native.Mathlib.Omega.{arith}
use lib.ListN.{length}
use Rattle.records.specs.Order.{slots}
use Rattle.records.specs.Checks.{or_else, check_shape}
use Rattle.records.proofs.Laws.{shape_length}
use Rattle.records.specs.Widths.{Width}
use Rattle.records.specs.Verdict.{Pass}
use Rattle.image.specs.Checks.{image_checks}
use Rattle.image.proofs.LoadLaws.{fields_shape}
use Rattle.loads.proofs.+load_sized.Goals as goal

-- the words of a lent table whose fields pass
long : (w : ℕ) (b t : List ℕ) → or_else (check_shape w t) (image_checks w b (slots w t)) ≡ Pass → length t ≤ 1024 * (2 * w + 2)
long w b t pass = shape_length w t (fields_shape w b t pass)

never : (w : ℕ) (b t : List ℕ) → Width w → or_else (check_shape w t) (image_checks w b (slots w t)) ≡ Pass → 12288 < length t → ⊥
never w b t known pass more = omega (arith, long w b t pass)

pub load_sized-requires : goal.load_sized-requires
load_sized-requires t c = absurd (never _ _ _ c.requires.width c.requires.table_value c.if-table-gt-WIDE_TABLE.true)

pub returns-in-Ok-clause-result_value : goal.returns-in-Ok-clause-result_value
returns-in-Ok-clause-result_value t c = absurd (never _ _ _ c.requires.width c.requires.table_value c.if-table-gt-WIDE_TABLE.true)

pub returns-in-Err-clause-result_value : goal.returns-in-Err-clause-result_value
returns-in-Err-clause-result_value t c = absurd (never _ _ _ c.requires.width c.requires.table_value c.if-table-gt-WIDE_TABLE.true)

pub load_with-requires-clause-width : goal.load_with-requires-clause-width
load_with-requires-clause-width t c =
    let a = c.args in
    (c.requires.width, omega (arith, long a.mode.width a.image.now a.table.now c.requires.table_value), omega arith)
