-- `script::insert_in` meets its contract.
-- The words past the table stay.
use mathlib.Core.Path.{◌≡◌, sym, ◌∙◌}
use native.Mathlib.Omega.{arith}
use Prim.Native.Nat.{◌*◌}
use lib.ListN.{length, take}
use lib.Seq.{length-take-le}
use borrow.Author.Rules.{rules}
use Rattle.script.proofs.ScriptLaws.{left_changed}
use Rattle.script.proofs.insert_in.Goals as goal

pub slice_bounds-insert_line-end-2 : goal.slice_bounds-insert_line-end-2
slice_bounds-insert_line-end-2 c = sym (length-take-le _ c.args.memory.now (omega (arith, c.requires.0, c.requires.1)))

pub returns : goal.returns
returns c =
    let a = c.args in
    let kept : length c.insert_line-said.new.table ≡ length (take (a.present * 6) a.memory.now) = search rules in record { left = left_changed a.memory.now a.present c.requires.0 c.requires.1 (kept ∙ length-take-le (a.present * 6) a.memory.now (omega (arith, c.requires.0, c.requires.1))) c.insert_line-said.ensures.changed; answer_value = c.insert_line-said.ensures.answer_value }
