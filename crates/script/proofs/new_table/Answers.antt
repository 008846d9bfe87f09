-- `script::new_table` meets its contract.
-- Slots made are empty, and a refused T leaves the table.
use mathlib.Core.Path.{sym, ap, ◌∙◌}
use Prim.Native.Nat.{ℕ, ◌*◌}
use lib.ListN.{replicate}
use lib.Seq.{length-take-le}
use Rattle.script.proofs.ToldLaws.{table_told_lem, table_untold}
use Rattle.script.proofs.ScriptLaws.{slots_fit, table_made, table_refused}
use Rattle.script.proofs.new_table.Goals as goal

pub slice_bounds-fill-end : goal.slice_bounds-fill-end
slice_bounds-fill-end c = slots_fit c.args.memory.now c.args.slots c.requires.0 c.if-count.true

pub slice_bounds-fill-end-then-count : goal.slice_bounds-fill-end-then-count
slice_bounds-fill-end-then-count c = sym (length-take-le (c.args.slots * 6) c.args.memory.now (slots_fit c.args.memory.now c.args.slots c.requires.0 c.if-count.true))

pub returns-then-count : goal.returns-then-count
returns-then-count c =
    let good = c.if-count.true in
    let fit = slots_fit c.args.memory.now c.args.slots c.requires.0 good in record {
      left = table_made c.args.memory.now c.args.present c.args.slots c.requires.0 c.requires.1 good
          (c.fill.ensures.after (λ y e. e) ∙ ap (λ (n : ℕ). replicate n 0) (length-take-le (c.args.slots * 6) c.args.memory.now fit)) c.print_table-length.ensures;
      answer_value = table_told_lem c.args.slots good;
    }

pub returns : goal.returns
returns c =
    record { left = table_refused c.args.memory.now c.args.present c.args.slots c.requires.0 c.requires.1 c.if-count.false c.refuse-length.ensures; answer_value = table_untold c.args.slots c.if-count.false }
