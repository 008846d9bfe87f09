-- `script_commands::after_id` meets its contract.
-- One field is left, which makes three in all, or more.
use native.Mathlib.Omega.{arith}
use mathlib.Core.Path.{sym, ap, ◌∙◌}
use mathlib.Core.List.{List, ◌∷◌}
use Prim.Native.Nat.{ℕ}
use lib.Seq.{length-take-le}
use Rattle.script_commands.specs.Commands.{after_letter}
use Rattle.script_commands.specs.LineLaws.{one_field, more_fields}
use Rattle.script_commands.proofs.after_id.Goals as goal

pub returns-then-rest-end : goal.returns-then-rest-end
returns-then-rest-end c =
    let args = c.args in
    sym (ap (λ (fs : List (List ℕ)). after_letter args.letter (args.id.now ∷ fs)) (one_field args.rest.now c.part_end-end.result c.part_end-end.ensures c.if-rest-end.true))

pub slice_bounds-after_priority-end : goal.slice_bounds-after_priority-end
slice_bounds-after_priority-end c = sym (length-take-le c.part_end-end.result c.args.rest.now (omega (arith, c.if-rest-end.false)))

pub returns : goal.returns
returns c =
    let args = c.args in
    let end = c.part_end-end in
    c.after_priority.ensures
    ∙ sym (ap (λ (fs : List (List ℕ)). after_letter args.letter (args.id.now ∷ fs)) (more_fields args.rest.now end.result end.ensures c.if-rest-end.false))
