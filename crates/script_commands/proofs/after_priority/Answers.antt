-- `script_commands::after_priority` meets its contract.
-- One field, three or more, or exactly two are left; the letter decides the last.
use native.Mathlib.Omega.{arith}
use mathlib.Core.Path.{sym, ap}
use mathlib.Core.List.{List, ◌∷◌}
use Prim.Native.Nat.{ℕ}
use borrow.Author.Tests.{eq-eqb, ne_eqb}
use lib.Seq.{length-take-le}
use Rattle.script_commands.specs.Commands.{after_letter, long_command}
use Rattle.script_commands.specs.LineLaws.{one_field, last_field, field_more}
use Rattle.script_commands.proofs.after_priority.Goals as goal

pub returns-then-rest-end : goal.returns-then-rest-end
returns-then-rest-end c =
    let args = c.args in
    sym (ap (λ (fs : List (List ℕ)). after_letter args.letter (args.id.now ∷ args.priority.now ∷ fs)) (one_field args.rest.now c.part_end-end.result c.part_end-end.ensures c.if-rest-end.true))

pub returns-then-last-rest : goal.returns-then-last-rest
returns-then-last-rest c =
    let args = c.args in
    let end = c.part_end-end in
    let more = field_more args.rest.now end.result end.ensures c.part_end-last.result c.part_end-last.ensures c.if-rest-end.false c.if-last-rest.true in
    sym (ap (λ (fs : List (List ℕ)). after_letter args.letter (args.id.now ∷ args.priority.now ∷ fs)) more.3)

pub slice_bounds-insert_command-end : goal.slice_bounds-insert_command-end
slice_bounds-insert_command-end c = sym (length-take-le c.part_end-end.result c.args.rest.now (omega (arith, c.if-rest-end.false)))

pub returns-then-letter-eq73 : goal.returns-then-letter-eq73
unfolding long_command
returns-then-letter-eq73 c =
    let args = c.args in
    let end = c.part_end-end in
    let last = c.part_end-last in
    rw (last_field args.rest.now end.result end.ensures last.result last.ensures c.if-rest-end.false c.if-last-rest.false, eq-eqb _ _ c.if-letter-eq73.true)
    c.insert_command.ensures

pub returns : goal.returns
unfolding long_command
returns c =
    let args = c.args in
    let end = c.part_end-end in
    let last = c.part_end-last in
    rw (last_field args.rest.now end.result end.ensures last.result last.ensures c.if-rest-end.false c.if-last-rest.false, ne_eqb _ _ c.if-letter-eq73.false)
