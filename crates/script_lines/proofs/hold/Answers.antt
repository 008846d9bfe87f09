-- `script_lines::hold` meets its contract.
-- After each turn one byte more of the piece stands behind the bytes held.
use native.Mathlib.Omega.{arith}
use mathlib.Core.Path.{◌≡◌, refl, ap, sym, ◌∙◌}
use mathlib.Core.List.{List}
use Prim.Native.Nat.{ℕ, ◌+◌}
use native.Mathlib.Numerals.{add-one}
use lib.ListN.{length, get_or, set, length-set}
use lib.Seq.{paste, paste-zero, paste-suc}
use Rattle.script_lines.specs.Held.{room, held_line}
use Rattle.script_lines.proofs.hold.Goals as goal

pub loop-at-init : goal.loop-at-init
loop-at-init c = (omega arith, c.room_for-count.ensures, refl, paste-zero c.args.line.now c.args.held c.args.piece.now)

pub loop-at-preserved : goal.loop-at-preserved
loop-at-preserved c =
    let turn = c.loop-at in
    let args = c.args in
    let step = paste-suc args.line.now args.held args.piece.now turn.at 0 (omega arith) (omega arith) in (
      omega arith,
      turn.invariant.1,
      simp length-set turn.invariant.2,
      ap (λ (l : List ℕ). set l (args.held + turn.at) (get_or args.piece.now turn.at 0)) turn.invariant.3
          ∙ step ∙ ap (λ (n : ℕ). paste args.line.now args.held args.piece.now n) (sym (add-one turn.at)),
    )

pub returns : goal.returns
unfolding held_line
returns c =
    let args = c.args in
    let turn = c.loop-at in
    let all : turn.at ≡ room (length args.line.now) args.held (length args.piece.now) = omega arith in
    record { value = omega arith; line_after = turn.invariant.3 ∙ ap (paste args.line.now args.held args.piece.now) all }
