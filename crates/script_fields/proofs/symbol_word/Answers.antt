-- `script_fields::symbol_word` meets its contract.
-- The word has the bits of the symbols passed; there are never more than 64 of them.
use native.Mathlib.Omega.{arith}
use mathlib.Core.Path.{◌≡◌, refl, ap₂, ap, sym, ◌∙◌}
use mathlib.Core.Bool.{Bool}
use Prim.Native.Nat.{ℕ, ◌+◌, ◌*◌}
use native.Mathlib.Numerals.{add-one}
use lib.ListN.{get_or}
use Rattle.script_fields.specs.Fields.{bit_of, binary, symbol_word}
use Rattle.script_fields.proofs.FieldsLaws.{binary_half, one_if_small}
use Rattle.script_fields.proofs.symbol_word.Goals as goal

pub loop-at-init : goal.loop-at-init
unfolding binary
loop-at-init c = (omega arith, refl)

pub overflow_mul-word : goal.overflow_mul-word
overflow_mul-word c =
    let args = c.args in
    let turn = c.loop-at in
    omega (arith, turn.invariant.1, binary_half (λ (j : ℕ). bit_of args.zeros (get_or args.field.now (args.from + j) 0)) turn.at c.loop-at-test.true)

pub overflow_add-word : goal.overflow_add-word
overflow_add-word c =
    let args = c.args in
    let turn = c.loop-at in
    omega (arith, turn.invariant.1, binary_half (λ (j : ℕ). bit_of args.zeros (get_or args.field.now (args.from + j) 0)) turn.at c.loop-at-test.true, c.bit_at.ensures, one_if_small (bit_of args.zeros (get_or args.field.now (args.from + turn.at) 0)))

pub loop-at-preserved : goal.loop-at-preserved
unfolding binary
loop-at-preserved c =
    let args = c.args in
    let turn = c.loop-at in
    let test : ℕ → Bool = λ j. bit_of args.zeros (get_or args.field.now (args.from + j) 0) in
    (omega arith, ap₂ (λ (w : ℕ) (b : ℕ). w * 2 + b) turn.invariant.1 c.bit_at.ensures ∙ ap (binary test) (sym (add-one turn.at)))

pub returns : goal.returns
unfolding symbol_word
returns c =
    let args = c.args in
    let turn = c.loop-at in
    let all : turn.at ≡ 64 = omega (arith, turn.invariant.0) in
    turn.invariant.1 ∙ ap (binary (λ (j : ℕ). bit_of args.zeros (get_or args.field.now (args.from + j) 0))) all
