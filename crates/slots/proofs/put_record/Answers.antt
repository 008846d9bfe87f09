-- `slots::put_record` meets its contract.
-- The words below the loop's are copied into the slot, and the rest of the table is as it was.
use mathlib.Core.Path.{◌≡◌, refl, sym, ap, ◌∙◌}
use mathlib.Core.List.{List, ◌++◌}
use Prim.Native.Nat.{ℕ, ◌+◌, ◌*◌}
use native.Mathlib.Omega.{arith}
use native.Mathlib.Numerals.{add-one}
use lib.ListN.{get_or, set, take, drop, length-set}
use lib.Seq.{paste, paste-zero, paste-suc, take_all}
use Rattle.records.specs.Record.{record_words, put_slot}
use Rattle.records.proofs.Laws.{slot_within}
use Rattle.slots.proofs.put_record.Goals as goal

pub overflow_mul-first : goal.overflow_mul-first
overflow_mul-first c = rw c.record_words.ensures (omega (arith, slot_within c.args.width c.args.table.now c.args.slot c.requires.1))

pub loop-index-init : goal.loop-index-init
loop-index-init c = (
  omega arith,
  rw c.record_words.ensures (omega (arith, slot_within c.args.width c.args.table.now c.args.slot c.requires.1)),
  refl,
  paste-zero c.args.table.now (c.args.slot * c.record_words.result) c.args.words.now,
)

pub loop-index-preserved : goal.loop-index-preserved
loop-index-preserved c =
    let l = c.loop-index in
    let t = c.args.table.now in
    let words = c.args.words.now in
    let first = c.args.slot * c.record_words.result in (
      omega arith,
      l.invariant.1,
      length-set l.table _ _ ∙ l.invariant.2,
      ap (λ (u : List ℕ). set u (first + l.index) (get_or words l.index 0)) l.invariant.3
          ∙ (paste-suc t first words l.index 0 (omega arith) (omega arith) ∙ ap (paste t first words) (sym (add-one l.index))),
    )

pub returns : goal.returns
unfolding put_slot
returns c =
    let t = c.args.table.now in
    let words = c.args.words.now in
    let stride = record_words c.args.width in
    let first = c.args.slot * stride in
    let done : c.loop-index.index ≡ stride = omega arith in
    c.loop-index.invariant.3
    ∙ (ap (λ (n : ℕ). paste t (c.args.slot * n) words c.loop-index.index) c.record_words.ensures
    ∙ (ap (paste t first words) done ∙ ap (λ (x : List ℕ). take first t ++ x ++ drop (first + stride) t) (take_all stride words (omega arith))))
