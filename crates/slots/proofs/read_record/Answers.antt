-- `slots::read_record` meets its contract.
-- The words below the loop's are the slot's.
use mathlib.Core.Path.{◌≡◌, refl, sym, ◌∙◌}
use Prim.Native.Nat.{ℕ}
use native.Mathlib.Omega.{arith}
use lib.ListN.{get_or, set, length-set}
use lib.Seq.{get_or-set_same, get_or-set_other}
use Rattle.search.specs.SearchLaws.{below_suc}
use Rattle.records.specs.Record.{record_words, slot_words}
use Rattle.records.proofs.RulesLaws.{listed_words, listed_cong}
use Rattle.slots.proofs.read_record.Goals as goal

pub loop-index-init : goal.loop-index-init
loop-index-init c = (omega arith, refl, λ j h. absurd (omega arith))

pub slot_word-requires : goal.slot_word-requires
slot_word-requires c = (c.requires.0, c.requires.1, omega arith)

pub loop-index-preserved : goal.loop-index-preserved
loop-index-preserved c =
    let l = c.loop-index in
    let a = c.args in
    let same = length-set l.words l.index c.slot_word.result in (
      omega arith,
      same ∙ l.invariant.1,
      λ j h. below_suc (λ (k : ℕ). get_or (set l.words l.index c.slot_word.result) k 0 ≡ slot_words a.width a.table.now a.slot k) l.index
          (λ k b. get_or-set_other l.words l.index k c.slot_word.result 0 (λ e. omega arith) ∙ l.invariant.2 k b)
          (get_or-set_same l.words l.index c.slot_word.result 0 (omega arith) ∙ c.slot_word.ensures)
          j (omega arith),
    )

pub returns : goal.returns
returns c =
    let l = c.loop-index in
    sym (listed_words (record_words c.args.width) l.words (omega arith)) ∙ listed_cong (record_words c.args.width) (λ j h. l.invariant.2 j (omega arith))
