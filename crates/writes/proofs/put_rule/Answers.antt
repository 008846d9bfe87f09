-- `writes::put_rule` meets its contract.
-- The lent record's words, and then the rank for the last of them.
use mathlib.Core.Path.{◌≡◌, ap, ap₂, ◌∙◌}
use mathlib.Core.List.{List}
use Prim.Native.Nat.{ℕ, ◌+◌, ◌*◌}
use native.Mathlib.Omega.{arith}
use lib.ListN.{length, set}
use Rattle.records.specs.Record.{record_words, put_slot}
use Rattle.records.proofs.Laws.{slot_within}
use Rattle.records.proofs.PutSlotLaws.{put_length, put_word}
use Rattle.records.proofs.EditionsLaws.{given_law, ranked_record_lem}
use Rattle.records.specs.Editions.{lent_rule, lent_rank}
use Rattle.writes.proofs.put_rule.Goals as goal

pub overflow_mul-table : goal.overflow_mul-table
overflow_mul-table c =
    rw c.record_words.ensures (omega (arith, slot_within c.args.width c.args.table.now c.args.to c.requires.width.1))

pub overflow_add-table : goal.overflow_add-table
overflow_add-table c =
    rw c.record_words.ensures (omega (arith, slot_within c.args.width c.args.table.now c.args.to c.requires.width.1))

pub overflow_add-table-2 : goal.overflow_add-table-2
overflow_add-table-2 c =
    rw c.record_words.ensures (omega (arith, slot_within c.args.width c.args.table.now c.args.to c.requires.width.1))

pub offset_bounds-table-to : goal.offset_bounds-table-to
offset_bounds-table-to c =
    rw c.record_words.ensures (omega (arith, slot_within c.args.width c.args.table.now c.args.to c.requires.width.1))

pub bounds-table-to : goal.bounds-table-to
bounds-table-to c =
    let a = c.args in
    let size = ap length c.put_record.ensures ∙ put_length a.width a.table.now a.to a.rule.now c.requires.width.1 c.requires.width.2 in
    rw c.record_words.ensures (omega (arith, size, slot_within a.width a.table.now a.to c.requires.width.1))

pub returns : goal.returns
returns c =
    let a = c.args in
    let w = a.width in
    let last = 2 * w + 1 in
    let rank = lent_rank w a.edition a.rule.now in
    let place : a.to * c.record_words.result + 2 * w + 1 ≡ a.to * record_words w + last =
    ap (λ (n : ℕ). a.to * n + 2 * w + 1) c.record_words.ensures ∙ omega arith in
    let sound = ((given_law w (lent_rule w a.edition a.rule.now)).0 c.requires.rule_value).0 in
    ap₂ (λ (l : List ℕ) (r : ℕ). set l (a.to * c.record_words.result + 2 * w + 1) r) c.put_record.ensures c.given_rank.ensures
    ∙ (ap (λ (k : ℕ). set (put_slot w a.table.now a.to a.rule.now) k rank) place
    ∙ (put_word w a.table.now a.to a.rule.now c.requires.width.1 c.requires.width.2 last rank (omega arith)
    ∙ ap (put_slot w a.table.now a.to) (ranked_record_lem w a.edition a.rule.now c.requires.width.2 sound)))
