-- `saves::put_body` meets its contract.
-- Each field is stored behind the one before.
use mathlib.Core.Path.{ap, ◌∙◌}
use mathlib.Core.List.{◌++◌}
use Prim.Native.Nat.{ℕ, ◌+◌, ◌*◌, ◌%◌}
use native.Mathlib.Omega.{arith}
use lib.ListN.{length-append}
use Rattle.records.specs.Record.{slot_words, rank, action}
use Rattle.image.specs.Bytes.{bytes_of, pieces, store}
use Rattle.image.specs.Format.{body_of}
use Rattle.image.proofs.SaveLaws.{words_length}
use Rattle.image.proofs.BytesLaws.{length_bytes, store_then}
use Rattle.saves.proofs.put_body.Goals as goal

pub returns : goal.returns
unfolding body_of
returns c =
    let a = c.args in
    let stored = c.put_words in
    let ranked = c.put_number in
    let tail = a.at + 16 * a.width in
    let x = slot_words a.width a.table.now a.slot in
    let words = pieces (λ j. bytes_of 8 (x j)) (2 * a.width) in
    let last = bytes_of 4 (rank a.width x) in
    store_then a.image.now a.at (tail + 4) (words ++ last) (bytes_of 4 (action a.width x)) (omega arith)
    (omega (arith, length-append words last, words_length a.width x, length_bytes 4 (rank a.width x)))
    (store_then a.image.now a.at tail words last (omega arith) (omega (arith, words_length a.width x)) stored.ensures
    (ranked.ensures ∙ ap (λ (n : ℕ). store stored.new.image tail (bytes_of 4 n)) c.slot_rank.ensures))
    (c.put_number-2.ensures
    ∙ ap (λ (n : ℕ). store ranked.new.image (tail + 4) (bytes_of 4 (n % 4294967296))) c.named_word.ensures)
