-- `saves::put_words` meets its contract.
-- The first four words are stored, then those passed, one behind another.
use mathlib.Core.Path.{◌≡◌, refl, sym, ap, ◌∙◌}
use mathlib.Core.List.{List}
use Prim.Native.Nat.{ℕ, ◌+◌, ◌*◌, ◌≤◌}
use native.Mathlib.Numerals.{add-one}
use native.Mathlib.Omega.{arith}
use lib.ListN.{length}
use Rattle.records.specs.Record.{slot_words}
use Rattle.image.specs.Bytes.{bytes_of, store, pieces}
use Rattle.image.proofs.BytesLaws.{length_bytes, pieces_length, store_none, store_then}
use Rattle.saves.proofs.put_words.Goals as goal

-- one word more is stored
word-stored : (b : List ℕ) (at next : ℕ) (f : ℕ → ℕ) (n : ℕ) {c d : List ℕ} {word : ℕ} → at ≤ length b → next ≡ at + n * 8
    → c ≡ store b at (pieces (λ (j : ℕ). bytes_of 8 (f j)) n) → word ≡ f n → d ≡ store c next (bytes_of 8 word)
    → d ≡ store b at (pieces (λ (j : ℕ). bytes_of 8 (f j)) (n + 1))
unfolding pieces
word-stored b at next f n {c} h e before same stored =
    rw (add-one n)
    (store_then b at next (pieces (λ (j : ℕ). bytes_of 8 (f j)) n) (bytes_of 8 (f n)) h
    (omega (arith, pieces_length (λ (j : ℕ). bytes_of 8 (f j)) 8 (λ k. length_bytes 8 (f k)) n)) before
    (stored ∙ ap (λ (m : ℕ). store c next (bytes_of 8 m)) same))

pub loop-word-init : goal.loop-word-init
loop-word-init c =
    let asked = c.requires in (
      omega (arith, asked.0.0),
      omega arith,
      refl,
      λ b h e. e,
    )

pub overflow_mul-word : goal.overflow_mul-word
overflow_mul-word c =
    let asked = c.requires in
    omega (arith, c.loop-word.invariant.0, asked.0.1)

pub overflow_add-at-in-loop-word : goal.overflow_add-at-in-loop-word
overflow_add-at-in-loop-word c =
    omega arith

pub slot_word-requires-in-loop-word : goal.slot_word-requires-in-loop-word
slot_word-requires-in-loop-word c =
    let asked = c.requires in
    (asked.0, asked.2, omega arith)

pub put_number-requires-in-loop-word : goal.put_number-requires-in-loop-word
put_number-requires-in-loop-word c = omega (arith, c.loop-word.invariant.1)

pub loop-word-preserved : goal.loop-word-preserved
loop-word-preserved c =
    let turn = c.loop-word in
    let a = c.args in (
      omega arith,
      omega arith,
      omega arith,
      λ b h e. word-stored b a.at (a.at + turn.word * 8) (slot_words a.width a.table.now a.slot) turn.word h refl (turn.invariant.3 b h e) c.slot_word-in-loop-word.ensures c.put_number-in-loop-word.ensures,
    )

pub returns : goal.returns
unfolding pieces
returns c =
    let a = c.args in
    let f = slot_words a.width a.table.now a.slot in
    let inside : a.at ≤ length a.image.now = omega (arith, c.requires.1) in
    let end : c.loop-word.word ≡ 2 * a.width = omega arith in
    let first = c.put_number in
    let second = c.put_number-2 in
    let third = c.put_number-3 in
    let fourth = c.put_number-4 in
    c.loop-word.invariant.3 a.image.now inside
    (word-stored a.image.now a.at (a.at + 24) f 3 inside (omega arith)
    (word-stored a.image.now a.at (a.at + 16) f 2 inside (omega arith)
    (word-stored a.image.now a.at (a.at + 8) f 1 inside (omega arith)
    (word-stored a.image.now a.at a.at f 0 inside (omega arith)
    (sym (store_none a.image.now a.at))
    c.slot_word.ensures first.ensures)
    c.slot_word-2.ensures second.ensures)
    c.slot_word-3.ensures third.ensures)
    c.slot_word-4.ensures fourth.ensures)
    ∙ ap (λ (n : ℕ). store a.image.now a.at (pieces (λ (j : ℕ). bytes_of 8 (f j)) n)) end
