-- End theorems on the sizes of an image and its parts, and how stores rule by rule become the image of a table.
-- A rule's entry and body go to places of their own, so that the stores of one pass over the slots may be read as two rows.
use Rattle.std.specs.Prelude.{◌≡◌, refl, Bool, true}
use Rattle.std.proofs.Math.Path.{sym, ap}
use Rattle.std.proofs.Common.{◌∙◌, mul-add, suc-mul, zero-add, mul-le-mul_left, mul-le-mul_right}
use mathlib.Core.List.{List, [], ◌++◌}
use Prim.Native.Nat.{ℕ, suc, ◌+◌, ◌*◌, ◌≤◌, ◌<◌}
use native.Mathlib.Omega.{arith}
use Rattle.std.proofs.Math.ListN.{length, drop, length-append}
use Rattle.ternary.specs.Pattern.{Words}
use Rattle.records.specs.Record.{slot_words, ident, action, rank}
use Rattle.records.specs.Order.{slots}
use Rattle.records.specs.Checks.{or_else, check_shape, check_records, check_twice, check_order, slot_checks, table_checks}
use Rattle.records.proofs.Laws.{or_else_pass}
use Rattle.records.specs.Verdict.{Pass}
use Rattle.records.proofs.EntriesLaws.{shaped_slots}
use Rattle.buffers.specs.Buffers.{buffer_answer}
use Rattle.image.specs.Answers.{save_answer}
use Rattle.image.specs.Bytes.{bytes_of, store, pieces, Bytes}
use Rattle.image.specs.Indices.{indices, index}
use Rattle.image.specs.Format.{body_bytes, image_bytes, entry_place, body_place, entry_of, body_of, holds, rule_count, rule_slot, entry_bytes, rule_bytes}
use Rattle.image.specs.Format.{stored, image_of}
use Rattle.image.proofs.BytesLaws.{append_in_bytes, number_in_bytes, pieces_in_bytes, length_bytes, pieces_length, store_none, store_length, store_next, store_then, store_swap}
use Rattle.image.proofs.IndicesLaws.{count_high, index_at}

pub entry_length : (id slot body : ℕ) → length (entry_of id slot body) ≡ 10
unfolding entry_of
entry_length id slot body =
    length-append (bytes_of 4 id ++ bytes_of 2 slot) (bytes_of 4 body)
    ∙ omega (arith, length-append (bytes_of 4 id) (bytes_of 2 slot), length_bytes 4 id, length_bytes 2 slot, length_bytes 4 body)

pub words_length : (w : ℕ) (x : Words) → length (pieces (λ j. bytes_of 8 (x j)) (2 * w)) ≡ 2 * w * 8
words_length w x = pieces_length (λ j. bytes_of 8 (x j)) 8 (λ j. length_bytes 8 (x j)) (2 * w)

pub body_length : (w : ℕ) (x : Words) → length (body_of w x) ≡ body_bytes w
unfolding body_of
body_length w x =
    let words = pieces (λ j. bytes_of 8 (x j)) (2 * w) in
    length-append (words ++ bytes_of 4 (rank w x)) (bytes_of 4 (action w x))
    ∙ omega (arith, length-append words (bytes_of 4 (rank w x)), words_length w x, length_bytes 4 (rank w x), length_bytes 4 (action w x))

-- the image of every table is bytes, as what is said of loading it again asks
entry_in_bytes : (id slot body : ℕ) → Bytes (entry_of id slot body)
unfolding entry_of
entry_in_bytes id slot body =
    append_in_bytes (bytes_of 4 id ++ bytes_of 2 slot) (bytes_of 4 body)
    (append_in_bytes (bytes_of 4 id) (bytes_of 2 slot) (number_in_bytes 4 id) (number_in_bytes 2 slot)) (number_in_bytes 4 body)

body_in_bytes : (w : ℕ) (x : Words) → Bytes (body_of w x)
unfolding body_of
body_in_bytes w x =
    let words = pieces (λ j. bytes_of 8 (x j)) (2 * w) in
    append_in_bytes (words ++ bytes_of 4 (rank w x)) (bytes_of 4 (action w x))
    (append_in_bytes words (bytes_of 4 (rank w x)) (pieces_in_bytes (λ j. bytes_of 8 (x j)) (2 * w) (λ j. number_in_bytes 8 (x j))) (number_in_bytes 4 (rank w x)))
    (number_in_bytes 4 (action w x))

pub image_in_bytes : (w : ℕ) (t : List ℕ) → Bytes (image_of w t)
unfolding image_of entry_bytes rule_bytes
image_in_bytes w t =
    let header = bytes_of 2 (slots w t) ++ bytes_of 2 (rule_count w t) in
    let contents = pieces (entry_bytes w t) (rule_count w t) in
    append_in_bytes (header ++ contents) (pieces (rule_bytes w t) (rule_count w t))
    (append_in_bytes header contents
    (append_in_bytes (bytes_of 2 (slots w t)) (bytes_of 2 (rule_count w t)) (number_in_bytes 2 (slots w t)) (number_in_bytes 2 (rule_count w t)))
    (pieces_in_bytes (entry_bytes w t) (rule_count w t)
    (λ k. entry_in_bytes (ident w (slot_words w t (rule_slot w t k))) (rule_slot w t k) (body_place w (rule_count w t) k))))
    (pieces_in_bytes (rule_bytes w t) (rule_count w t) (λ k. body_in_bytes w (slot_words w t (rule_slot w t k))))

-- an image's bytes: header, contents, bodies
pub image_bytes_lem : (w e : ℕ) → image_bytes w e ≡ 4 + e * 10 + e * body_bytes w
image_bytes_lem w e = omega (arith, mul-add e 10 (body_bytes w))

-- a body lies within its image
pub body_within : (w e k : ℕ) → k < e → body_place w e k + body_bytes w ≤ image_bytes w e
body_within w e k h = omega (arith, image_bytes_lem w e, mul-le-mul_right (body_bytes w) h, suc-mul k (body_bytes w))

-- a rule takes at most 98 bytes at the widths that there are, so that offsets are small
pub image_small : (w e : ℕ) → w ≤ 5 → image_bytes w e ≤ 4 + e * 98
image_small w e h = let each : 10 + body_bytes w ≤ 98 = omega arith in omega (arith, mul-le-mul_left e each)

module _ (w : ℕ) (t : List ℕ) where
  e : ℕ
  e = rule_count w t

  contents : ℕ → List ℕ
  contents k = pieces (entry_bytes w t) k

  bodies : ℕ → List ℕ
  bodies k = pieces (rule_bytes w t) k

  pub entry_bytes_length : (k : ℕ) → length (entry_bytes w t k) ≡ 10
  unfolding entry_bytes
  entry_bytes_length k = entry_length (ident w (slot_words w t (rule_slot w t k))) (rule_slot w t k) (body_place w (rule_count w t) k)

  pub rule_bytes_length : (k : ℕ) → length (rule_bytes w t k) ≡ body_bytes w
  unfolding rule_bytes
  rule_bytes_length k = body_length w (slot_words w t (rule_slot w t k))

  contents_length : (k : ℕ) → length (contents k) ≡ k * 10
  unfolding contents
  contents_length k = pieces_length (entry_bytes w t) 10 entry_bytes_length k

  bodies_length : (k : ℕ) → length (bodies k) ≡ k * body_bytes w
  unfolding bodies
  bodies_length k = pieces_length (rule_bytes w t) (body_bytes w) rule_bytes_length k

  pub image_length : length (image_of w t) ≡ image_bytes w (rule_count w t)
  unfolding image_of contents bodies e
  image_length =
      length-append (bytes_of 2 (slots w t) ++ bytes_of 2 e ++ contents e) (bodies e)
      ∙ omega (
        arith,
        length-append (bytes_of 2 (slots w t) ++ bytes_of 2 e) (contents e),
        length-append (bytes_of 2 (slots w t)) (bytes_of 2 e),
        length_bytes 2 (slots w t),
        length_bytes 2 e,
        contents_length e,
        bodies_length e,
        image_bytes_lem w e,
      )

  module _ (b : List ℕ) (fits : image_bytes w (rule_count w t) ≤ length b) where
    pub stored_none : b ≡ stored w t b 0
    unfolding stored pieces
    stored_none = sym (store_none (store b 4 []) (4 + rule_count w t * 10) ∙ store_none b 4)

    pub stored_more : (k : ℕ) → k < rule_count w t
        → store (store (stored w t b k) (entry_place k) (entry_bytes w t k)) (body_place w (rule_count w t) k) (rule_bytes w t k) ≡ stored w t b (suc k)
    unfolding stored pieces contents bodies e
    stored_more k h =
        ap (λ (x : List ℕ). store x (body_place w e k) (rule_bytes w t k))
        (store_swap front (entry_place k) (4 + e * 10) (entry_bytes w t k) (bodies k) (omega (arith, entry_bytes_length k)) (omega (arith, kept, within, bodies_length k))
        ∙ ap (λ (x : List ℕ). store x (4 + e * 10) (bodies k))
        (store_next b 4 (entry_place k) (contents k) (entry_bytes w t k) (omega (arith, image_bytes_lem w e)) (omega (arith, contents_length k))))
        ∙ store_next (store b 4 (contents (suc k))) (4 + e * 10) (body_place w e k) (bodies k) (rule_bytes w t k) (omega (arith, more, image_bytes_lem w e)) (omega (arith, bodies_length k))
      where
        front : List ℕ
        front = store b 4 (contents k)

        within : body_place w e k + body_bytes w ≤ image_bytes w e
        within = body_within w e k h

        kept : length front ≡ length b
        kept = store_length b 4 (contents k) (omega (arith, contents_length k, image_bytes_lem w e))

        more : length (store b 4 (contents (suc k))) ≡ length b
        more = store_length b 4 (contents (suc k)) (omega (arith, contents_length (suc k), image_bytes_lem w e))

    -- the loop over the slots: a slot that holds a rule holds the next one
    pub rule_stored : {image : List ℕ} (slot k : ℕ) → slot < slots w t → holds w t slot ≡ true → k ≡ length (indices (holds w t) slot) → image ≡ stored w t b k
        → store (store image (entry_place k) (entry_of (ident w (slot_words w t slot)) slot (body_place w (rule_count w t) k)))
        (body_place w (rule_count w t) k) (body_of w (slot_words w t slot))
        ≡ stored w t b (suc k)
    unfolding entry_bytes rule_bytes
    rule_stored slot k h t' c i =
        let found = index_at (holds w t) (slots w t) slot h t' in
        let here : slot ≡ rule_slot w t k = sym (ap (index (holds w t) (slots w t)) c ∙ found.1) in
        ap (λ (x : List ℕ). store (store x (entry_place k) (entry_of (ident w (slot_words w t slot)) slot (body_place w (rule_count w t) k))) (body_place w (rule_count w t) k) (body_of w (slot_words w t slot))) i
        ∙ (ap (λ (s : ℕ). store (store (stored w t b k) (entry_place k) (entry_of (ident w (slot_words w t s)) s (body_place w (rule_count w t) k))) (body_place w (rule_count w t) k) (body_of w (slot_words w t s))) here
        ∙ stored_more k (omega (arith, found.0)))

    -- behind the header the rules make the image, and what stood past it stays
    pub image_stored : {first second image : List ℕ} → first ≡ store b 0 (bytes_of 2 (slots w t)) → second ≡ store first 2 (bytes_of 2 (rule_count w t))
        → image ≡ stored w t second (rule_count w t) → image ≡ image_of w t ++ drop (length (image_of w t)) b
    unfolding stored image_of contents bodies e store
    image_stored f s i =
        let header = bytes_of 2 (slots w t) ++ bytes_of 2 e in
        let size : length header ≡ 4 = length-append (bytes_of 2 (slots w t)) (bytes_of 2 e) ∙ omega (arith, length_bytes 2 (slots w t), length_bytes 2 e) in
        let size2 : length (header ++ contents e) ≡ 4 + e * 10 = length-append header (contents e) ∙ omega (arith, contents_length e) in
        store_then b 0 (4 + e * 10) (header ++ contents e) (bodies e) (omega arith) (sym (zero-add _ ∙ size2))
        (store_then b 0 4 header (contents e) (omega arith) (omega arith)
        (store_then b 0 2 (bytes_of 2 (slots w t)) (bytes_of 2 e) (omega arith) (omega (arith, length_bytes 2 (slots w t))) f s) refl) i
        ∙ start (header ++ contents e ++ bodies e)
      where
        start : (bytes : List ℕ) → store b 0 bytes ≡ bytes ++ drop (length bytes) b
        start bytes = ap (λ (n : ℕ). bytes ++ drop n b) (zero-add (length bytes))

module _ (w : ℕ) (u : Bool) (t : List ℕ) where
  -- the bytes that a save needs are the image's
  pub save_answer_lem : (room : ℕ) → buffer_answer (table_checks w u t) (length (image_of w t)) room ≡ save_answer w u t room
  save_answer_lem room = ap (λ (n : ℕ). buffer_answer (table_checks w u t) n room) (image_length w t)

  -- a table that passes the checks holds at most 1,024 rules
  pub rules_small : table_checks w u t ≡ Pass → rule_count w t ≤ 1024
  unfolding table_checks slot_checks
  rules_small passed =
      let shape = ((or_else_pass (check_shape w t) (check_records w t)).0 ((or_else_pass (slot_checks w t) (or_else (check_twice w t) (check_order w u t))).0 passed).0).0 in
      omega (arith, count_high (holds w t) (slots w t), (shaped_slots w t shape).1)
