-- Laws on the fields of a saved image, read back: each is the number that was saved.
-- So an image of a sound table passes the checks of a load, and each of its records is the table's.
use Rattle.std.specs.Prelude.{◌≡◌, Bool, true, not, List, ◌++◌, ℕ, zero, suc, ◌+◌, ◌*◌, ◌^◌, ◌≤◌, ◌<◌, length}
use Rattle.std.proofs.Common.{sym, ap₂, ◌∙◌, true≢false, ⊎_elim, add-zero, div-add-mod', mod-lt, div-lt_iff_lt-mul, mul-le-mul_right, arith}
use Rattle.std.proofs.Math.Path.{ap}
use Rattle.std.proofs.Math.Decide.{dec_lt, ℕ_discrete}
use Rattle.std.proofs.Math.ListN.{length-append}
use Rattle.ternary.specs.Pattern.{Words}
use Rattle.records.specs.Record.{word, record_words, slot_words, ident, action, rank, sound}
use Rattle.records.specs.Order.{slots}
use Rattle.records.specs.Checks.{or_else, check_shape, check_records, check_twice, check_order, slot_checks, table_checks}
use Rattle.records.proofs.Laws.{or_else_pass, records_law, sound_law, sound_rank}
use Rattle.records.specs.Entries.{SameRecord}
use Rattle.records.specs.Verdict.{Pass}
use Rattle.records.proofs.EntriesLaws.{shaped_slots, sound_same}
use Rattle.image.specs.Bytes.{bytes_of, number_at, part, pieces}
use Rattle.image.specs.Format.{body_bytes, image_bytes, entry_place, body_place, entry_of, body_of, holds, rule_count, rule_slot, entry_bytes, rule_bytes}
use Rattle.image.specs.Format.{image_of, slots_in, rules_in, id_at, entry_slot, offset_at, record_at}
use Rattle.image.specs.Checks.{lowest_slot, Sound}
use Rattle.image.proofs.SaveLaws.{words_length, image_length, entry_bytes_length, rule_bytes_length, body_within}
use Rattle.image.proofs.Meaning.{record_word, record_both, loaded_rank}
use Rattle.image.proofs.BytesLaws.{length_bytes, number_at_lem, part_left, part_right, part_whole, part_part, pieces_length, piece_at}
use Rattle.image.proofs.IndicesLaws.{count_high, index_hit, index_rises}
use Rattle.image.specs.Reading.{Numbered, Words64}

-- a field within a part of an image
field_read : (k value : ℕ) (b piece : List ℕ) (at size off : ℕ) → part b at size ≡ piece → off + k ≤ size → part piece off k ≡ bytes_of k value → value < 256 ^ k
    → number_at b (at + off) k ≡ value
field_read k value b piece at size off e h f small =
    number_at_lem k value b (at + off) small (sym (part_part b at size off k h) ∙ (ap (λ (l : List ℕ). part l off k) e ∙ f))

-- the fields of an entry
module _ (id slot body : ℕ) where
  first : length (bytes_of 4 id ++ bytes_of 2 slot) ≡ 6
  first = length-append (bytes_of 4 id) (bytes_of 2 slot) ∙ omega (arith, length_bytes 4 id, length_bytes 2 slot)

  entry_id : part (entry_of id slot body) 0 4 ≡ bytes_of 4 id
  unfolding entry_of
  entry_id =
      part_left (bytes_of 4 id ++ bytes_of 2 slot) (bytes_of 4 body) 0 4 (omega (arith, first))
      ∙ (part_left (bytes_of 4 id) (bytes_of 2 slot) 0 4 (omega (arith, length_bytes 4 id)) ∙ part_whole (bytes_of 4 id) 4 (length_bytes 4 id))

  entry_slot_lem : part (entry_of id slot body) 4 2 ≡ bytes_of 2 slot
  unfolding entry_of
  entry_slot_lem =
      part_left (bytes_of 4 id ++ bytes_of 2 slot) (bytes_of 4 body) 4 2 (omega (arith, first))
      ∙ (part_right (bytes_of 4 id) (bytes_of 2 slot) 4 0 2 (length_bytes 4 id) ∙ part_whole (bytes_of 2 slot) 2 (length_bytes 2 slot))

  entry_offset : part (entry_of id slot body) 6 4 ≡ bytes_of 4 body
  unfolding entry_of
  entry_offset = part_right (bytes_of 4 id ++ bytes_of 2 slot) (bytes_of 4 body) 6 0 4 first ∙ part_whole (bytes_of 4 body) 4 (length_bytes 4 body)

-- the fields of a body
module _ (w : ℕ) (x : Words) where
  words : List ℕ
  words = pieces (λ j. bytes_of 8 (x j)) (2 * w)

  upper : length (words ++ bytes_of 4 (rank w x)) ≡ 2 * w * 8 + 4
  unfolding words
  upper = length-append words (bytes_of 4 (rank w x)) ∙ omega (arith, words_length w x, length_bytes 4 (rank w x))

  body_word_lem : (j : ℕ) → j < 2 * w → part (body_of w x) (j * 8) 8 ≡ bytes_of 8 (x j)
  unfolding body_of words
  body_word_lem j h =
      part_left (words ++ bytes_of 4 (rank w x)) (bytes_of 4 (action w x)) (j * 8) 8 (omega (arith, upper))
      ∙ (part_left words (bytes_of 4 (rank w x)) (j * 8) 8 (omega (arith, words_length w x))
      ∙ piece_at (λ i. bytes_of 8 (x i)) 8 (λ i. length_bytes 8 (x i)) (2 * w) j h)

  body_rank : part (body_of w x) (2 * w * 8) 4 ≡ bytes_of 4 (rank w x)
  unfolding body_of words
  body_rank =
      part_left (words ++ bytes_of 4 (rank w x)) (bytes_of 4 (action w x)) (2 * w * 8) 4 (omega (arith, upper))
      ∙ (ap (λ (i : ℕ). part (words ++ bytes_of 4 (rank w x)) i 4) (sym (add-zero (2 * w * 8)))
      ∙ (part_right words (bytes_of 4 (rank w x)) (2 * w * 8) 0 4 (words_length w x) ∙ part_whole (bytes_of 4 (rank w x)) 4 (length_bytes 4 (rank w x))))

  body_action : part (body_of w x) (2 * w * 8 + 4) 4 ≡ bytes_of 4 (action w x)
  unfolding body_of words
  body_action =
      ap (λ (i : ℕ). part (words ++ bytes_of 4 (rank w x) ++ bytes_of 4 (action w x)) i 4) (sym (add-zero (2 * w * 8 + 4)))
      ∙ (part_right (words ++ bytes_of 4 (rank w x)) (bytes_of 4 (action w x)) (2 * w * 8 + 4) 0 4 upper ∙ part_whole (bytes_of 4 (action w x)) 4 (length_bytes 4 (action w x)))

-- the parts of a table's image
module _ (w : ℕ) (t : List ℕ) where
  e : ℕ
  e = rule_count w t

  one : List ℕ
  one = bytes_of 2 (slots w t)

  two : List ℕ
  two = bytes_of 2 (rule_count w t)

  contents : List ℕ
  contents = pieces (entry_bytes w t) (rule_count w t)

  bodies : List ℕ
  bodies = pieces (rule_bytes w t) (rule_count w t)

  header_length : length (one ++ two) ≡ 4
  unfolding one two
  header_length = length-append one two ∙ omega (arith, length_bytes 2 (slots w t), length_bytes 2 (rule_count w t))

  contents_length : length contents ≡ e * 10
  unfolding contents e
  contents_length = pieces_length (entry_bytes w t) 10 (entry_bytes_length w t) (rule_count w t)

  front_length : length (one ++ two ++ contents) ≡ 4 + e * 10
  front_length = length-append (one ++ two) contents ∙ omega (arith, header_length, contents_length)

  image_slots : part (image_of w t) 0 2 ≡ bytes_of 2 (slots w t)
  unfolding image_of one two contents bodies
  image_slots =
      part_left (one ++ two ++ contents) bodies 0 2 (omega (arith, front_length))
      ∙ (part_left (one ++ two) contents 0 2 (omega (arith, header_length))
      ∙ (part_left one two 0 2 (omega (arith, length_bytes 2 (slots w t))) ∙ part_whole one 2 (length_bytes 2 (slots w t))))

  image_rules : part (image_of w t) 2 2 ≡ bytes_of 2 (rule_count w t)
  unfolding image_of one two contents bodies
  image_rules =
      part_left (one ++ two ++ contents) bodies 2 2 (omega (arith, front_length))
      ∙ (part_left (one ++ two) contents 2 2 (omega (arith, header_length))
      ∙ (part_right one two 2 0 2 (length_bytes 2 (slots w t)) ∙ part_whole two 2 (length_bytes 2 (rule_count w t))))

  image_entry : (k : ℕ) → k < rule_count w t → part (image_of w t) (entry_place k) 10 ≡ entry_bytes w t k
  unfolding image_of one two contents bodies e
  image_entry k h =
      part_left (one ++ two ++ contents) bodies (entry_place k) 10 (omega (arith, front_length))
      ∙ (part_right (one ++ two) contents 4 (k * 10) 10 header_length
      ∙ piece_at (entry_bytes w t) 10 (entry_bytes_length w t) (rule_count w t) k h)

  image_body : (k : ℕ) → k < rule_count w t → part (image_of w t) (body_place w (rule_count w t) k) (body_bytes w) ≡ rule_bytes w t k
  unfolding image_of one two contents bodies e
  image_body k h =
      part_right (one ++ two ++ contents) bodies (4 + e * 10) (k * body_bytes w) (body_bytes w) front_length
      ∙ piece_at (rule_bytes w t) (body_bytes w) (rule_bytes_length w t) (rule_count w t) k h

-- a sound table's image
module _ (w : ℕ) (u : Bool) (t : List ℕ) (narrow : Numbered w) (sixty-four : Words64 t) (passes : table_checks w u t ≡ Pass) where
  slots_checks : (check_shape w t ≡ Pass) × (check_records w t ≡ Pass)
  unfolding table_checks slot_checks
  slots_checks = (or_else_pass (check_shape w t) (check_records w t)).0 ((or_else_pass (slot_checks w t) (or_else (check_twice w t) (check_order w u t))).0 passes).0

  shape : (1 ≤ slots w t) × (slots w t ≤ 1024) × (length t ≡ slots w t * record_words w)
  shape = shaped_slots w t slots_checks.0

  few : rule_count w t ≤ slots w t
  few = count_high (holds w t) (slots w t)

  pub slots_read : slots_in (image_of w t) ≡ slots w t
  slots_read = number_at_lem 2 (slots w t) (image_of w t) 0 (omega (arith, shape.1)) (image_slots w t)

  pub rules_read : rules_in (image_of w t) ≡ rule_count w t
  rules_read = number_at_lem 2 (rule_count w t) (image_of w t) 2 (omega (arith, shape.1, few)) (image_rules w t)

  module _ (k : ℕ) (h : k < rule_count w t) where
    x : Words
    x = slot_words w t (rule_slot w t k)

    hit : (rule_slot w t k < slots w t) × (holds w t (rule_slot w t k) ≡ true)
    hit = index_hit (holds w t) (slots w t) k h

    pub saved_sound : sound w (slot_words w t (rule_slot w t k)) ≡ true
    saved_sound =
        ⊎_elim (λ v. absurd (true≢false (sym hit.1 ∙ ap not v))) (λ s. s) ((records_law w t).0 slots_checks.1 (rule_slot w t k) hit.0)

    rank_small : rank w x ≤ 65536
    unfolding x
    rank_small = sound_rank w x saved_sound

    id_small : ident w x < 4294967296
    unfolding x
    id_small = (div-lt_iff_lt-mul {k = 4294967296} (omega arith)).1 (sixty-four (rule_slot w t k * record_words w + 2 * w))

    action_small : action w x < 4294967296
    action_small = mod-lt (x (2 * w)) (omega arith)

    offset_small : body_place w (rule_count w t) k < 4294967296
    offset_small = omega (arith, body_within w (rule_count w t) k h, mul-le-mul_right (10 + body_bytes w) (few_all))
      where
        few_all : rule_count w t ≤ 1024
        few_all = omega (arith, few, shape.1)

    pub id_read : id_at (image_of w t) k ≡ ident w (slot_words w t (rule_slot w t k))
    unfolding entry_bytes x
    id_read =
        ap (λ (i : ℕ). number_at (image_of w t) i 4) (sym (add-zero (entry_place k)))
        ∙ field_read 4 (ident w x) (image_of w t) (entry_bytes w t k) (entry_place k) 10 0 (image_entry w t k h) (omega arith)
        (entry_id (ident w x) (rule_slot w t k) (body_place w (rule_count w t) k)) id_small

    pub slot_read : entry_slot (image_of w t) k ≡ rule_slot w t k
    unfolding entry_bytes x
    slot_read =
        field_read 2 (rule_slot w t k) (image_of w t) (entry_bytes w t k) (entry_place k) 10 4 (image_entry w t k h) (omega arith)
        (entry_slot_lem (ident w x) (rule_slot w t k) (body_place w (rule_count w t) k)) (omega (arith, hit.0, shape.1))

    pub offset_read : offset_at (image_of w t) k ≡ body_place w (rule_count w t) k
    unfolding entry_bytes x
    offset_read =
        field_read 4 (body_place w (rule_count w t) k) (image_of w t) (entry_bytes w t k) (entry_place k) 10 6 (image_entry w t k h) (omega arith)
        (entry_offset (ident w x) (rule_slot w t k) (body_place w (rule_count w t) k)) offset_small

    word_read : (j : ℕ) → j < 2 * w → number_at (image_of w t) (body_place w (rule_count w t) k + j * 8) 8 ≡ slot_words w t (rule_slot w t k) j
    unfolding rule_bytes x
    word_read j l =
        field_read 8 (x j) (image_of w t) (rule_bytes w t k) (body_place w (rule_count w t) k) (body_bytes w) (j * 8) (image_body w t k h) (omega arith)
        (body_word_lem w x j l) (sixty-four (rule_slot w t k * record_words w + j))

    rank_read : number_at (image_of w t) (body_place w (rule_count w t) k + 2 * w * 8) 4 ≡ rank w (slot_words w t (rule_slot w t k))
    unfolding rule_bytes x
    rank_read =
        field_read 4 (rank w x) (image_of w t) (rule_bytes w t k) (body_place w (rule_count w t) k) (body_bytes w) (2 * w * 8) (image_body w t k h) (omega arith)
        (body_rank w x) (omega (arith, rank_small))

    action_read : number_at (image_of w t) (body_place w (rule_count w t) k + (2 * w * 8 + 4)) 4 ≡ action w (slot_words w t (rule_slot w t k))
    unfolding rule_bytes x
    action_read =
        field_read 4 (action w x) (image_of w t) (rule_bytes w t k) (body_place w (rule_count w t) k) (body_bytes w) (2 * w * 8 + 4) (image_body w t k h) (omega arith)
        (body_action w x) action_small

    -- the record read is the record saved
    pub record_read : SameRecord w (word (record_at w (image_of w t) (rule_count w t) k)) (slot_words w t (rule_slot w t k))
    record_read j l = pick (dec_lt j (2 * w)) (ℕ_discrete j (2 * w))
      where
        pick : Dec (j < 2 * w) → Dec (j ≡ 2 * w) → word (record_at w (image_of w t) (rule_count w t) k) j ≡ slot_words w t (rule_slot w t k) j
        pick (yes r) d = record_word w (image_of w t) (rule_count w t) k j r ∙ word_read j r
        pick (no r) (yes f) =
            ap (λ (i : ℕ). word (record_at w (image_of w t) (rule_count w t) k) i) f
            ∙ (record_both w (image_of w t) (rule_count w t) k
            ∙ (ap₂ (λ (i a : ℕ). i * 4294967296 + a) id_read action_read
            ∙ (div-add-mod' (slot_words w t (rule_slot w t k) (2 * w)) 4294967296 ∙ ap (λ (i : ℕ). slot_words w t (rule_slot w t k) i) (sym f))))
        pick (no r) (no f) =
            let last : j ≡ 2 * w + 1 = omega arith in
            ap (λ (i : ℕ). word (record_at w (image_of w t) (rule_count w t) k) i) last
            ∙ (loaded_rank w (image_of w t) (rule_count w t) k ∙ (rank_read ∙ ap (λ (i : ℕ). slot_words w t (rule_slot w t k) i) (sym last)))

  -- so the image passes the checks of a load
  pub saved_passes : Sound w (image_of w t) (slots w t)
  saved_passes = record {
    slots_same = slots_read;
    few = omega (arith, few, rules_read);
    long = image_length w t ∙ ap (image_bytes w) (sym rules_read);
    ids = λ k l z. ((sound_law w _ _ _ _).0 (saved_sound k (into k l))).0 (sym (id_read k (into k l)) ∙ z);
    below = λ k l. omega (arith, slot_read k (into k l), (index_hit (holds w t) (slots w t) k (into k l)).0);
    above = λ k l. rising k (into k l);
    exact = λ k l. offset_read k (into k l) ∙ ap (λ (n : ℕ). body_place w n k) (sym rules_read);
    records = λ k l. ap (λ (n : ℕ). sound w (word (record_at w (image_of w t) n k))) rules_read ∙ (sound_same w _ _ (record_read k (into k l)) ∙ saved_sound k (into k l));
  }
    where
      into : (k : ℕ) → k < rules_in (image_of w t) → k < rule_count w t
      into k l = omega (arith, rules_read)

      rising : (k : ℕ) → k < rule_count w t → lowest_slot (image_of w t) k ≤ entry_slot (image_of w t) k
      rising zero h = omega arith
      rising (suc k) h =
          omega (arith, slot_read k (omega arith), slot_read (suc k) h, index_rises (holds w t) (slots w t) k (suc k) (omega arith) h)
