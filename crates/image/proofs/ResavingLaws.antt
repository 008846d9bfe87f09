-- Laws on a table saved again: the table that an image means has that image, so that it is saved to the same bytes; and it is sound.
-- Each part of the image is the bytes of the numbers read there.
use Rattle.std.specs.Prelude.{◌≡◌, true, false, ◌⊎◌}
use Rattle.std.proofs.Math.Path.{sym, ap, ap₂, subst}
use Rattle.std.proofs.Common.{◌∙◌, zero-add, div-add-mod', arith}
use Rattle.std.proofs.Math.Logic.◌⊎◌.{inl, inr}
use mathlib.Core.List.{List, ◌++◌}
use Prim.Native.Nat.{ℕ, ◌+◌, ◌*◌, ◌/◌, ◌%◌, ◌≤◌, ◌<◌}
use Rattle.std.proofs.Math.Nat.{mod-lt}
use Rattle.std.proofs.Math.ListN.{length, get_or}
use Rattle.std.proofs.lemmas.Bool.{not-false}
use Rattle.search.specs.SearchLaws.{decided}
use Rattle.ternary.specs.Pattern.{Words}
use Rattle.records.specs.Record.{word, record_words, slot_words, ident, empty, sound}
use Rattle.records.specs.Checks.{check_records}
use Rattle.records.proofs.Laws.{empty_law, records_law}
use Rattle.records.specs.Entries.{SameRecord}
use Rattle.records.specs.Verdict.{Pass}
use Rattle.records.proofs.EntriesLaws.{ident_cong, action_cong, rank_cong, sound_same}
use Rattle.image.specs.Bytes.{bytes_of, part, pieces, Bytes}
use Rattle.image.specs.Format.{body_bytes, entry_place, body_place, entry_of, body_of, holds, rule_count, entry_bytes, rule_bytes, image_of, rules_in}
use Rattle.image.specs.Format.{id_at, entry_slot, offset_at, record_at}
use Rattle.image.specs.Checks.{meant, Sound}
use Rattle.image.proofs.SaveLaws.{image_bytes_lem, body_within}
use Rattle.image.proofs.Meaning.{record_word, loaded_rank, loaded_ident, loaded_action, record_small, meant_slots, meant_here, meant_rule}
use Rattle.image.proofs.Meaning.{meant_rules, meant_slot}
use Rattle.image.specs.Reading.{Words64}
use Rattle.image.proofs.BytesLaws.{bytes_number, part_add, part_whole, part_pieces, pieces_cong}

joined : {a a' c c' d d' : List ℕ} → a ≡ a' → c ≡ c' → d ≡ d' → a ++ c ++ d ≡ a' ++ c' ++ d'
joined p q r = ap₂ ◌++◌ (ap₂ ◌++◌ p q) r

-- a body reads the record's words alone
body_cong : (w : ℕ) {x y : Words} → SameRecord w x y → body_of w x ≡ body_of w y
unfolding body_of
body_cong w {x} {y} same =
    joined (pieces_cong (2 * w) (λ j l. ap (bytes_of 8) (same j (omega arith)))) (ap (bytes_of 4) (rank_cong w same)) (ap (bytes_of 4) (action_cong w same))

-- the table that an image means has sound records
pub meant_records : (w : ℕ) (b : List ℕ) (n : ℕ) → Sound w b n → check_records w (meant w b (n * record_words w)) ≡ Pass
meant_records w b n s = (records_law w m).1 (λ i h. pick i (decided (holds w m i)))
  where
    m : List ℕ
    m = meant w b (n * record_words w)

    pick : (i : ℕ) → (holds w m i ≡ true) ⊎ (holds w m i ≡ false) → (empty w (slot_words w m i) ≡ true) ⊎ (sound w (slot_words w m i) ≡ true)
    pick i (inl v) =
        let found = meant_rule w b n s i v in
        inr (ap (λ (slot : ℕ). sound w (slot_words w m slot)) (sym found.2) ∙ (sound_same w _ _ (meant_here w b n s found.0 found.1) ∙ s.records found.0 found.1))
    pick i (inr v) = inl (not-false _ v)

-- an image that loads is the image of the table it means
module _ (w : ℕ) (b : List ℕ) (n : ℕ) (s : Sound w b n) (bytes : Bytes b) where
  m : List ℕ
  m = meant w b (n * record_words w)

  e : ℕ
  e = rules_in b

  module _ (k : ℕ) (h : k < e) where
    entry_part : entry_of (id_at b k) (entry_slot b k) (offset_at b k) ≡ part b (entry_place k) 10
    unfolding entry_of e
    entry_part =
        ap₂ (λ (front back : List ℕ). front ++ back)
        (ap₂ (λ (front back : List ℕ). front ++ back) (bytes_number 4 b (entry_place k) bytes (omega (arith, inside)))
        (bytes_number 2 b (entry_place k + 4) bytes (omega (arith, inside))))
        (bytes_number 4 b (entry_place k + 6) bytes (omega (arith, inside)))
        ∙ sym (part_add b (entry_place k) 6 4 ∙ ap (λ (front : List ℕ). front ++ part b (entry_place k + 6) 4) (part_add b (entry_place k) 4 2))
      where
        inside : 4 + k * 10 + 10 ≤ length b
        inside = omega (arith, s.long, image_bytes_lem w (rules_in b))

    entry_same_lem : entry_bytes w m k ≡ part b (entry_place k) 10
    unfolding entry_bytes m e
    entry_same_lem =
        ap₂ (λ (slot rules : ℕ). entry_of (ident w (slot_words w m slot)) slot (body_place w rules k)) (meant_slot w b n s k h) (meant_rules w b n s)
        ∙ (ap₂ (λ (id body : ℕ). entry_of id (entry_slot b k) body) (ident_cong w (meant_here w b n s k h) ∙ loaded_ident w b (rules_in b) k bytes) (sym (s.exact k h))
        ∙ entry_part)

    body_part : body_of w (word (record_at w b e k)) ≡ part b (body_place w e k) (body_bytes w)
    unfolding body_of e
    body_part =
        joined
        (pieces_cong (2 * w) (λ j l. ap (bytes_of 8) (record_word w b (rules_in b) k j l) ∙ bytes_number 8 b (place + j * 8) bytes (omega (arith, inside)))
        ∙ sym (part_pieces b place 8 (2 * w)))
        (ap (bytes_of 4) (loaded_rank w b (rules_in b) k) ∙ bytes_number 4 b (place + 2 * w * 8) bytes (omega (arith, inside)))
        (ap (bytes_of 4) (loaded_action w b (rules_in b) k bytes) ∙ bytes_number 4 b (place + (2 * w * 8 + 4)) bytes (omega (arith, inside)))
        ∙ sym (ap (λ (i : ℕ). part b place i) whole ∙ (part_add b place (2 * w * 8 + 4) 4 ∙ ap (λ (front : List ℕ). front ++ part b (place + (2 * w * 8 + 4)) 4) (part_add b place (2 * w * 8) 4)))
      where
        place : ℕ
        place = body_place w (rules_in b) k

        inside : place + body_bytes w ≤ length b
        inside = omega (arith, s.long, body_within w (rules_in b) k h)

        whole : body_bytes w ≡ 2 * w * 8 + 4 + 4
        whole = omega arith

    body_same : rule_bytes w m k ≡ part b (body_place w e k) (body_bytes w)
    unfolding rule_bytes m e
    body_same =
        ap (λ (slot : ℕ). body_of w (slot_words w m slot)) (meant_slot w b n s k h) ∙ (body_cong w (meant_here w b n s k h) ∙ body_part)

  pub image_back : image_of w (meant w b (n * record_words w)) ≡ b
  unfolding image_of e m
  image_back =
      ap₂ (λ (front back : List ℕ). front ++ back)
      (joined (ap (bytes_of 2) (meant_slots w b n s ∙ sym s.slots_same) ∙ bytes_number 2 b 0 bytes (omega (arith, long)))
      (ap (bytes_of 2) rules ∙ bytes_number 2 b 2 bytes (omega (arith, long)))
      (ap (pieces (entry_bytes w m)) rules ∙ (pieces_cong (rules_in b) entry_same_lem ∙ sym (part_pieces b 4 10 (rules_in b)))))
      (ap (pieces (rule_bytes w m)) rules ∙ (pieces_cong (rules_in b) body_same ∙ sym (part_pieces b (4 + rules_in b * 10) (body_bytes w) (rules_in b))))
      ∙ sym whole
    where
      rules : rule_count w (meant w b (n * record_words w)) ≡ rules_in b
      rules = meant_rules w b n s

      long : length b ≡ 4 + rules_in b * 10 + rules_in b * body_bytes w
      long = s.long ∙ image_bytes_lem w (rules_in b)

      whole : b ≡ part b 0 2 ++ part b 2 2 ++ part b 4 (rules_in b * 10) ++ part b (4 + rules_in b * 10) (rules_in b * body_bytes w)
      whole =
          sym (part_whole b _ long)
          ∙ (part_add b 0 (4 + rules_in b * 10) (rules_in b * body_bytes w)
          ∙ ap₂ (λ (front : List ℕ) (at : ℕ). front ++ part b at (rules_in b * body_bytes w))
          (part_add b 0 4 (rules_in b * 10) ∙ ap (λ (front : List ℕ). front ++ part b 4 (rules_in b * 10)) (part_add b 0 2 2)) (zero-add (4 + rules_in b * 10)))

  -- its words have 64 bits
  pub meant_words : Words64 (meant w b (n * record_words w))
  unfolding m e
  meant_words i =
      let r = record_words w in
      let inner : i % r < r = mod-lt i (omega arith) in
      subst (λ (k : ℕ). get_or m k 0 < 18446744073709551616) (div-add-mod' i r) (pick (i / r) (i % r) inner (decided (holds w m (i / r))))
    where
      pick : (slot j : ℕ) → j < record_words w → (holds w m slot ≡ true) ⊎ (holds w m slot ≡ false) → slot_words w m slot j < 18446744073709551616
      pick slot j l (inl v) =
          let found = meant_rule w b n s slot v in
          let here : slot_words w m slot j ≡ word (record_at w b (rules_in b) found.0) j =
          ap (λ (i : ℕ). slot_words w m i j) (sym found.2) ∙ meant_here w b n s found.0 found.1 j l in
          omega (arith, here, record_small w b (rules_in b) found.0 bytes j l)
      pick slot j l (inr v) = omega (arith, (empty_law w (slot_words w m slot)).0 (not-false _ v) j l)
