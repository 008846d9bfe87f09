-- End theorems on the table that an image means, slot by slot: a rule's slot has the record of its entry and body, every other slot is empty.
-- An image's slots rise, so that no record overwrites another.
use Rattle.std.specs.Prelude.{◌≡◌, Bool, true, false, ◌&&◌, ◌⊎◌, ◌≢◌, ◌↔◌, List, eqb, length, replicate}
use Rattle.std.proofs.Math.Path.{refl, ap, ap₂}
use Rattle.std.proofs.Common.{sym, ◌∙◌, true≢false, add-zero, div-add-mod', mod-lt, div-lt_iff_lt-mul, arith, ext_get_or, eq-eqb, eqb-true}
use Rattle.std.proofs.Math.Bool.{not}
use Rattle.std.proofs.Math.Logic.◌⊎◌.{inl, inr}
use Prim.Native.Nat.{ℕ, zero, suc, ◌+◌, ◌*◌, ◌/◌, ◌%◌, ◌≤◌, ◌<◌}
use Rattle.std.proofs.Math.Decide.{dec_lt, ℕ_discrete}
use Rattle.std.proofs.Math.Arith.{digits_div, digits_mod}
use Rattle.std.proofs.Math.ListN.{get_or, get_or-append}
use Rattle.std.proofs.lemmas.List.{length-replicate}
use Rattle.std.proofs.Math.Seq.{get_or_at, get_or-append-add}
use Rattle.search.specs.Search.{any}
use Rattle.search.specs.SearchLaws.{any_yes, any_no, decided}
use Rattle.ternary.specs.Pattern.{Words, Within}
use Rattle.ternary.proofs.PatternLaws.{within_cong}
use Rattle.records.specs.Record.{word, listed, record_words, slot_words, ident, action, rank, rank_fits, sound, sound_parts, value, mask}
use Rattle.records.specs.Order.{slots}
use Rattle.records.specs.Sound.{RankFits}
use Rattle.records.proofs.Laws.{empty_law, rank_law, sound_law, ident_occupied}
use Rattle.records.specs.Verdict.{Pass}
use Rattle.records.specs.Entries.{SameRecord}
use Rattle.records.proofs.RulesLaws.{length_listed, word_listed, zero_word, fits_cong}
use Rattle.records.proofs.EntriesLaws.{occupied_cong}
use Rattle.records.proofs.PutSlotLaws.{put_length, put_here, put_other}
use Rattle.image.specs.Bytes.{number_at, Bytes}
use Rattle.image.specs.Indices.{indices}
use Rattle.image.specs.Format.{body_place, rules_in, id_at, entry_slot, record_at, holds, rule_count, rule_slot, pattern_at, rank_at}
use Rattle.image.specs.Checks.{check_body, rules_put, meant, Sound}
use Rattle.image.proofs.LoadLaws.{record_at_length}
use Rattle.image.proofs.BytesLaws.{number_small}
use Rattle.image.proofs.IndicesLaws.{indices_row}
use Rattle.image.proofs.ChecksLaws.{field_law}

-- the words of an image's record
module _ (w : ℕ) (b : List ℕ) (e k : ℕ) where
  words : Words
  words j = number_at b (body_place w e k + j * 8) 8

  front : length (listed (2 * w) words) ≡ 2 * w
  front = length_listed (2 * w) words

  pub record_word : (j : ℕ) → j < 2 * w → word (record_at w b e k) j ≡ number_at b (body_place w e k + j * 8) 8
  unfolding record_at words
  record_word j h = get_or-append (listed (2 * w) words) _ 0 j (omega (arith, front)) ∙ word_listed (2 * w) words j h

  pub record_both : word (record_at w b e k) (2 * w) ≡ id_at b k * 4294967296 + number_at b (body_place w e k + (2 * w * 8 + 4)) 4
  unfolding record_at words
  record_both = get_or_at (listed (2 * w) words) _ _ 0 (2 * w) front

  pub loaded_rank : rank w (word (record_at w b e k)) ≡ number_at b (body_place w e k + 2 * w * 8) 4
  unfolding record_at words
  loaded_rank =
      ap (λ (i : ℕ). get_or (record_at w b e k) (i + 1) 0) (sym front) ∙ get_or-append-add (listed (2 * w) words) _ 1 0

  pub loaded_ident : Bytes b → ident w (word (record_at w b e k)) ≡ id_at b k
  loaded_ident h = ap (λ (n : ℕ). n / 4294967296) record_both ∙ digits_div (id_at b k) (number_small 4 b (body_place w e k + (2 * w * 8 + 4)) h)

  pub loaded_action : Bytes b → action w (word (record_at w b e k)) ≡ number_at b (body_place w e k + (2 * w * 8 + 4)) 4
  loaded_action h = ap (λ (n : ℕ). n % 4294967296) record_both ∙ digits_mod (id_at b k) (number_small 4 b (body_place w e k + (2 * w * 8 + 4)) h)

  -- each has 64 bits
  pub record_small : Bytes b → (j : ℕ) → j < record_words w → word (record_at w b e k) j < 18446744073709551616
  record_small h j l = pick (dec_lt j (2 * w)) (ℕ_discrete j (2 * w))
    where
      pick : Dec (j < 2 * w) → Dec (j ≡ 2 * w) → word (record_at w b e k) j < 18446744073709551616
      pick (yes r) d = omega (arith, record_word j r, number_small 8 b (body_place w e k + j * 8) h)
      pick (no r) (yes f) =
          omega (
            arith,
            ap (word (record_at w b e k)) f,
            record_both,
            number_small 4 b (4 + k * 10) h,
            number_small 4 b (body_place w e k + (2 * w * 8 + 4)) h,
          )
      pick (no r) (no f) =
          let last : j ≡ 2 * w + 1 = omega arith in
          omega (arith, ap (word (record_at w b e k)) last, loaded_rank, number_small 4 b (body_place w e k + 2 * w * 8) h)

  -- whether the record is sound is told by the image's own numbers
  pub body_sound : Bytes b
      → sound w (word (record_at w b e k)) ≡ sound_parts w (id_at b k) (rank_fits w (rank_at w b e k) (mask w (pattern_at w b e k))) (pattern_at w b e k) (mask w (pattern_at w b e k))
  unfolding sound_parts
  body_sound h =
      let x = word (record_at w b e k) in
      let pattern = pattern_at w b e k in
      let fits = rank_fits w (rank_at w b e k) (mask w pattern) in
      let masks : (j : ℕ) → j < w → mask w x j ≡ mask w pattern j = λ j l. record_word (w + j) (omega arith) in
      ap₂ (λ (i : ℕ) (r : Bool). sound_parts w i r (value x) (mask w x)) (loaded_ident h) (fits_cong w loaded_rank masks)
      ∙ ap (λ (q : Bool). not (eqb (id_at b k) 0) && fits && q) (within_cong w (λ j l. record_word j (omega arith)) masks)

  -- an unsound value (document 01) or rank (document 02), in a body whose entry has an id
  pub body_law : Bytes b → (id_at b k ≡ 0 → ⊥)
      → (check_body w b e k ≡ Pass) ↔ (RankFits w (rank_at w b e k) (mask w (pattern_at w b e k)) × Within w (pattern_at w b e k) (mask w (pattern_at w b e k)))
  unfolding check_body
  body_law h named =
      let same = body_sound h in
      let pattern = pattern_at w b e k in
      let fits = rank_law w (rank_at w b e k) (mask w pattern) in
      let law = sound_law w (id_at b k) (rank_fits w (rank_at w b e k) (mask w pattern)) pattern (mask w pattern) in
      let right = sound w (word (record_at w b e k)) in (
        λ p. let s = law.0 (sym same ∙ (field_law right (body_place w e k)).0 p) in (fits.0 s.1, s.2),
        λ f. (field_law right (body_place w e k)).1 (same ∙ law.1 (named, fits.1 f.0, f.1)),
      )

-- an image's slots rise
module _ {w : ℕ} {b : List ℕ} {n : ℕ} (s : Sound w b n) where
  pub slots_rise : (j k : ℕ) → j < k → k < rules_in b → entry_slot b j < entry_slot b k
  slots_rise j zero l h = absurd (omega arith)
  slots_rise j (suc k) l h = pick (ℕ_discrete j k) (slots_rise j k)
    where
      pick : Dec (j ≡ k) → (j < k → k < rules_in b → entry_slot b j < entry_slot b k) → entry_slot b j < entry_slot b (suc k)
      pick (yes f) back = let a = s.above (suc k) h in omega (arith, ap (entry_slot b) f)
      pick (no f) back = let a = s.above (suc k) h in let c = back (omega arith) (omega arith) in omega arith

-- a table into which rules are put, one by one, each into a slot of its own
module _ (w : ℕ) (b : List ℕ) (e : ℕ) (t : List ℕ) (below : (k : ℕ) → k < e → entry_slot b k < slots w t) where
  pub filled_length : (k : ℕ) → k ≤ e → length (rules_put w b e t k) ≡ length t
  unfolding rules_put
  filled_length zero h = refl
  filled_length (suc k) h =
      put_length w (rules_put w b e t k) (entry_slot b k) (record_at w b e k)
      (let l = below k h in omega (arith, ap (λ (n : ℕ). n / record_words w) (filled_length k (omega arith)))) (record_at_length w b e k)
      ∙ filled_length k (omega arith)

  inside : (k : ℕ) → k < e → entry_slot b k < slots w (rules_put w b e t k)
  inside k h = let l = below k h in omega (arith, ap (λ (n : ℕ). n / record_words w) (filled_length k (omega arith)))

  pub filled_other : (k slot : ℕ) → k ≤ e → ((j : ℕ) → j < k → entry_slot b j ≢ slot) → SameRecord w (slot_words w (rules_put w b e t k) slot) (slot_words w t slot)
  unfolding rules_put
  filled_other zero slot h d i l = refl
  filled_other (suc k) slot h d i l =
      put_other w (rules_put w b e t k) (entry_slot b k) (record_at w b e k) (inside k h) (record_at_length w b e k) slot (λ f. d k (omega arith) (sym f)) i l
      ∙ filled_other k slot (omega arith) (λ j r. d j (omega arith)) i l

  pub filled_here : ((j k : ℕ) → j < k → k < e → entry_slot b j < entry_slot b k) → (k j : ℕ) → k ≤ e → j < k
      → SameRecord w (slot_words w (rules_put w b e t k) (entry_slot b j)) (word (record_at w b e j))
  unfolding rules_put
  filled_here rises zero j h l i r = absurd (omega arith)
  filled_here rises (suc k) j h l i r = pick (ℕ_discrete j k) (filled_here rises k j)
    where
      pick : Dec (j ≡ k) → (k ≤ e → j < k → SameRecord w (slot_words w (rules_put w b e t k) (entry_slot b j)) (word (record_at w b e j)))
          → slot_words w (rules_put w b e t (suc k)) (entry_slot b j) i ≡ word (record_at w b e j) i
      pick (yes f) back =
          ap (λ (m : ℕ). slot_words w (rules_put w b e t (suc k)) (entry_slot b m) i) f
          ∙ (put_here w (rules_put w b e t k) (entry_slot b k) (record_at w b e k) (inside k h) (record_at_length w b e k) i r
          ∙ ap (λ (m : ℕ). word (record_at w b e m) i) (sym f))
      pick (no f) back =
          put_other w (rules_put w b e t k) (entry_slot b k) (record_at w b e k) (inside k h) (record_at_length w b e k) (entry_slot b j)
          (λ g. let a = rises j k (omega arith) h in omega arith) i r
          ∙ back (omega arith) (omega arith) i r

-- two tables of the same number of slots are equal where every slot has the same record
pub same_table : (w n : ℕ) (t u : List ℕ) → length t ≡ n * record_words w → length u ≡ n * record_words w
    → ((i : ℕ) → i < n → SameRecord w (slot_words w t i) (slot_words w u i)) → t ≡ u
same_table w n t u a b same =
    ext_get_or 0 t u (a ∙ sym b) (λ i h.
    let r = record_words w in
    let split : i / r * r + i % r ≡ i = div-add-mod' i r in
    let inner : i % r < r = mod-lt i (omega arith) in
    let slot : i / r < n = (div-lt_iff_lt-mul {k = r} (omega arith)).1 (omega arith) in
    ap (λ (k : ℕ). get_or t k 0) (sym split) ∙ (same (i / r) slot (i % r) inner ∙ ap (λ (k : ℕ). get_or u k 0) split))

-- the table that a sound image means
module _ (w : ℕ) (b : List ℕ) (n : ℕ) (s : Sound w b n) where
  pub meant_zeros : length {A = ℕ} (replicate (n * record_words w) 0) ≡ n * record_words w
  meant_zeros = length-replicate (n * record_words w) 0

  zero_slots : slots w (replicate (n * record_words w) 0) ≡ n
  zero_slots =
      ap (λ (m : ℕ). m / record_words w) (meant_zeros ∙ sym (add-zero (n * record_words w))) ∙ digits_div n (omega arith)

  inside_zeros : (k : ℕ) → k < rules_in b → entry_slot b k < slots w (replicate (n * record_words w) 0)
  inside_zeros k h = let l = s.below k h in omega (arith, zero_slots)

  pub meant_length : length (meant w b (n * record_words w)) ≡ n * record_words w
  unfolding meant
  meant_length = filled_length w b (rules_in b) (replicate (n * record_words w) 0) inside_zeros (rules_in b) (omega arith) ∙ meant_zeros

  pub meant_slots : slots w (meant w b (n * record_words w)) ≡ n
  meant_slots = ap (λ (m : ℕ). m / record_words w) (meant_length ∙ sym (add-zero (n * record_words w))) ∙ digits_div n (omega arith)

  -- a rule's slot has its record
  pub meant_here : (k : ℕ) → k < rules_in b → SameRecord w (slot_words w (meant w b (n * record_words w)) (entry_slot b k)) (word (record_at w b (rules_in b) k))
  unfolding meant
  meant_here k h = filled_here w b (rules_in b) (replicate (n * record_words w) 0) inside_zeros (slots_rise s) (rules_in b) k (omega arith) h

  -- a slot of no rule is empty
  pub meant_other : (slot : ℕ) → ((k : ℕ) → k < rules_in b → entry_slot b k ≢ slot) → (j : ℕ) → j < record_words w → slot_words w (meant w b (n * record_words w)) slot j ≡ 0
  unfolding meant
  meant_other slot d j h =
      filled_other w b (rules_in b) (replicate (n * record_words w) 0) inside_zeros (rules_in b) slot (omega arith) d j h
      ∙ zero_word (n * record_words w) (slot * record_words w + j)

  -- so the slots that hold a rule are the image's
  pub meant_holds : (k : ℕ) → k < rules_in b → holds w (meant w b (n * record_words w)) (entry_slot b k) ≡ true
  meant_holds k h =
      occupied_cong w (meant_here k h)
      ∙ ident_occupied w (word (record_at w b (rules_in b) k)) ((sound_law w _ _ _ _).0 (s.records k h)).0

  pub meant_rule : (slot : ℕ) → holds w (meant w b (n * record_words w)) slot ≡ true → (k : ℕ) × (k < rules_in b) × (entry_slot b k ≡ slot)
  meant_rule slot t = pick (decided (any (λ (k : ℕ). eqb (entry_slot b k) slot) (rules_in b)))
    where
      named : ℕ → Bool
      named k = eqb (entry_slot b k) slot

      pick : (any named (rules_in b) ≡ true) ⊎ (any named (rules_in b) ≡ false) → (k : ℕ) × (k < rules_in b) × (entry_slot b k ≡ slot)
      pick (inl f) = let r = any_yes named (rules_in b) f in (r.0, r.1, eqb-true _ _ r.2)
      pick (inr f) =
          absurd (true≢false (sym t ∙ ap not ((empty_law w (slot_words w (meant w b (n * record_words w)) slot)).1
          (meant_other slot (λ k h same. true≢false (sym (eq-eqb _ _ same) ∙ any_no named (rules_in b) f k h))))))

  pub meant_row : indices (holds w (meant w b (n * record_words w))) n ≡ listed (rules_in b) (entry_slot b)
  meant_row = indices_row (holds w (meant w b (n * record_words w))) (entry_slot b) (rules_in b) (slots_rise s) meant_holds meant_rule n s.below

  pub meant_rules : rule_count w (meant w b (n * record_words w)) ≡ rules_in b
  meant_rules =
      ap (λ (m : ℕ). length (indices (holds w (meant w b (n * record_words w))) m)) meant_slots
      ∙ (ap length meant_row ∙ length_listed (rules_in b) (entry_slot b))

  pub meant_slot : (k : ℕ) → k < rules_in b → rule_slot w (meant w b (n * record_words w)) k ≡ entry_slot b k
  meant_slot k h =
      ap (λ (m : ℕ). get_or (indices (holds w (meant w b (n * record_words w))) m) k 0) meant_slots
      ∙ (ap (λ (l : List ℕ). get_or l k 0) meant_row ∙ word_listed (rules_in b) (entry_slot b) k h)
