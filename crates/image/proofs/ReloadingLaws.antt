-- Laws on an image loaded again: a saved image means the table it was saved from, so that it loads to that table.
-- Each field reads back as it was saved; a slot of no rule is empty in both tables.
use Rattle.std.specs.Prelude.{◌≡◌, refl, Bool, true, false, ◌⊎◌, List, [], ℕ, ◌*◌, ◌/◌, ◌<◌, length}
use Rattle.std.proofs.Common.{sym, ap, ◌∙◌, true≢false, arith}
use Rattle.std.proofs.Math.Logic.◌⊎◌.{inl, inr}
use Rattle.std.proofs.lemmas.Bool.{not-false}
use Rattle.search.specs.SearchLaws.{decided}
use Rattle.records.specs.Record.{word, record_words, slot_words}
use Rattle.records.specs.Order.{slots}
use Rattle.records.specs.Checks.{success, or_else, check_shape, check_records, check_twice, check_order, slot_checks, table_checks}
use Rattle.records.proofs.Laws.{or_else_pass, empty_law, shape_same}
use Rattle.records.specs.Entries.{SameRecord}
use Rattle.records.specs.Verdict.{Pass}
use Rattle.records.proofs.EntriesLaws.{shaped_slots}
use Rattle.image.specs.Indices.{indices}
use Rattle.image.specs.Format.{holds, rule_count, rule_slot, image_of, rules_in, entry_slot, record_at}
use Rattle.image.specs.Checks.{image_checks, meant, Sound}
use Rattle.image.specs.Answers.{load_answer, load_table}
use Rattle.image.proofs.LoadLaws.{load_written}
use Rattle.image.proofs.Meaning.{same_table, meant_length, meant_here, meant_other}
use Rattle.image.specs.Reading.{Words64, Numbered}
use Rattle.image.proofs.IndicesLaws.{index_at, index_hit}
use Rattle.image.proofs.ChecksLaws.{image_law}
use Rattle.image.proofs.ReadingLaws.{rules_read, slot_read, record_read, saved_passes}

-- a table is determined by its image: the table meant by the image of a sound table is that table
module _ (w : ℕ) (u : Bool) (t : List ℕ) (narrow : Numbered w) (sixty-four : Words64 t) (passed : table_checks w u t ≡ Pass) where
  checks : (check_shape w t ≡ Pass) × (check_twice w t ≡ Pass) × (check_order w u t ≡ Pass)
  unfolding table_checks slot_checks
  checks =
      let p = (or_else_pass (slot_checks w t) (or_else (check_twice w t) (check_order w u t))).0 passed in
      let q = (or_else_pass (check_twice w t) (check_order w u t)).0 p.1 in
      (((or_else_pass (check_shape w t) (check_records w t)).0 p.0).0, q.0, q.1)

  pub saved_size : length t ≡ slots w t * record_words w
  saved_size = (shaped_slots w t checks.0).2

  back : Sound w (image_of w t) (slots w t)
  back = saved_passes w u t narrow sixty-four passed

  into : (k : ℕ) → k < rules_in (image_of w t) → k < rule_count w t
  into k l = omega (arith, rules_read w u t narrow sixty-four passed)

  meant_saved : meant w (image_of w t) (slots w t * record_words w) ≡ t
  meant_saved =
      same_table w (slots w t) _ t (meant_length w (image_of w t) (slots w t) back) saved_size (λ i h. pick i h (decided (holds w t i)))
    where
      m : List ℕ
      m = meant w (image_of w t) (slots w t * record_words w)

      here : (i k : ℕ) → (k < rule_count w t) → rule_slot w t k ≡ i → SameRecord w (slot_words w m i) (slot_words w t i)
      here i k l f j r =
          let there : entry_slot (image_of w t) k ≡ i = slot_read w u t narrow sixty-four passed k l ∙ f in
          ap (λ (s : ℕ). slot_words w m s j) (sym there)
          ∙ (meant_here w (image_of w t) (slots w t) back k (omega (arith, rules_read w u t narrow sixty-four passed)) j r
          ∙ (ap (λ (e : ℕ). word (record_at w (image_of w t) e k) j) (rules_read w u t narrow sixty-four passed)
          ∙ (record_read w u t narrow sixty-four passed k l j r ∙ ap (λ (s : ℕ). slot_words w t s j) f)))

      pick : (i : ℕ) → i < slots w t → (holds w t i ≡ true) ⊎ (holds w t i ≡ false) → SameRecord w (slot_words w m i) (slot_words w t i)
      pick i h (inl v) = let found = index_at (holds w t) (slots w t) i h v in here i (length (indices (holds w t) i)) found.0 found.1
      pick i h (inr v) = λ j r.
          meant_other w (image_of w t) (slots w t) back i
          (λ k l f. true≢false (sym (index_hit (holds w t) (slots w t) k (into k l)).1
          ∙ (ap (holds w t) (sym (slot_read w u t narrow sixty-four passed k (into k l)) ∙ f) ∙ v))) j r
          ∙ sym ((empty_law w (slot_words w t i)).0 (not-false _ v) j r)

  fields : (lent : List ℕ) → length lent ≡ length t → or_else (check_shape w lent) (image_checks w (image_of w t) (slots w lent)) ≡ Pass
  fields lent e =
      let same : slots w lent ≡ slots w t = ap (λ (n : ℕ). n / record_words w) e in
      (or_else_pass (check_shape w lent) (image_checks w (image_of w t) (slots w lent))).1 (
        shape_same w t lent e ∙ checks.0,
        ap (image_checks w (image_of w t)) same ∙ (image_law w (image_of w t) (slots w t)).1 back,
      )

  -- the image of a sound table loads, into any lent table of as many slots, to that table
  pub image_loads : (lent : List ℕ) → length lent ≡ length t → (load_answer w u (image_of w t) lent ≡ success []) × (load_table w u (image_of w t) lent ≡ t)
  image_loads lent e =
      let same : meant w (image_of w t) (length lent) ≡ t = ap (meant w (image_of w t)) (e ∙ saved_size) ∙ meant_saved in
      let p = load_written w u (image_of w t) lent (fields lent e)
      (sym ((or_else_pass (check_twice w _) (check_order w u _)).1 (ap (check_twice w) same ∙ checks.1, ap (check_order w u) same ∙ checks.2))) refl in
      (sym p.0, sym p.1 ∙ same)
