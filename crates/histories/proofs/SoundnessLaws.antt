-- Laws on soundness: tables in the middle of an insert's plan pass checks 1 and 2, so that lookup answers on each of them, and the last one passes
-- 1 to 4. A delete and a replacement leave a table that passes 1 to 4 too.
use Rattle.std.specs.Prelude.{◌≡◌, refl, Bool, true, false, not, ◌↔◌, ◌⊎◌, length, get_or, set, take}
use Rattle.std.proofs.Common.{sym, ap, ◌∙◌, true≢false, ⊎_elim, arith, get_or-take, take_all, length-take-le}
use Rattle.std.proofs.Math.Logic.◌⊎◌.{inl, inr}
use mathlib.Core.List.{List}
use Prim.Native.Nat.{ℕ, ◌<◌, ◌≤◌}
use Rattle.search.specs.SearchLaws.{decided}
use Rattle.layout.specs.Held.{Held, emptied}
use Rattle.layout.specs.Write.{put, clear}
use Rattle.layout.proofs.OrderLaws.{down, in_order_put, in_order_emptied}
use Rattle.layout.proofs.HeldLaws.{unique_written, unique_emptied, held_replaced, held_removed}
use Rattle.plan_words.specs.PlanWords.{write_word, write_of}
use Rattle.plan_words.specs.PlanWordsLaws.{write_of_word}
use Rattle.records.specs.Record.{word, slot_words, empty, sound, record_of, put_slot}
use Rattle.records.specs.Order.{slots}
use Rattle.records.specs.Checks.{check_shape, check_records, check_twice, check_order, slot_checks, table_checks}
use Rattle.records.proofs.Laws.{slot_checks_law, table_checks_law, shape_same, records_law}
use Rattle.records.specs.Entries.{vacant, entries, entry_occupied, entry_same, entry_misordered}
use Rattle.records.specs.Writes.{apply_write, apply_words}
use Rattle.records.specs.Editions.{Given, ranked}
use Rattle.records.proofs.EditionsLaws.{ranked_action}
use Rattle.records.specs.declared.Rule.{Rule}
use Rattle.records.specs.Verdict.{Pass}
use Rattle.records.proofs.RulesLaws.{record_sound}
use Rattle.records.proofs.EntriesLaws.{sound_same, EntriesUnique, entries_length, entry_same_lem, entry_laws, misordered_cong, occupied_at_lem, order_entries, unique_entries}
use Rattle.records.proofs.EntriesLaws.{shaped_slots}
use Rattle.records.proofs.EqualLaws.{equal_ordered}
use Rattle.records.proofs.InsertsLaws.{new_id_entries}
use Rattle.records.proofs.WritesLaws.{WordsBelow, apply_length, apply_entries, apply_words_length, turn_below}
use Rattle.records.proofs.ClassWordsLaws.{class_words_law}
use Rattle.delete_plans.specs.Deletes.{slot_of_id, delete_checks, delete_words, DeletePlanned}
use Rattle.delete_plans.proofs.DeletesLaws.{delete_planned}
use Rattle.insert_plans.specs.Insertable.{InsertableGiven, Replacing}
use Rattle.insert_plans.specs.Inserts.{insert_words, replacement_words, insert_answer, insert_plan}
use Rattle.insert_plans.specs.Demand3.{ShortestPlan}
use Rattle.insert_plans.proofs.Demand3Laws.{shortest_words}

-- check 2 passes exactly when every rule held is sound
pub records_entries : (w : ℕ) (t : List ℕ)
    → (check_records w t ≡ Pass) ↔ ((x : List ℕ) → Held (vacant w) (entry_occupied w) (entries w t) x → sound w (word x) ≡ true)
records_entries w t = (forth, λ f. (records_law w t).1 (back f))
  where
    forth : check_records w t ≡ Pass → (x : List ℕ) → Held (vacant w) (entry_occupied w) (entries w t) x → sound w (word x) ≡ true
    forth e x (o, (i, b, same)) = ⊎_elim (λ v. absurd (vacated v)) (λ s. there ∙ s) ((records_law w t).0 e i h)
      where
        h : i < slots w t
        h = let n = entries_length w t in omega arith

        there : sound w (word x) ≡ sound w (slot_words w t i)
        there = ap (λ (y : List ℕ). sound w (word y)) (sym same) ∙ sound_same w _ _ (entry_same_lem w t i h)

        vacated : empty w (slot_words w t i) ≡ true → ⊥
        vacated v = true≢false (sym o ∙ (ap (entry_occupied w) (sym same) ∙ (occupied_at_lem w t i h ∙ ap not v)))

    back : ((x : List ℕ) → Held (vacant w) (entry_occupied w) (entries w t) x → sound w (word x) ≡ true) → (i : ℕ) → i < slots w t
        → (empty w (slot_words w t i) ≡ true) ⊎ (sound w (slot_words w t i) ≡ true)
    back f i h = pick (decided (empty w (slot_words w t i)))
      where
        pick : (empty w (slot_words w t i) ≡ true) ⊎ (empty w (slot_words w t i) ≡ false) → (empty w (slot_words w t i) ≡ true) ⊎ (sound w (slot_words w t i) ≡ true)
        pick (inl e) = inl e
        pick (inr e) =
            inr
            (sym (sound_same w _ _ (entry_same_lem w t i h))
            ∙ f (get_or (entries w t) i (vacant w)) (occupied_at_lem w t i h ∙ ap not e, (i, (let n = entries_length w t in omega arith), refl)))

-- the plan of an insert
module _ (w : ℕ) (u : Bool) (t : List ℕ) (given : Given) (small : given.rule.action < 4294967296) (premises : InsertableGiven w u t given) where
  abbrev rule : Rule
  rule = ranked w given

  words : List ℕ
  words = insert_words w u t rule

  planned : ShortestPlan w u t rule (insert_answer w u t given (length words)) words (insert_plan w u t given words)
  unfolding words
  planned = shortest_words w u t given small premises

  before : (check_shape w t ≡ Pass) × (check_records w t ≡ Pass)
  before = (slot_checks_law w t).0 ((table_checks_law w u t).0 premises.insertable.table).0

  below : WordsBelow (slots w t) words
  unfolding words
  below = turn_below w t rule words (⊎_elim (λ c. c.fits) (λ c. c.fits) ((class_words_law w u t rule words).0 planned.class))

  kept : (k : ℕ) → k ≤ length words → check_shape w (apply_words w t rule (take k words)) ≡ Pass
  kept k l =
      let n = length-take-le k words l in
      shape_same w t _ (apply_words_length w t rule (take k words) (λ j h. rw (get_or-take k words j 0 (omega arith)) (below j (omega arith)))) ∙ before.0

  -- before the last write the table passes checks 1 and 2
  pub insert_between_checks : (k : ℕ) → k < length (insert_words w u t rule) → slot_checks w (apply_words w t rule (take k (insert_words w u t rule))) ≡ Pass
  unfolding words
  insert_between_checks k h =
      let after = apply_words w t rule (take k words) in
      (slot_checks_law w after).1
      (kept k (omega arith), (records_entries w after).1 (λ x m. (records_entries w t).0 before.1 x (((planned.between k h).held x).0 m)))

  -- after it the table passes checks 1 to 4
  pub insert_after_checks : table_checks w u (apply_words w t rule (insert_words w u t rule)) ≡ Pass
  unfolding words
  insert_after_checks =
      (table_checks_law w u after).1 (
        (slot_checks_law w after).1 (shape, (records_entries w after).1 held_sound),
        (unique_entries w after).0 planned.placed.unique,
        (order_entries w u after).0 planned.placed.order,
      )
    where
      after : List ℕ
      after = apply_words w t rule words

      shape : check_shape w after ≡ Pass
      shape = ap (λ (l : List ℕ). check_shape w (apply_words w t rule l)) (sym (take_all (length words) words (omega arith))) ∙ kept (length words) (omega arith)

      held_sound : (x : List ℕ) → Held (vacant w) (entry_occupied w) (entries w after) x → sound w (word x) ≡ true
      held_sound x m =
          ⊎_elim (λ old. (records_entries w t).0 before.1 x old)
          (λ e. ap (λ (y : List ℕ). sound w (word y)) (sym e) ∙ (record_sound w rule (omega (arith, small, ranked_action w given)) ∙ premises.insertable.sound)) ((planned.placed.held x).0 m)

-- the one write of a delete
pub delete_after_checks : (w : ℕ) (u : Bool) (t : List ℕ) (id : ℕ) → delete_checks w u t id ≡ Pass → (rule : Rule) → table_checks w u (apply_words w t rule (delete_words w t id)) ≡ Pass
delete_after_checks w u t id checks rule =
    (table_checks_law w u after).1 (
      (slot_checks_law w after).1 (shape, (records_entries w after).1 held_sound),
      (unique_entries w after).0 (rw emptied_entries (unique_emptied (entry_laws w u) (entries w t) s low unique)),
      (order_entries w u after).0 (rw emptied_entries (in_order_emptied (entry_laws w u) (entries w t) s ((order_entries w u t).1 before.2))),
    )
  where
    s : ℕ
    s = slot_of_id w t id

    p : DeletePlanned w u t id
    p = delete_planned w u t id checks

    low : s < length (entries w t)
    low = omega (arith, p.exists, entries_length w t)

    after : List ℕ
    after = apply_words w t rule (delete_words w t id)

    emptied_entries : entries w after ≡ emptied (vacant w) (entries w t) s
    emptied_entries = ap (entries w) (p.after rule) ∙ apply_entries w t rule (clear s) p.exists

    before : (slot_checks w t ≡ Pass) × (check_twice w t ≡ Pass) × (check_order w u t ≡ Pass)
    before = (table_checks_law w u t).0 p.table

    unique : EntriesUnique w (entries w t)
    unique = (unique_entries w t).1 before.1

    first : (check_shape w t ≡ Pass) × (check_records w t ≡ Pass)
    first = (slot_checks_law w t).0 before.0

    shape : check_shape w after ≡ Pass
    shape = shape_same w t after (ap length (p.after rule) ∙ apply_length w t rule (clear s) p.exists) ∙ first.0

    held_sound : (x : List ℕ) → Held (vacant w) (entry_occupied w) (entries w after) x → sound w (word x) ≡ true
    held_sound x m =
        (records_entries w t).0 first.1 x
        ((held_removed (entry_laws w u) (entries w t) s low (λ k l d. unique k s l low d) x).0 (rw emptied_entries at m)).0

-- the one write of a replacement
module _ (w : ℕ) (u : Bool) (t : List ℕ) (rule : Rule) (small : rule.action < 4294967296) (s : ℕ) (premises : Replacing w u t rule s) where
  checks : (slot_checks w t ≡ Pass) × (check_twice w t ≡ Pass) × (check_order w u t ≡ Pass)
  checks = (table_checks_law w u t).0 premises.table

  first : (check_shape w t ≡ Pass) × (check_records w t ≡ Pass)
  first = (slot_checks_law w t).0 checks.0

  low : s < length (entries w t)
  low = omega (arith, premises.inside, entries_length w t)

  unique : EntriesUnique w (entries w t)
  unique = (unique_entries w t).1 checks.1

  abbrev after_replacement : List ℕ
  after_replacement = apply_words w t rule (replacement_words s)

  -- the word is the put-in's
  pub replacement_word : write_of (write_word (put s)) ≡ put s
  replacement_word = write_of_word (put s) (omega (arith, premises.inside, (shaped_slots w t first.0).1))

  pub replacement_table : after_replacement ≡ put_slot w t s (record_of w rule)
  replacement_table = ap (apply_write w t rule) replacement_word

  pub replacement_entries : entries w after_replacement ≡ set (entries w t) s (record_of w rule)
  replacement_entries = ap (entries w) replacement_table ∙ apply_entries w t rule (put s) premises.inside

  -- the new rule stands for the one in the slot, and each other rule stands as it did
  pub replacement_held : (x : List ℕ) → Held (vacant w) (entry_occupied w) (entries w after_replacement) x
      ↔ ((Held (vacant w) (entry_occupied w) (entries w t) x × (entry_same w x (get_or (entries w t) s (vacant w)) ≡ false))
      ⊎ ((entry_occupied w (record_of w rule) ≡ true) × (record_of w rule ≡ x)))
  replacement_held x = rw replacement_entries (held_replaced (entry_laws w u) (entries w t) s (record_of w rule) low (λ k l d. unique k s l low d) x)

  ordered : (k : ℕ) → k < length (entries w t)
      → (k < s → entry_misordered w u (get_or (entries w t) k (vacant w)) (record_of w rule) ≡ false)
      × (s < k → entry_misordered w u (record_of w rule) (get_or (entries w t) k (vacant w)) ≡ false)
  ordered k l =
      let h : k < slots w t = omega (arith, l, entries_length w t) in
      let right = equal_ordered w u t checks.1 checks.2 (word (record_of w rule)) premises.new s premises.inside premises.replaced k h in (
        λ b. misordered_cong w u (entry_same_lem w t k h) (λ j i. refl) ∙ right.0 b,
        λ b. misordered_cong w u (λ j i. refl) (entry_same_lem w t k h) ∙ right.1 b,
      )

  -- after it the table passes checks 1 to 4
  pub replacement_checks : table_checks w u after_replacement ≡ Pass
  replacement_checks =
      (table_checks_law w u after_replacement).1 (
        (slot_checks_law w after_replacement).1 (shape, (records_entries w after_replacement).1 held_sound),
        (unique_entries w after_replacement).0
            (rw replacement_entries (unique_written (entry_laws w u) (entries w t) s (record_of w rule) low ((new_id_entries w t rule).1 premises.new) unique)),
        (order_entries w u after_replacement).0
            (rw replacement_entries (in_order_put (down (vacant w) (entry_misordered w u)) (entries w t) s (record_of w rule) low ((order_entries w u t).1 checks.2)
            (λ k l b. (ordered k l).0 b) (λ k l b. (ordered k l).1 b))),
      )
    where
      shape : check_shape w after_replacement ≡ Pass
      shape = shape_same w t after_replacement (ap length replacement_table ∙ apply_length w t rule (put s) premises.inside) ∙ first.0

      held_sound : (x : List ℕ) → Held (vacant w) (entry_occupied w) (entries w after_replacement) x → sound w (word x) ≡ true
      held_sound x m =
          ⊎_elim (λ old. (records_entries w t).0 first.1 x old.0)
          (λ new. ap (λ (y : List ℕ). sound w (word y)) (sym new.1) ∙ (record_sound w rule small ∙ premises.sound)) ((replacement_held x).0 m)
