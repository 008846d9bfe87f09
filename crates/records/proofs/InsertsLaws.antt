-- Laws on an insert on a table's words: the neighbours A and B and the plan, each joined with its meaning in layouts.
use Rattle.std.specs.Prelude.{◌≡◌, refl, Bool, true, false, ◌↔◌, ◌≢◌, List, map, ℕ, suc, ◌≤◌, ◌<◌, length, get_or, take}
use Rattle.std.proofs.Common.{sym, ◌∙◌, true≢false, arith}
use Rattle.std.proofs.Math.Path.{ap, ap₂}
use Rattle.std.proofs.Math.Bool.{not, ◌&&◌, and-true}
use Rattle.std.proofs.Math.Decide.{ℕ_discrete}
use Rattle.std.proofs.Math.Dec.{eqb}
use Rattle.std.proofs.lemmas.List.{length-map}
use Rattle.search.specs.Search.{least, after_last}
use Rattle.search.specs.SearchLaws.{least_law, least_cong, after_last_law, after_last_cong}
use Rattle.ternary.specs.Pattern.{Words, overlaps}
use Rattle.ternary.proofs.PatternLaws.{overlap_turned, overlaps_law, overlaps_cong}
use Rattle.layout.specs.Held.{NewId}
use Rattle.layout.specs.Plan.{Choice, after_preceding, first_dependant, writes}
use Rattle.layout.specs.Valid.{Between, Placed}
use Rattle.layout.specs.Insert.{Valid, LeastPlan}
use Rattle.layout.proofs.InPlaceLaws.{after_preceding_by, first_dependant_by}
use Rattle.layout.proofs.InsertLaws.{insert_plan_lem}
use Rattle.plan_words.specs.PlanWords.{emptying, write_word, write_of}
use Rattle.plan_words.specs.PlanWordsLaws.{WritesBelow}
use Rattle.records.specs.Record.{word, slot_words, value, mask, ident, action, rank, empty, occupied, record_of}
use Rattle.records.specs.Order.{slots, overlapping, precedes, tied, same_id, distinct, compared, misordered, Overlapping}
use Rattle.records.specs.Checks.{check_twice, check_order}
use Rattle.records.proofs.Laws.{misordered_law, precedes_law, tied_law, precedes_misordered}
use Rattle.records.specs.Entries.{vacant, entries, entry_occupied, entry_same, entry_misordered}
use Rattle.records.specs.Writes.{apply_words}
use Rattle.records.specs.ClassWords.{InClassWords}
use Rattle.records.specs.Verdict.{Pass}
use Rattle.records.specs.declared.Rule.{Rule}
use Rattle.records.proofs.RulesLaws.{record_value, record_mask, record_ident, record_action, record_rank}
use Rattle.records.proofs.EntriesLaws.{same_id_cong, misordered_cong, same_truth, eqb_turned, compared_turned, entries_length, entry_same_lem}
use Rattle.records.proofs.EntriesLaws.{occupied_at_lem, entry_laws, order_entries, unique_entries, rule_occupied}
use Rattle.records.proofs.WritesLaws.{words_back, apply_plan, plan_below, plan_entries}
use Rattle.records.specs.Inserts.{Untied, plan_words, insert_choice_of, IdNew}

-- overlap, in either order
pub overlapping_turned : (w : ℕ) (a b : Words) → overlapping w a b ≡ overlapping w b a
overlapping_turned w a b =
    let l = overlaps_law w (value a) (mask w a) (value b) (mask w b) in
    let m = overlaps_law w (value b) (mask w b) (value a) (mask w a) in
    same_truth (overlapping w a b) (overlapping w b a) (
      λ e. m.1 (overlap_turned w (value a) (mask w a) (value b) (mask w b) (l.0 e)),
      λ e. l.1 (overlap_turned w (value b) (mask w b) (value a) (mask w a) (m.0 e)),
    )

pub tied_turned : (w : ℕ) (u : Bool) (a b : Words) → tied w u a b ≡ tied w u b a
unfolding tied
tied_turned w u a b =
    ap₂ ◌&&◌ (ap₂ ◌&&◌ (overlapping_turned w a b) (eqb_turned (rank w a) (rank w b))) (compared_turned w u a b)

-- of two rules that do not tie, one precedes the other exactly when the other before it is out of order
pub precedes_untied : (w : ℕ) (u : Bool) (a b : Words) → tied w u a b ≡ false → precedes w u a b ≡ misordered w u b a
precedes_untied w u a b untied = same_truth (precedes w u a b) (misordered w u b a) (λ e. (precedes_misordered w u a b e).0, back)
  where
    back : misordered w u b a ≡ true → precedes w u a b ≡ true
    back e =
        let s = (misordered_law w u b a).0 e in
        let o = s.0 in
        let turned : Overlapping w u a b = (o.1, o.0, λ d. o.2 (sym d), overlap_turned w (value b) (mask w b) (value a) (mask w a) o.3, λ named d. o.4 named (sym d)) in
        let ne : rank w a ≢ rank w b = λ d. true≢false (sym ((tied_law w u a b).1 (turned, d)) ∙ untied) in
        (precedes_law w u a b).1 (turned, omega (arith, s.1))

-- the tests of a record beside that of a rule, by the rule's fields
pub rule_overlapping : (w : ℕ) (r : Rule) (x : Words)
    → overlapping w x (word (record_of w r)) ≡ overlaps w (value x) (mask w x) (word r.value) (word r.mask)
rule_overlapping w r x = overlaps_cong w (λ j h. refl) (λ j h. refl) (record_value w r) (record_mask w r)

module _ (w : ℕ) (r : Rule) (named : r.id ≢ 0) (small : r.action < 4294967296) (x : Words) where
  occupied_rule : (b : Bool) → b && (occupied w x && occupied w (word (record_of w r))) ≡ b && occupied w x
  occupied_rule b = ap (λ (o : Bool). b && (occupied w x && o)) (rule_occupied w r named small) ∙ ap (λ (o : Bool). b && o) (and-true (occupied w x))

  pub rule_same : same_id w x (word (record_of w r)) ≡ eqb (ident w x) r.id && occupied w x
  unfolding same_id
  rule_same =
      occupied_rule (eqb (ident w x) (ident w (word (record_of w r)))) ∙ ap (λ (n : ℕ). eqb (ident w x) n && occupied w x) (record_ident w r small)

  distinct_rule : distinct w x (word (record_of w r)) ≡ not (eqb (ident w x) r.id) && occupied w x
  unfolding distinct
  distinct_rule =
      occupied_rule (not (eqb (ident w x) (ident w (word (record_of w r)))))
      ∙ ap (λ (n : ℕ). not (eqb (ident w x) n) && occupied w x) (record_ident w r small)

module _ (w : ℕ) (u : Bool) (r : Rule) (named : r.id ≢ 0) (small : r.action < 4294967296) (x : Words) where
  compared_rule : compared w u x (word (record_of w r)) ≡ not (u && eqb (action w x) r.action) && (not (eqb (ident w x) r.id) && occupied w x)
  compared_rule = ap₂ (λ (n : ℕ) (d : Bool). not (u && eqb (action w x) n) && d) (record_action w r small) (distinct_rule w r named small x)

  pub rule_tied : tied w u x (word (record_of w r))
      ≡ (overlaps w (value x) (mask w x) (word r.value) (word r.mask) && eqb (rank w x) r.priority)
      && (not (u && eqb (action w x) r.action) && (not (eqb (ident w x) r.id) && occupied w x))
  unfolding tied
  rule_tied = ap₂ ◌&&◌ (ap₂ (λ (o : Bool) (p : ℕ). o && eqb (rank w x) p) (rule_overlapping w r x) (record_rank w r)) compared_rule

-- the new rule before the rule of slot i, or after it, would be out of order
abbrev pub new_misordered : ℕ → Bool → Rule → List ℕ → ℕ → Bool
new_misordered w u r t i = misordered w u (word (record_of w r)) (slot_words w t i)

abbrev pub misordered_new : ℕ → Bool → Rule → List ℕ → ℕ → Bool
misordered_new w u r t i = misordered w u (slot_words w t i) (word (record_of w r))

module _ (w : ℕ) (t : List ℕ) (r : Rule) where
  new_same : (i : ℕ) → i < slots w t
      → entry_same w (get_or (entries w t) i (vacant w)) (record_of w r) ≡ same_id w (slot_words w t i) (word (record_of w r))
  new_same i h = same_id_cong w (entry_same_lem w t i h) (λ j l. refl)

  -- the rule's id is new in the layout exactly when it is in the table
  pub new_id_entries : NewId (vacant w) (entry_same w) (entries w t) (record_of w r) ↔ IdNew w t r
  new_id_entries =
      let n = entries_length w t in (λ f i h. sym (new_same i h) ∙ f i (omega arith), λ f i h. new_same i (omega arith) ∙ f i (omega arith))

module _ (w : ℕ) (u : Bool) (t : List ℕ) (r : Rule) where
  new_before : (i : ℕ) → i < slots w t → new_misordered w u r t i ≡ entry_misordered w u (record_of w r) (get_or (entries w t) i (vacant w))
  new_before i h = sym (misordered_cong w u (λ j l. refl) (entry_same_lem w t i h))

  new_after : (i : ℕ) → i < slots w t → misordered_new w u r t i ≡ entry_misordered w u (get_or (entries w t) i (vacant w)) (record_of w r)
  new_after i h = sym (misordered_cong w u (entry_same_lem w t i h) (λ j l. refl))

  -- A + 1 and B, searched in the table itself
  pub after_preceding_slots : after_last (new_misordered w u r t) (slots w t) ≡ after_preceding (vacant w) (entry_misordered w u) (entries w t) (record_of w r)
  after_preceding_slots =
      ap (after_last (new_misordered w u r t)) (sym (entries_length w t))
      ∙ after_preceding_by (vacant w) (entry_misordered w u) (entries w t) (record_of w r) (new_misordered w u r t)
      (λ i h. new_before i (let n = entries_length w t in omega arith))

  pub first_dependant_slots : least (misordered_new w u r t) (slots w t) 0 ≡ first_dependant (vacant w) (entry_misordered w u) (entries w t) (record_of w r)
  first_dependant_slots =
      ap (λ (n : ℕ). least (misordered_new w u r t) n 0) (sym (entries_length w t))
      ∙ first_dependant_by (vacant w) (entry_misordered w u) (entries w t) (record_of w r) (misordered_new w u r t)
      (λ i h. new_after i (let n = entries_length w t in omega arith))

  -- Document 01: A is the highest slot holding a rule that precedes the new one, B the lowest holding one that depends on it.
  module _ (untied : Untied w u t r) (id_new : IdNew w t r) where
    pub precedes_new : (i : ℕ) → i < slots w t → precedes w u (slot_words w t i) (word (record_of w r)) ≡ new_misordered w u r t i
    precedes_new i h = precedes_untied w u (slot_words w t i) (word (record_of w r)) (untied i h)

    pub new_precedes : (i : ℕ) → i < slots w t → precedes w u (word (record_of w r)) (slot_words w t i) ≡ misordered_new w u r t i
    new_precedes i h =
        precedes_untied w u (word (record_of w r)) (slot_words w t i) (tied_turned w u (word (record_of w r)) (slot_words w t i) ∙ untied i h)

    pub after_preceding_precedes : after_last (λ i. precedes w u (slot_words w t i) (word (record_of w r))) (slots w t)
        ≡ after_preceding (vacant w) (entry_misordered w u) (entries w t) (record_of w r)
    after_preceding_precedes = after_last_cong (slots w t) precedes_new ∙ after_preceding_slots

    pub first_dependant_precedes : least (λ i. precedes w u (word (record_of w r)) (slot_words w t i)) (slots w t) 0
        ≡ first_dependant (vacant w) (entry_misordered w u) (entries w t) (record_of w r)
    first_dependant_precedes = least_cong (slots w t) 0 (λ i l h. new_precedes i (omega arith)) ∙ first_dependant_slots

    -- no slot is both: where A > B does not hold, A < B does
    pub uncrossed_apart : after_last (new_misordered w u r t) (slots w t) ≤ suc (least (misordered_new w u r t) (slots w t) 0)
        → after_last (new_misordered w u r t) (slots w t) ≤ least (misordered_new w u r t) (slots w t) 0
    uncrossed_apart h = pick (ℕ_discrete (after_last (new_misordered w u r t) (slots w t)) (suc b))
      where
        b : ℕ
        b = least (misordered_new w u r t) (slots w t) 0

        both : b < slots w t → new_misordered w u r t b ≡ true → misordered_new w u r t b ≡ true → ⊥
        both l p q =
            let x = (precedes_law w u (slot_words w t b) (word (record_of w r))).0 (precedes_new b l ∙ p) in
            let y = (precedes_law w u (word (record_of w r)) (slot_words w t b)).0 (new_precedes b l ∙ q) in
            omega (arith, x.1, y.1)

        pick : Dec (after_last (new_misordered w u r t) (slots w t) ≡ suc b) → after_last (new_misordered w u r t) (slots w t) ≤ b
        pick (no d) = omega arith
        pick (yes d) =
            let last = after_last_law (new_misordered w u r t) (slots w t) in
            let l : b < slots w t = omega (arith, last.high) in
            absurd (both l (last.hit b (sym d)) ((least_law (misordered_new w u r t) (slots w t) 0).hit (omega arith)))

-- an insert's plan, as layouts have it, on the table's entries
abbrev pub ValidPlan : ℕ → Bool → List ℕ → Rule → Choice → Type 0
ValidPlan w u t r choice = Valid (vacant w) (entry_occupied w) (entry_same w) (entry_misordered w u) (entries w t) (record_of w r) choice

-- a table that passes checks 3 and 4, a rule of new id, a slot that is empty, and A < B: there is a plan, and it is a least one
pub insert_words_lem : (w : ℕ) (u : Bool) (t : List ℕ) (r : Rule) → check_twice w t ≡ Pass → check_order w u t ≡ Pass → IdNew w t r → r.id ≢ 0 → r.action < 4294967296
    → (e : ℕ) → e < slots w t → empty w (slot_words w t e) ≡ true → after_last (new_misordered w u r t) (slots w t) ≤ least (misordered_new w u r t) (slots w t) 0
    → LeastPlan (vacant w) (entry_occupied w) (entry_same w) (entry_misordered w u) (entries w t) (record_of w r) (insert_choice_of w u t r)
insert_words_lem w u t r twice order new named small e h free uncrossed =
    let n = entries_length w t in
    insert_plan_lem (entry_laws w u) (entries w t) ((unique_entries w t).1 twice) (record_of w r) ((order_entries w u t).1 order) ((new_id_entries w t r).1 new)
    (rule_occupied w r named small) e (omega arith) (occupied_at_lem w t e h ∙ ap not free)
    (omega (arith, after_preceding_slots w u t r, first_dependant_slots w u t r))

-- the words of a valid plan
module _ (w : ℕ) (u : Bool) (t : List ℕ) (r : Rule) (small : slots w t ≤ emptying) (choice : Choice) (valid : ValidPlan w u t r choice) where
  below : WritesBelow (slots w t) (writes choice)
  below = plan_below w t r small (writes choice) valid.fits

  pub plan_words_count : length (plan_words choice) ≡ suc choice.cost
  plan_words_count = length-map (writes choice) write_word ∙ valid.count

  pub plan_words_class : InClassWords w u t r (plan_words choice)
  plan_words_class = rw (words_back (slots w t) small (writes choice) below) valid.member

  -- between the words the table holds its rules, in order, and after the last the new rule too
  pub plan_words_between : (k : ℕ) → k < length (plan_words choice)
      → Between (vacant w) (entry_occupied w) (entry_same w) (entry_misordered w u) (entries w t) (entries w (apply_words w t r (take k (plan_words choice))))
  plan_words_between k h =
      rw (plan_entries w t r small (writes choice) valid.fits k) (valid.between k (omega (arith, length-map (writes choice) write_word)))

  pub plan_words_placed :
      Placed (vacant w) (entry_occupied w) (entry_same w) (entry_misordered w u) (entries w t) (record_of w r) choice.slot
      (entries w (apply_words w t r (plan_words choice)))
  plan_words_placed = rw (apply_plan w t r small (writes choice) below) valid.placed

-- no words of the class are fewer than a least plan's
pub plan_words_least : (w : ℕ) (u : Bool) (t : List ℕ) (r : Rule) (choice : Choice)
    → LeastPlan (vacant w) (entry_occupied w) (entry_same w) (entry_misordered w u) (entries w t) (record_of w r) choice
    → (ns : List ℕ) → InClassWords w u t r ns → length (plan_words choice) ≤ length ns
plan_words_least w u t r choice plan ns q =
    omega (arith, length-map (writes choice) write_word, length-map ns write_of, plan.least (map write_of ns) q)
