-- End theorems: document 01's demand 3, of what tcam_plan_insert returns and leaves.
use Rattle.std.specs.Prelude.{◌≡◌, refl, Bool, true, false, not, ◌&&◌, ◌||◌, ◌↔◌, List, [], ◌∷◌, ◌++◌, ℕ, suc, ◌+◌, ◌*◌, ◌≤◌, ◌<◌, eqb, ltb, length, get_or, set, take, drop}
use Rattle.std.proofs.Common.{sym, ap, ◌∙◌, true≢false, inl, inr, ⊎_elim, arith, get_or-set_same, ne_eqb, ltb-true, lt-ltb}
use Rattle.std.proofs.Math.Decide.{dec_lt}
use Rattle.std.proofs.lemmas.Bool.{eqb-false, not-true}
use Rattle.search.specs.SearchLaws.{any_yes, any_some, and_law}
use Rattle.layout.specs.Order.{Higher, Lower}
use Rattle.layout.specs.Write.{copy, put}
use Rattle.layout.specs.Held.{Held}
use Rattle.records.specs.Record.{word, record_words, slot_words, rank, empty, occupied, record_of}
use Rattle.records.specs.Order.{slots, same_id}
use Rattle.records.specs.Checks.{Told, success, refusal, unless}
use Rattle.records.specs.Widths.{Width, check_rule, leaves}
use Rattle.records.proofs.WidthsLaws.{rule_law}
use Rattle.records.proofs.RulesLaws.{record_rank, rule_action}
use Rattle.records.proofs.Laws.{same_id_law, twice_law}
use Rattle.records.specs.Entries.{vacant, entries, entry_occupied}
use Rattle.records.proofs.EntriesLaws.{entries_length, entry_at_lem, unique_entries}
use Rattle.records.specs.Writes.{apply_words, held_at, stands_elsewhere, free_at, fits_write, fits_word}
use Rattle.records.specs.ClassWords.{ClassToward, InClassWords}
use Rattle.records.proofs.ClassWordsLaws.{class_words_law}
use Rattle.records.specs.Editions.{Given, lent_rule, ranked, lent_rank}
use Rattle.records.proofs.EditionsLaws.{ranked_record_lem}
use Rattle.records.specs.declared.Rule.{Rule}
use Rattle.records.specs.declared.Cause.TheVariants.{Short}
use Rattle.records.specs.Verdict.{Check}
use Rattle.records.specs.Verdict.{Pass}
use Rattle.buffers.proofs.BuffersLaws.{buffer_short}
use Rattle.neighbours.specs.Neighbours.{insert_checks}
use Rattle.insert_plans.specs.Inserts.{insert_words, planned_words, insert_answer, insert_plan, insert_call}
use Rattle.insert_plans.specs.Insertable.{InsertableGiven}
use Rattle.insert_plans.proofs.InsertableLaws.{insertable_law, insertable_fresh}
use Rattle.insert_plans.proofs.InsertsLaws.{planned_fresh}
use Rattle.insert_plans.specs.Demand3.{ShortestPlan, Demand3}
use Rattle.insert_plans.proofs.Demand3Laws.{demand_3, shortest_words}
use Rattle.marshalling.specs.Cells.{data_cell, spot_cell}
use Rattle.refusals.specs.Rows.{Accepts}
use Rattle.refusals.specs.Calls.{OneId, ReplacesNone, new_rule_rows}
use Rattle.refusals.proofs.PlanningLaws.{insert_rows_lem}
use Rattle.tcam.specs.Cells.{InsertLeft}
use Rattle.promises.specs.ThirdDemand.{LosesNone, WritesToward, OneWay, Stands, InsertPlanned, ThirdDemand}

-- a write that loses no rule, as the test has it
free_law : (w : ℕ) (t : List ℕ) (j : ℕ) → (free_at w t j ≡ true) ↔ LosesNone w t j
unfolding free_at stands_elsewhere held_at
free_law w t j = (forth (empty w (slot_words w t j)) refl, back)
  where
    law : (k : ℕ) → (not (eqb k j) && same_id w (slot_words w t k) (slot_words w t j) ≡ true) ↔ ((k ≡ j → ⊥) × OneId w (slot_words w t k) (slot_words w t j))
    law k =
        let both = and_law (not (eqb k j)) (same_id w (slot_words w t k) (slot_words w t j)) in
        let same = same_id_law w (slot_words w t k) (slot_words w t j) in
        (λ e. let p = both.0 e in (eqb-false k j (not-true (eqb k j) p.0), same.0 p.1), λ p. both.1 (ap not (ne_eqb k j p.0), same.1 p.1))

    forth : (vacant-here : Bool) → empty w (slot_words w t j) ≡ vacant-here → free_at w t j ≡ true → LosesNone w t j
    forth true v e = inl v
    forth false v e =
        let elsewhere : stands_elsewhere w t j ≡ true = sym (ap (λ (b : Bool). b || stands_elsewhere w t j) v) ∙ e in
        let found = any_yes (held_at w t j) (slots w t) elsewhere in
        let p = (law found.0).0 found.2 in
        inr (found.0, found.1, p.0, p.1)

    back : LosesNone w t j → free_at w t j ≡ true
    back (inl v) = ap (λ (b : Bool). b || stands_elsewhere w t j) v
    back (inr found) =
        let elsewhere : stands_elsewhere w t j ≡ true = any_some (held_at w t j) (slots w t) found.0 found.1 ((law found.0).1 (found.2, found.3)) in
        or_right (empty w (slot_words w t j)) elsewhere
      where
        or_right : (b : Bool) {c : Bool} → c ≡ true → b || c ≡ true
        or_right true e = refl
        or_right false e = e

-- a copy and a put-in that fit, as the test has them
copy_law : (w : ℕ) (t : List ℕ) (from to : ℕ) → (from ≡ to → ⊥)
    → (fits_write w t (copy from to) ≡ true) ↔ ((from < slots w t) × (occupied w (slot_words w t from) ≡ true) × (to < slots w t) × LosesNone w t to)
copy_law w t from to apart =
    let a = and_law (ltb from (slots w t)) (ltb to (slots w t) && (not (eqb from to) && (occupied w (slot_words w t from) && free_at w t to))) in
    let b = and_law (ltb to (slots w t)) (not (eqb from to) && (occupied w (slot_words w t from) && free_at w t to)) in
    let c = and_law (not (eqb from to)) (occupied w (slot_words w t from) && free_at w t to) in
    let d = and_law (occupied w (slot_words w t from)) (free_at w t to) in (
      λ e. let p = a.0 e in
          let q = b.0 p.1 in
          let r = d.0 (c.0 q.1).1 in
          (ltb-true _ _ p.0, r.0, ltb-true _ _ q.0, (free_law w t to).0 r.1),
      λ p. a.1 (lt-ltb _ _ p.0, b.1 (lt-ltb _ _ p.2, c.1 (ap not (ne_eqb from to apart), d.1 (p.1, (free_law w t to).1 p.3)))),
    )

put_law : (w : ℕ) (t : List ℕ) (to : ℕ) → (fits_write w t (put to) ≡ true) ↔ ((to < slots w t) × LosesNone w t to)
put_law w t to =
    let a = and_law (ltb to (slots w t)) (free_at w t to) in
    (λ e. let p = a.0 e in (ltb-true _ _ p.0, (free_law w t to).0 p.1), λ p. a.1 (lt-ltb _ _ p.0, (free_law w t to).1 p.1))

-- the class of the words below is that of the demand
module _ (toward : ℕ → ℕ → Type 0) (apart : (i k : ℕ) → toward i k → i ≡ k → ⊥) (w : ℕ) (u : Bool) (t : List ℕ) (rule : Rule) (words : List ℕ) where
  abbrev then_table : ℕ → List ℕ
  then_table k = apply_words w t rule (take k words)

  sequence_of : ClassToward toward w u t rule words → WritesToward toward w u t rule words
  sequence_of c = record {
    some = c.some;
    copies = λ k h.
        let x = c.copies k h in
        let fits = sym (ap (fits_write w (then_table k)) x.2) ∙ c.fits k (omega arith) in
        let p = (copy_law w (then_table k) x.0 x.1 (apart _ _ x.3)).0 fits in
        (x.0, x.1, x.2, x.3, p.0, p.1, p.2, p.3);
    last = λ k h.
        let x = c.last k h in
        let fits = sym (ap (fits_write w (then_table k)) x.1) ∙ c.fits k (omega (arith, h)) in
        let p = (put_law w (then_table k) x.0).0 fits in
        (x.0, x.1, p.0, p.1);
    order = c.order;
  }

  class_of : WritesToward toward w u t rule words → ClassToward toward w u t rule words
  class_of s = record {
    some = s.some;
    copies = λ k h. let x = s.copies k h in (x.0, x.1, x.2, x.3);
    last = λ k h. let x = s.last k h in (x.0, x.1);
    fits = λ k h. fit k h (dec_lt (suc k) (length words));
    order = s.order;
  }
    where
      fit : (k : ℕ) → k < length words → Dec (suc k < length words) → fits_word w (then_table k) (get_or words k 0) ≡ true
      fit k h (yes l) =
          let x = s.copies k l in
          ap (fits_write w (then_table k)) x.2 ∙ (copy_law w (then_table k) x.0 x.1 (apart _ _ x.3)).1 (x.4, x.5, x.6, x.7)
      fit k h (no l) =
          let x = s.last k (omega arith) in
          ap (fits_write w (then_table k)) x.1 ∙ (put_law w (then_table k) x.0).1 (x.2, x.3)

higher_apart : (i k : ℕ) → Higher i k → i ≡ k → ⊥
higher_apart i k l e = omega arith

lower_apart : (i k : ℕ) → Lower i k → i ≡ k → ⊥
lower_apart i k l e = omega arith

one_way : (w : ℕ) (u : Bool) (t : List ℕ) (rule : Rule) (words : List ℕ) → InClassWords w u t rule words ↔ OneWay w u t rule words
one_way w u t rule words = (
  λ c. ⊎_elim (λ h. inl (sequence_of Higher higher_apart w u t rule words h)) (λ l. inr (sequence_of Lower lower_apart w u t rule words l))
      ((class_words_law w u t rule words).0 c),
  λ o. (class_words_law w u t rule words).1
      (⊎_elim (λ s. inl (class_of Higher higher_apart w u t rule words s)) (λ s. inr (class_of Lower lower_apart w u t rule words s)) o),
)

-- a record that stands is an entry that is held
pub stands_law : (w : ℕ) (t x : List ℕ) → Held (vacant w) (entry_occupied w) (entries w t) x ↔ Stands w t x
stands_law w t x = (
  λ h. let at = h.1 in
      let less : at.0 < slots w t = omega (arith, at.1, entries_length w t) in
      (h.0, (at.0, less, sym (entry_at_lem w t at.0 less) ∙ at.2)),
  λ s. let at = s.1 in (s.0, (at.0, omega (arith, at.1, entries_length w t), entry_at_lem w t at.0 at.1 ∙ at.2)),
)

-- an accepted insert that replaces no rule has the demand's premises
fresh_premises : (w : ℕ) (u : Bool) (t : List ℕ) (given : Given) → Accepts (new_rule_rows w u t given) → ReplacesNone w u t (word (record_of w (ranked w given)))
    → InsertableGiven w u t given
fresh_premises w u t given accepts none =
    ⊎_elim (λ p. p) (λ r. absurd (none r.0 r.1.replacing.inside r.1.replacing.replaced))
    ((insertable_law w u t given).0 ((insert_rows_lem w u t given).passes.1 accepts))

-- for any number of words: the plan's words are of the class, no sequence of it is shorter, and with buffer enough they are what the call leaves
pub least_words : (w : ℕ) (u : Bool) (t : List ℕ) (given : Given) → given.rule.action < 4294967296 → Accepts (new_rule_rows w u t given)
    → ReplacesNone w u t (word (record_of w (ranked w given)))
    → (words : List ℕ) × OneWay w u t (ranked w given) words × ((other : List ℕ) → OneWay w u t (ranked w given) other → length words ≤ length other)
    × ((plan : List ℕ) → length words ≤ length plan
    → (insert_answer w u t given (length plan) ≡ success (length words ∷ [])) × (insert_plan w u t given plan ≡ words ++ drop (length words) plan))
least_words w u t given small accepts none =
    let rule = ranked w given in
    let premises = fresh_premises w u t given accepts none in
    let best = shortest_words w u t given small premises in (
      insert_words w u t rule,
      (one_way w u t rule (insert_words w u t rule)).0 best.class,
      λ other o. best.least other ((one_way w u t rule other).1 o),
      λ plan room. let p = (demand_3 w u t given small premises plan).shortest room in (p.answer, p.buffer),
    )

-- document 01's demand 3, at every width that there is
module _ (w : ℕ) (u : Bool) (known : Width w) (e : ℕ) (t lent : List ℕ) (size : length lent ≡ record_words w) (accepts : Accepts (new_rule_rows w u t (lent_rule w e lent)))
    (none : ReplacesNone w u t (word (record_of w (ranked w (lent_rule w e lent))))) where
  abbrev given : Given
  given = lent_rule w e lent

  abbrev rule : Rule
  rule = ranked w given

  checks : insert_checks w u t given ≡ Pass
  checks = (insert_rows_lem w u t given).passes.1 accepts

  premises : InsertableGiven w u t given
  premises = fresh_premises w u t given accepts none

  fresh : planned_words w u t rule ≡ insert_words w u t rule
  fresh = planned_fresh w u t rule (insertable_fresh w u t rule premises.insertable)

  abbrev words : List ℕ
  words = insert_words w u t rule

  abbrev last_table : List ℕ
  last_table = apply_words w t rule words

  best : ShortestPlan w u t rule (insert_answer w u t given (length words)) words (insert_plan w u t given words)
  best = shortest_words w u t given (rule_action w (word lent)) premises

  planned : (result : ℕ) (plan after : List ℕ) (count count' spot spot' : ℕ) → InsertLeft w u e t lent result plan after count count' spot spot'
      → InsertPlanned w u t rule result plan after count count' spot spot'
  planned result plan after count count' spot spot' left = record {
    words = words;
    class = (one_way w u t rule words).0 best.class;
    stands = λ x. (
      λ s. ⊎_elim (λ h. inl ((stands_law w t x).0 h)) inr ((best.placed.held x).0 ((stands_law w last_table x).1 s)),
      λ s. (stands_law w last_table x).0 ((best.placed.held x).1 (⊎_elim (λ h. inl ((stands_law w t x).1 h)) inr s)),
    );
    once = λ i k h l one.
        true≢false (sym ((same_id_law w (slot_words w last_table i) (slot_words w last_table k)).1 one)
        ∙ (twice_law w last_table).0 ((unique_entries w last_table).0 best.placed.unique) i k h l);
    least = λ other o. best.least other ((one_way w u t rule other).1 o);
    cost = promised.needed;
    few = promised.few;
    enough = λ room.
        let p = promised.shortest room in
        (left.left.number ∙ ap (λ (x : Told). x.number) p.answer, left.left.counted ∙ ap (λ (x : Told). data_cell x 0 count) p.answer, p.buffer);
    short = λ less.
        let r = buffer_short (planned_words w u t rule) plan refl checks (omega (arith, less, ap length fresh)) in
        let told : insert_call w u e t lent (length plan) ≡ refusal Short (length words) =
        ap (λ (x : Check). unless x (insert_answer w u t given (length plan))) passed ∙ (sym r.0 ∙ ap (λ (l : List ℕ). refusal Short (length l)) fresh) in (
          left.left.number ∙ ap (λ (x : Told). x.number) told,
          left.left.spotted ∙ ap (λ (x : Told). spot_cell x spot) told,
          left.left.plan ∙ (ap (λ (x : Check). leaves x (insert_plan w u t given plan) plan) passed ∙ sym r.1),
        );
  }
    where
      passed : check_rule w (length lent) ≡ Pass
      passed = (rule_law w (length lent)).1 (known, size)

      promised : Demand3 w u t rule (insert_call w u e t lent (length plan)) plan after
      promised = left.shortest (record { width = known; words = size; given = premises })

  -- the record that stands is the one that was lent, with the rank for its last word
  same_record : record_of w rule ≡ set lent (2 * w + 1) rule.priority
  same_record =
      let made = ranked_record_lem w e lent size premises.sound in
      let stored = get_or-set_same lent (2 * w + 1) (lent_rank w e lent) 0 (omega (arith, size)) in
      sym made ∙ ap (set lent (2 * w + 1)) (sym stored ∙ (ap (λ (l : List ℕ). rank w (word l)) made ∙ record_rank w rule))

pub third_demand : (w : ℕ) (u : Bool) → Width w → ThirdDemand w u
third_demand w u known = record {
  plans = λ e t rule size accepts none result plan after count count' spot spot' left.
      (planned w u known e t rule size accepts none result plan after count count' spot spot' left, same_record w u known e t rule size accepts none);
}
