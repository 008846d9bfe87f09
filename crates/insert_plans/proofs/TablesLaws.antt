-- End theorems on document 01's marked tables: all by one computation at each width, and those worded for any rule or id also for any,
-- for any number of words of a value.
use Rattle.std.specs.Prelude.{◌≡◌, Bool, true, false, not, ◌&&◌, ◌≢◌, ◌⊎◌, ℕ, zero, suc, ◌+◌, ◌*◌, ◌/◌, ◌≤◌, ◌<◌, eqb, length, drop}
use Rattle.std.proofs.Math.Path.{refl, sym, ap, ap₂}
use Rattle.std.proofs.Common.{◌∙◌, subst, true≢false, ext_get_or, ne_eqb, eqb-true}
use Rattle.std.proofs.Math.Logic.◌⊎◌.{inl, inr}
use mathlib.Core.List.{List, [], ◌∷◌, ◌++◌, map, foldl}
use Rattle.std.proofs.Math.Nat.{div_self}
use Rattle.std.proofs.Math.Decide.{dec_lt}
use native.Mathlib.Omega.{arith}
use Rattle.std.proofs.lemmas.List.{length-replicate}
use Rattle.std.proofs.lemmas.Bool.{not-true}
use Rattle.search.specs.SearchLaws.{least_none, and_left, and_right}
use Rattle.ternary.specs.Pattern.{Words, Overlap, overlaps}
use Rattle.ternary.proofs.PatternLaws.{overlaps_law}
use Rattle.layout.specs.Write.{moves}
use Rattle.layout.specs.Plan.{Choice, insert_choice}
use Rattle.records.specs.Record.{word, record_words, slot_words, value, mask, ident, rank, listed, empty, occupied, sound_rule, record_of}
use Rattle.records.specs.Order.{slots, overlapping, precedes, tied, same_id, misordered, Replaceable}
use Rattle.records.specs.Checks.{success, refusal, unless, table_checks}
use Rattle.records.proofs.Laws.{passed, failed, empty_law, sound_law, same_id_law, precedes_law, precedes_misordered, tied_law, shape_law, slot_checks_law}
use Rattle.records.proofs.Laws.{table_checks_law, records_law, twice_law, order_law}
use Rattle.records.specs.Widths.{Width, leaves}
use Rattle.records.proofs.WidthsLaws.{width_law, rule_law}
use Rattle.records.specs.Rules.{Fields}
use Rattle.records.specs.Entries.{vacant, entry_at, entries, entry_occupied, entry_misordered}
use Rattle.records.specs.Inserts.{plan_words}
use Rattle.records.specs.Editions.{Given, ranked, Edition}
use Rattle.records.proofs.EditionsLaws.{given_law, rank_sound, ranked_action}
use Rattle.records.specs.declared.Rule.{Rule}
use Rattle.records.specs.declared.Cause.TheVariants.{Known, Tie, Full, Short, Unknown}
use Rattle.records.specs.Verdict.{Check}
use Rattle.records.specs.Verdict.{Pass, Fail}
use Rattle.records.proofs.ChecksLaws.{lowest_none}
use Rattle.records.proofs.RulesLaws.{zero_word, length_listed, record_length, record_rank, rule_of_record}
use Rattle.records.proofs.EqualLaws.{equal_overlapping}
use Rattle.records.proofs.EntriesLaws.{entry_laws, refuted, occupied_cong, misordered_cong, listed_same}
use Rattle.records.proofs.InsertsLaws.{overlapping_turned, rule_overlapping, rule_same, rule_tied}
use Rattle.buffers.proofs.BuffersLaws.{buffer_refused, buffer_short, buffer_written}
use Rattle.neighbours.specs.Neighbours.{check_known, check_tie, replaces, new_checks, rule_words, rule_checks, insert_checks}
use Rattle.neighbours.proofs.NeighboursLaws.{room_none}
use Rattle.delete_plans.specs.Deletes.{has_id, slot_of_id, delete_checks, delete_words}
use Rattle.delete_plans.proofs.DeletesLaws.{id_accepted, id_absent}
use Rattle.insert_plans.specs.Inserts.{insert_answer, insert_plan, insert_words, planned_words}
use Rattle.insert_plans.proofs.InsertsLaws.{planned_fresh}
use Rattle.insert_plans.specs.Insertable.{InsertableGiven}
use Rattle.insert_plans.proofs.InsertableLaws.{rule_words_lem, replaces_none, insertable_fresh, insertable_passes}
use Rattle.insert_plans.specs.Tables.{moved, planned, rule2, new, value_from, before_crossing, rule_d, before_third, rule_new, declined, rule5}
use Rattle.insert_plans.specs.Tables.{deleting, rule3, rule_a, rule_other, mask_from, expected, rule7, rule6, rule_c, rule1, result, result_of}
use Rattle.insert_plans.specs.Tables.{Result, called, called_of, TablesAtTheEdge, CallsAtTheEdge, AgainAtTheEdge, again_items, again_table, again_equal, again_known, again_mask, again_rank}
use Rattle.insert_plans.specs.Tables.{UncountedAtTheEdge, uncounted_items, counted_items, loose_table, loose_rule, alike_table, alike_rule, equal_table, equal_rule_lem}
use Rattle.insert_plans.specs.Tables.{crossed_table, crossed_rule, CoveredAtTheEdge, replied_of, told_of, covered_items, nested_table, halves_table}
use Rattle.insert_plans.specs.Tables.{items, rule4, vacancy, after_third, inserting, line, after_insert, precedence}

-- what holds at two words and at five holds at every width
by_widths : (P : ℕ → Type 0) → P 2 → P 5 → (w : ℕ) → Width w → P w
by_widths P narrow wide w known = pick known.2
  where
    pick : (w ≡ 2) ⊎ (w ≡ 5) → P w
    pick (inl e) = subst P (sym e) narrow
    pick (inr e) = subst P (sym e) wide

-- the tables of the items are those which the script's inserts leave, carried out by their plans
script_tables : (w : ℕ) → Width w
    → (foldl (after_insert w false) (vacancy w ++ vacancy w ++ vacancy w ++ vacancy w ++ vacancy w ++ vacancy w) (rule1 w ∷ rule2 w ∷ []) ≡ before_third w)
    × (after_insert w false (before_third w) (rule3 w) ≡ after_third w)
    × (foldl (after_insert w false) (after_third w) (rule5 w ∷ rule6 w ∷ []) ≡ before_crossing w)
unfolding after_insert before_third after_third before_crossing rule1 rule2 rule3 rule5 rule6 line value_from mask_from
script_tables = by_widths _ (refl, refl, refl) (refl, refl, refl)

-- the premises of the five-slot table, and of the new rule between a and b
five_slot_pairs : (w : ℕ) → Width w → precedence w false (rule_new w ∷ rule_a w ∷ rule_other w ∷ rule_c w ∷ rule_d w ∷ [])
    ≡ (false ∷ true ∷ false ∷ false ∷ false ∷ [])
    ∷ (false ∷ false ∷ false ∷ true ∷ false ∷ [])
    ∷ (false ∷ false ∷ false ∷ false ∷ false ∷ [])
    ∷ (false ∷ false ∷ false ∷ false ∷ true ∷ [])
    ∷ (false ∷ false ∷ false ∷ false ∷ false ∷ [])
    ∷ []
unfolding precedence rule_a rule_other rule_c rule_d rule_new line value_from mask_from
five_slot_pairs = by_widths _ refl refl

between_pairs : (w : ℕ) → Width w → precedence w false (rule1 w ∷ rule3 w ∷ rule2 w ∷ [])
    ≡ (false ∷ true ∷ true ∷ [])
    ∷ (false ∷ false ∷ true ∷ [])
    ∷ (false ∷ false ∷ false ∷ [])
    ∷ []
unfolding precedence rule1 rule2 rule3 line value_from mask_from
between_pairs = by_widths _ refl refl

pub tables_at_the_edge : (w : ℕ) → Width w → TablesAtTheEdge w
unfolding result_of expected items before_third after_third before_crossing rule1 rule2 rule3 rule4 rule5 rule6 rule7 rule_a rule_other rule_c rule_d rule_new line value_from mask_from
tables_at_the_edge = by_widths _ refl refl

pub calls_at_the_edge : (w : ℕ) → Width w → CallsAtTheEdge w
unfolding called_of expected items before_third after_third before_crossing rule1 rule2 rule3 rule4 rule5 rule6 rule7 rule_a rule_other rule_c rule_d rule_new line value_from mask_from
calls_at_the_edge = by_widths _ refl refl

pub sent_again : (w : ℕ) → Width w → AgainAtTheEdge w
unfolding called_of expected again_items again_table again_equal again_known again_mask again_rank rule1 rule2 line value_from mask_from
sent_again = by_widths _ (refl, refl) (refl, refl)

pub uncounted_tables : (w : ℕ) → Width w → UncountedAtTheEdge w
unfolding called_of expected uncounted_items counted_items loose_table loose_rule alike_table alike_rule equal_table equal_rule_lem crossed_table crossed_rule line value_from mask_from
uncounted_tables = by_widths _ ((refl, refl), (refl, refl)) ((refl, refl), (refl, refl))

pub covered_rules : (w : ℕ) → Width w → CoveredAtTheEdge w
unfolding replied_of told_of covered_items nested_table halves_table line value_from mask_from
covered_rules = by_widths _ refl refl

-- at a width that there is, what a call gives is what the definitions give
pub called_insert : (w : ℕ) (u : Bool) → Width w → (t : List ℕ) (given : Given) → Fields w given.rule → (plan : List ℕ)
    → called w u t (inserting given) plan ≡ result w u t (inserting given) plan
called_insert w u width t given fields plan =
    ap₂ lent ((rule_law w (length (record_of w given.rule))).1 (width, record_length w given.rule)) (rule_of_record w given.rule fields)
  where
    with_edition : Rule → Given
    with_edition r = record { rule = r; edition = given.edition }

    lent : Check → Rule → Result
    lent check r = record {
      answer = unless check (insert_answer w u t (with_edition r) (length plan));
      buffer = leaves check (insert_plan w u t (with_edition r) plan) plan;
    }

pub called_delete : (w : ℕ) (u : Bool) → Width w → (t : List ℕ) (id : ℕ) (plan : List ℕ) → called w u t (deleting id) plan ≡ result w u t (deleting id) plan
called_delete w u width t id plan = rw ((width_law w).1 width)

-- a plan whose words are known, in a buffer that holds them
words_outcome : (w : ℕ) (u : Bool) (t : List ℕ) (given : Given) {words : List ℕ} → Pass ≡ insert_checks w u t given → replaces w u t (rule_words w (ranked w given)) ≡ false
    → insert_words w u t (ranked w given) ≡ words → (plan : List ℕ) → length words ≤ length plan
    → result w u t (inserting given) plan ≡ planned (length words) (words ++ drop (length words) plan)
words_outcome w u t given checks none chosen-words plan room =
    let e = planned_fresh w u t (ranked w given) none ∙ chosen-words in
    let r = buffer_written (planned_words w u t (ranked w given)) plan checks refl (subst (λ (l : List ℕ). length l ≤ length plan) (sym e) room) in
    let answer = sym r.0 ∙ ap (λ (l : List ℕ). success (length l ∷ [])) e in
    let after = sym r.1 ∙ ap (λ (l : List ℕ). l ++ drop (length l) plan) e in
    λ k. record { answer = answer k; buffer = after k }

-- the words of a plan, from the layout of the table and the choice on it
chosen : (w : ℕ) (u : Bool) (t : List ℕ) (rule : Rule) {l : List (List ℕ)} {choice : Choice} → entries w t ≡ l
    → insert_choice (vacant w) (entry_occupied w) (entry_misordered w u) l (record_of w rule) ≡ choice → insert_words w u t rule ≡ plan_words choice
chosen w u t rule e f =
    ap (λ (l : List (List ℕ)). plan_words (insert_choice (vacant w) (entry_occupied w) (entry_misordered w u) l (record_of w rule))) e ∙ ap plan_words f

-- an empty slot's record, as a list
vacant_entry : (w : ℕ) (t : List ℕ) (i : ℕ) → empty w (slot_words w t i) ≡ true → entry_at w t i ≡ vacancy w
vacant_entry w t i e =
    let size = length_listed (record_words w) (slot_words w t i) in
    ext_get_or 0 (entry_at w t i) (vacancy w) (size ∙ sym (length-replicate (record_words w) 0))
    (λ j h.
    let l : j < record_words w = omega (arith, size) in
    listed_same w (slot_words w t i) j l ∙ ((empty_law w (slot_words w t i)).0 e j l ∙ sym (zero_word (record_words w) j)))

-- a layout of one empty entry: the choice
alone_choice : {S : Type 0} (none : S) (full : S → Bool) (wrong : S → S → Bool) (e fresh : S) → full e ≡ false → wrong e fresh ≡ false
    → wrong fresh e ≡ false → insert_choice none full wrong (e ∷ []) fresh ≡ record { down = true; cost = 0; slot = 0; chain = [] }
unfolding result_of
alone_choice none full wrong e fresh vacant-e before-fresh after-fresh = simp (vacant-e, before-fresh, after-fresh)

-- One empty slot, any sound rule, given with either edition: one write, to 0.
module _ (w : ℕ) (u : Bool) where
  one_vacant : slots w (vacancy w) ≡ 1
  one_vacant = ap (λ (n : ℕ). n / record_words w) (length-replicate (record_words w) 0) ∙ div_self (omega arith)

  vacant_slot : (i : ℕ) → empty w (slot_words w (vacancy w) i) ≡ true
  vacant_slot i = (empty_law w (slot_words w (vacancy w) i)).1 (λ j h. zero_word (record_words w) (i * record_words w + j))

  vacant_table : table_checks w u (vacancy w) ≡ Pass
  vacant_table =
      let one = one_vacant in
      let size : length (vacancy w) ≡ record_words w = length-replicate (record_words w) 0 in
      (table_checks_law w u (vacancy w)).1 (
        (slot_checks_law w (vacancy w)).1 (
          (shape_law w (vacancy w)).1 (1, omega arith, omega arith, omega arith),
          (records_law w (vacancy w)).1 (λ i h. inl (vacant_slot i)),
        ),
        (twice_law w (vacancy w)).1 (λ x y l h. absurd (omega arith)),
        (order_law w u (vacancy w)).1 (λ x y l h. absurd (omega arith)),
      )

  vacant_insertable : (given : Given) → sound_rule w given.rule ≡ true → Edition given.edition → InsertableGiven w u (vacancy w) given
  vacant_insertable given sound edition = record {
    sound = sound;
    edition = edition;
    insertable = record {
      table = vacant_table;
      sound = rank_sound w given sound;
      new = λ i h. refuted (λ e. true≢false (sym ((same_id_law w _ _).0 e).0 ∙ ap not (vacant_slot i)));
      untied = λ i h. refuted (λ e. true≢false (sym ((tied_law w u _ _).0 e).0.0 ∙ ap not (vacant_slot i)));
      room = (0, omega (arith, one_vacant), vacant_slot 0);
      uncrossed = λ i k h l p d. absurd (true≢false (sym ((precedes_law w u _ _).0 p).0.0 ∙ ap not (vacant_slot i)));
      adds = λ named i h other. true≢false (sym other.equal.first ∙ ap not (vacant_slot i));
    };
  }

  -- no rule precedes the new one, and none depends on it
  vacant_words : (rule : Rule) → insert_words w u (vacancy w) rule ≡ new 0 ∷ []
  unfolding entries listed moves
  vacant_words rule =
      let layout : entries w (vacancy w) ≡ vacancy w ∷ [] =
      ap (λ (n : ℕ). map (entry_at w (vacancy w)) (listed n (λ i. i))) one_vacant
      ∙ ap (λ (l : List ℕ). l ∷ []) (vacant_entry w (vacancy w) 0 (vacant_slot 0)) in
      let laws = entry_laws w u in
      chosen w u (vacancy w) rule layout (alone_choice (vacant w) (entry_occupied w) (entry_misordered w u) (vacancy w) (record_of w rule) laws.vacant
      (laws.misordered_left (vacancy w) (record_of w rule) laws.vacant) (laws.misordered_right (record_of w rule) (vacancy w) laws.vacant))

  pub one_empty_slot : (given : Given) → sound_rule w given.rule ≡ true → Edition given.edition → (plan : List ℕ) → 1 ≤ length plan
      → result w u (vacancy w) (inserting given) plan ≡ planned 1 (new 0 ∷ drop 1 plan)
  one_empty_slot given sound edition plan room =
      let p = vacant_insertable given sound edition in
      words_outcome w u (vacancy w) given (sym (insertable_passes w u (vacancy w) given p))
      (insertable_fresh w u (vacancy w) (ranked w given) p.insertable) (vacant_words (ranked w given)) plan room

-- One slot, occupied, any sound rule of new id that ties with nothing: 9.
module _ (w : ℕ) (u : Bool) (t : List ℕ) (one_slot : slots w t ≡ 1) where
  only_slot : (P : ℕ → Type 0) → P 0 → (i : ℕ) → i < slots w t → P i
  only_slot P p zero h = p
  only_slot P p (suc i) h = absurd (omega arith)

  pub one_slot_full : table_checks w u t ≡ Pass → occupied w (slot_words w t 0) ≡ true
      → (given : Given) → sound_rule w given.rule ≡ true → Edition given.edition → given.rule.action < 4294967296
      → ident w (slot_words w t 0) ≢ (ranked w given).id
      → (Overlap w (value (slot_words w t 0)) (mask w (slot_words w t 0)) (word (ranked w given).value) (word (ranked w given).mask)
      → rank w (slot_words w t 0) ≢ (ranked w given).priority)
      → (plan : List ℕ) → result w u t (inserting given) plan ≡ declined 9 0 plan
  unfolding insert_checks rule_checks new_checks check_known check_tie
  one_slot_full table filled given sound edition action32 id-new untied plan =
      let r = buffer_refused (planned_words w u t rule) plan checks refl in λ k. record { answer = sym r.0 k; buffer = sym r.1 k }
    where
      rule : Rule
      rule = ranked w given

      small : rule.action < 4294967296
      small = omega (arith, action32, ranked_action w given)

      named : rule.id ≢ 0
      named = ((sound_law w _ _ _ _).0 (rank_sound w given sound)).0

      here : Words
      here = slot_words w t 0

      known : same_id w here (word (record_of w rule)) ≡ false
      known = rule_same w rule named small here ∙ rw (ne_eqb (ident w here) rule.id id-new)

      ties : tied w u here (word (record_of w rule)) ≡ false
      ties =
          let over = overlaps w (value here) (mask w here) (word rule.value) (word rule.mask) in
          let level = eqb (rank w here) rule.priority in
          refuted (λ e.
          let p = and_left (over && level) _ (sym (rule_tied w u rule named small here) ∙ e) in
          untied ((overlaps_law w _ _ _ _).0 (and_left over level p)) (eqb-true (rank w here) rule.priority (and_right over level p)))

      fresh : replaces w u t (rule_words w rule) ≡ false
      fresh =
          replaces_none w u t rule (only_slot _ (λ other.
          untied ((overlaps_law w _ _ _ _).0 (sym (rule_overlapping w rule here) ∙ equal_overlapping w here (word (record_of w rule)) other.equal))
          (other.equal.ranks ∙ record_rank w rule)))

      own : new_checks w u t (rule_words w rule) ≡ new_checks w u t (word (record_of w rule))
      own = ap (new_checks w u t) (rule_words_lem w rule)

      new_checks_lem : Fail Full 0 ≡ new_checks w u t (word (record_of w rule))
      new_checks_lem =
          passed refl (sym (lowest_none Known _ (slots w t) (only_slot _ known)))
          (rw (ap (replaces w u t) (sym (rule_words_lem w rule)) ∙ fresh)
          (passed refl (sym (lowest_none Tie _ (slots w t) (only_slot _ ties)))
          (room_none w t (only_slot _ (not-true (empty w here) filled)))))

      checks : Fail Full 0 ≡ insert_checks w u t given
      checks = passed refl table (failed _ (passed refl ((given_law w given).1 (sound, edition)) (new_checks_lem ∙ sym own)) refl)

-- The new rule between a in slot 1 and b in slot 2, slot 0 empty: what the tests of entries say, e being the empty entry, ..
record Between {S : Type 0} (full : S → Bool) (wrong : S → S → Bool) (e a b fresh : S) : Type 0 where
  empty_e : full e ≡ false
  full_a : full a ≡ true
  full_b : full b ≡ true
  before_e : (x : S) → wrong x e ≡ false
  after_e : (x : S) → wrong e x ≡ false
  b_a : wrong b a ≡ true
  fresh_a : wrong fresh a ≡ true
  a_fresh : wrong a fresh ≡ false
  b_fresh : wrong b fresh ≡ true
  fresh_b : wrong fresh b ≡ false

-- .. the choice from them, ..
module _ {S : Type 0} (none : S) (full : S → Bool) (wrong : S → S → Bool) (e a b fresh : S) (p : Between full wrong e a b fresh) where
  up_choice : insert_choice none full wrong (e ∷ a ∷ b ∷ []) fresh ≡ record { down = false; cost = 1; slot = 1; chain = 0 ∷ [] }
  unfolding result_of
  up_choice = simp (p.empty_e, p.full_a, p.full_b, p.before_e, p.after_e, p.b_a, p.fresh_a, p.a_fresh, p.b_fresh, p.fresh_b)

  down_choice : insert_choice none full wrong (e ∷ a ∷ b ∷ e ∷ []) fresh ≡ record { down = true; cost = 1; slot = 2; chain = 3 ∷ [] }
  unfolding result_of
  down_choice = simp (p.empty_e, p.full_a, p.full_b, p.before_e, p.after_e, p.b_a, p.fresh_a, p.a_fresh, p.b_fresh, p.fresh_b)

-- .. and any table, any rule that passes the checks: 1→0, new→1; with slot 3 empty too: 2→3, new→2.
module _ (w : ℕ) (u : Bool) (t : List ℕ) (given : Given) (checks : insert_checks w u t given ≡ Pass) (vacant-0 : empty w (slot_words w t 0) ≡ true)
    (a-b : precedes w u (slot_words w t 1) (slot_words w t 2) ≡ true)
    (a-rule : precedes w u (slot_words w t 1) (word (record_of w (ranked w given))) ≡ true)
    (rule-b : precedes w u (word (record_of w (ranked w given))) (slot_words w t 2) ≡ true) where
  between : Between (entry_occupied w) (entry_misordered w u) (vacancy w) (entry_at w t 1) (entry_at w t 2) (record_of w (ranked w given))
  between =
      let a = slot_words w t 1 in
      let b = slot_words w t 2 in
      let fresh = word (record_of w (ranked w given)) in
      let same = listed_same w in
      let pair = ((precedes_law w u a b).0 a-b).0 in
      record {
        empty_e = (entry_laws w u).vacant;
        full_a = occupied_cong w (same a) ∙ pair.0;
        full_b = occupied_cong w (same b) ∙ pair.1;
        before_e = λ x. (entry_laws w u).misordered_right x (vacancy w) (entry_laws w u).vacant;
        after_e = λ x. (entry_laws w u).misordered_left (vacancy w) x (entry_laws w u).vacant;
        b_a = misordered_cong w u (same b) (same a) ∙ (precedes_misordered w u a b a-b).0;
        fresh_a = misordered_cong w u (λ j l. refl) (same a) ∙ (precedes_misordered w u a fresh a-rule).0;
        a_fresh = misordered_cong w u (same a) (λ j l. refl) ∙ (precedes_misordered w u a fresh a-rule).1;
        b_fresh = misordered_cong w u (same b) (λ j l. refl) ∙ (precedes_misordered w u fresh b rule-b).0;
        fresh_b = misordered_cong w u (λ j l. refl) (same b) ∙ (precedes_misordered w u fresh b rule-b).1;
      }

  -- slots 1 and 2 have other ranks than the rule, and the others are empty: it replaces none
  fresh : (n : ℕ) → slots w t ≡ n → ((i : ℕ) → 3 ≤ i → i < n → empty w (slot_words w t i) ≡ true) → replaces w u t (rule_words w (ranked w given)) ≡ false
  fresh n size vacant-last = replaces_none w u t (ranked w given) (λ i h. equal i (omega (arith, h, size)))
    where
      own : Words
      own = word (record_of w (ranked w given))

      equal : (i : ℕ) → i < n → Replaceable w u (slot_words w t i) own → ⊥
      equal zero h e = true≢false (sym e.equal.first ∙ ap not vacant-0)
      equal (suc zero) h e = omega (arith, e.equal.ranks, ((precedes_law w u (slot_words w t 1) own).0 a-rule).1)
      equal (suc (suc zero)) h e = omega (arith, e.equal.ranks, ((precedes_law w u own (slot_words w t 2)).0 rule-b).1)
      equal (suc (suc (suc i))) h e = true≢false (sym e.equal.first ∙ ap not (vacant-last (suc (suc (suc i))) (omega arith) h))

  pub between_up : slots w t ≡ 3 → (plan : List ℕ) → 2 ≤ length plan → result w u t (inserting given) plan ≡ planned 2 (moved 1 0 ∷ new 1 ∷ drop 2 plan)
  unfolding entries listed moves
  between_up three plan room =
      let layout : entries w t ≡ vacancy w ∷ entry_at w t 1 ∷ entry_at w t 2 ∷ [] =
      ap (λ (n : ℕ). map (entry_at w t) (listed n (λ i. i))) three ∙ ap (λ (l : List ℕ). l ∷ entry_at w t 1 ∷ entry_at w t 2 ∷ []) (vacant_entry w t 0 vacant-0) in
      words_outcome w u t given (sym checks) (fresh 3 three (λ i l h. absurd (omega arith)))
      (chosen w u t (ranked w given) layout (up_choice (vacant w) _ _ _ _ _ _ between)) plan room

  pub between_down : slots w t ≡ 4 → empty w (slot_words w t 3) ≡ true → (plan : List ℕ) → 2 ≤ length plan
      → result w u t (inserting given) plan ≡ planned 2 (moved 2 3 ∷ new 2 ∷ drop 2 plan)
  unfolding entries listed moves
  between_down four vacant-3 plan room =
      let layout : entries w t ≡ vacancy w ∷ entry_at w t 1 ∷ entry_at w t 2 ∷ vacancy w ∷ [] =
      ap (λ (n : ℕ). map (entry_at w t) (listed n (λ i. i))) four
      ∙ ap₂ (λ (l m : List ℕ). l ∷ entry_at w t 1 ∷ entry_at w t 2 ∷ m ∷ []) (vacant_entry w t 0 vacant-0) (vacant_entry w t 3 vacant-3) in
      words_outcome w u t given (sym checks)
      (fresh 4 four (λ i l h. let last : i ≡ 3 = omega arith in ap (λ (k : ℕ). empty w (slot_words w t k)) last ∙ vacant-3))
      (chosen w u t (ranked w given) layout (down_choice (vacant w) _ _ _ _ _ _ between)) plan room

-- The five-slot table: what the tests of entries say of a, the other, c, d, the empty entry e and the new rule, ..
record FiveSlots {S : Type 0} (full : S → Bool) (wrong : S → S → Bool) (a other c d e fresh : S) : Type 0 where
  empty_e : full e ≡ false
  full_a : full a ≡ true
  full_other : full other ≡ true
  full_c : full c ≡ true
  full_d : full d ≡ true
  before_e : (x : S) → wrong x e ≡ false
  after_e : (x : S) → wrong e x ≡ false
  c_a : wrong c a ≡ true
  d_c : wrong d c ≡ true
  a_fresh : wrong a fresh ≡ true
  fresh_a : wrong fresh a ≡ false
  other_a : wrong other a ≡ false
  d_a : wrong d a ≡ false
  c_other : wrong c other ≡ false
  d_other : wrong d other ≡ false
  other_fresh : (wrong other fresh ≡ false) × (wrong fresh other ≡ false)
  c_fresh : (wrong c fresh ≡ false) × (wrong fresh c ≡ false)
  d_fresh : (wrong d fresh ≡ false) × (wrong fresh d ≡ false)

five_choice : {S : Type 0} (none : S) (full : S → Bool) (wrong : S → S → Bool) (a other c d e fresh : S) → FiveSlots full wrong a other c d e fresh
    → insert_choice none full wrong (a ∷ other ∷ c ∷ d ∷ e ∷ []) fresh ≡ record { down = true; cost = 2; slot = 0; chain = 1 ∷ 4 ∷ [] }
unfolding result_of
five_choice none full wrong a other c d e fresh p =
    simp (
      p.empty_e,
      p.full_a,
      p.full_other,
      p.full_c,
      p.full_d,
      p.before_e,
      p.after_e,
      p.c_a,
      p.d_c,
      p.a_fresh,
      p.fresh_a,
      p.other_a,
      p.d_a,
      p.c_other,
      p.d_other,
      p.other_fresh.0,
      p.other_fresh.1,
      p.c_fresh.0,
      p.c_fresh.1,
      p.d_fresh.0,
      p.d_fresh.1,
    )

-- rules that do not overlap may stand in either order
apart : (w : ℕ) (u : Bool) (x y : Words) → overlapping w x y ≡ false → (misordered w u x y ≡ false) × (misordered w u y x ≡ false)
unfolding misordered
apart w u x y o = (rw o, rw (overlapping_turned w y x ∙ o))

-- .. and any such table, any rule that passes the checks: 1→4, 0→1, new→0.
pub five_slots : (w : ℕ) (u : Bool) (t : List ℕ) (given : Given) → insert_checks w u t given ≡ Pass → slots w t ≡ 5
    → occupied w (slot_words w t 1) ≡ true → empty w (slot_words w t 4) ≡ true
    → precedes w u (slot_words w t 0) (slot_words w t 2) ≡ true → precedes w u (slot_words w t 2) (slot_words w t 3) ≡ true
    → overlapping w (slot_words w t 0) (slot_words w t 1) ≡ false → overlapping w (slot_words w t 0) (slot_words w t 3) ≡ false
    → overlapping w (slot_words w t 1) (slot_words w t 2) ≡ false → overlapping w (slot_words w t 1) (slot_words w t 3) ≡ false
    → precedes w u (word (record_of w (ranked w given))) (slot_words w t 0) ≡ true
    → ((i : ℕ) → 1 ≤ i → i < 4 → overlapping w (slot_words w t i) (word (record_of w (ranked w given))) ≡ false)
    → (plan : List ℕ) → 3 ≤ length plan → result w u t (inserting given) plan ≡ planned 3 (moved 1 4 ∷ moved 0 1 ∷ new 0 ∷ drop 3 plan)
unfolding entries listed moves
five_slots w u t given checks five filled vacant-4 a_c c-d a-other a-d other-c other-d rule_a clear plan room =
    words_outcome w u t given (sym checks) (replaces_none w u t rule (λ i h. equal i (omega (arith, h, five))))
    (chosen w u t rule layout (five_choice (vacant w) _ _ _ _ _ _ _ _ facts)) plan room
  where
    rule : Rule
    rule = ranked w given

    -- a has another rank than the rule, the three after it do not overlap it, and the last slot is empty: it replaces none
    equal : (i : ℕ) → i < 5 → Replaceable w u (slot_words w t i) (word (record_of w rule)) → ⊥
    equal zero h e = omega (arith, e.equal.ranks, ((precedes_law w u (word (record_of w rule)) (slot_words w t 0)).0 rule_a).1)
    equal (suc i) h e = pick (dec_lt (suc i) 4)
      where
        pick : Dec (suc i < 4) → ⊥
        pick (yes l) = true≢false (sym (equal_overlapping w (slot_words w t (suc i)) (word (record_of w rule)) e.equal) ∙ clear (suc i) (omega arith) l)
        pick (no l) =
            let last : suc i ≡ 4 = omega arith in
            true≢false (sym e.equal.first ∙ ap not (ap (λ (k : ℕ). empty w (slot_words w t k)) last ∙ vacant-4))

    layout : entries w t ≡ entry_at w t 0 ∷ entry_at w t 1 ∷ entry_at w t 2 ∷ entry_at w t 3 ∷ vacancy w ∷ []
    layout =
        ap (λ (n : ℕ). map (entry_at w t) (listed n (λ i. i))) five
        ∙ ap (λ (l : List ℕ). entry_at w t 0 ∷ entry_at w t 1 ∷ entry_at w t 2 ∷ entry_at w t 3 ∷ l ∷ []) (vacant_entry w t 4 vacant-4)

    at : ℕ → Words
    at i = slot_words w t i

    fresh : Words
    fresh = word (record_of w rule)

    full : (i : ℕ) → occupied w (at i) ≡ true → entry_occupied w (entry_at w t i) ≡ true
    full i e = occupied_cong w (listed_same w (at i)) ∙ e

    wrong : (i j : ℕ) {b : Bool} → misordered w u (at i) (at j) ≡ b → entry_misordered w u (entry_at w t i) (entry_at w t j) ≡ b
    wrong i j e = misordered_cong w u (listed_same w (at i)) (listed_same w (at j)) ∙ e

    before : (i : ℕ) {b : Bool} → misordered w u (at i) fresh ≡ b → entry_misordered w u (entry_at w t i) (record_of w rule) ≡ b
    before i e = misordered_cong w u (listed_same w (at i)) (λ j l. refl) ∙ e

    after : (i : ℕ) {b : Bool} → misordered w u fresh (at i) ≡ b → entry_misordered w u (record_of w rule) (entry_at w t i) ≡ b
    after i e = misordered_cong w u (λ j l. refl) (listed_same w (at i)) ∙ e

    beside : (i : ℕ) → 1 ≤ i → i < 4
        → (entry_misordered w u (entry_at w t i) (record_of w rule) ≡ false) × (entry_misordered w u (record_of w rule) (entry_at w t i) ≡ false)
    beside i l h = let p = apart w u (at i) fresh (clear i l h) in (before i p.0, after i p.1)

    facts : FiveSlots (entry_occupied w) (entry_misordered w u) (entry_at w t 0) (entry_at w t 1) (entry_at w t 2) (entry_at w t 3) (vacancy w) (record_of w rule)
    facts = record {
      empty_e = (entry_laws w u).vacant;
      full_a = full 0 ((precedes_law w u (at 0) (at 2)).0 a_c).0.0;
      full_other = full 1 filled;
      full_c = full 2 ((precedes_law w u (at 0) (at 2)).0 a_c).0.1;
      full_d = full 3 ((precedes_law w u (at 2) (at 3)).0 c-d).0.1;
      before_e = λ x. (entry_laws w u).misordered_right x (vacancy w) (entry_laws w u).vacant;
      after_e = λ x. (entry_laws w u).misordered_left (vacancy w) x (entry_laws w u).vacant;
      c_a = wrong 2 0 (precedes_misordered w u (at 0) (at 2) a_c).0;
      d_c = wrong 3 2 (precedes_misordered w u (at 2) (at 3) c-d).0;
      a_fresh = before 0 (precedes_misordered w u fresh (at 0) rule_a).0;
      fresh_a = after 0 (precedes_misordered w u fresh (at 0) rule_a).1;
      other_a = wrong 1 0 (apart w u (at 0) (at 1) a-other).1;
      d_a = wrong 3 0 (apart w u (at 0) (at 3) a-d).1;
      c_other = wrong 2 1 (apart w u (at 1) (at 2) other-c).1;
      d_other = wrong 3 1 (apart w u (at 1) (at 3) other-d).1;
      other_fresh = beside 1 (omega arith) (omega arith);
      c_fresh = beside 2 (omega arith) (omega arith);
      d_fresh = beside 3 (omega arith) (omega arith);
    }

-- Any plan of two in a one-word buffer: 11, spot 2.
pub one_word_short : (w : ℕ) (u : Bool) (t : List ℕ) (given : Given) → insert_checks w u t given ≡ Pass → length (planned_words w u t (ranked w given)) ≡ 2
    → (filler : ℕ) → result w u t (inserting given) (filler ∷ []) ≡ declined 11 2 (filler ∷ [])
one_word_short w u t given checks two filler =
    let r = buffer_short (planned_words w u t (ranked w given)) (filler ∷ []) refl checks (omega arith) in
    λ k. record { answer = (sym r.0 ∙ ap (refusal Short) two) k; buffer = sym r.1 k }

-- Delete of an absent id, any table that passes checks 1 to 4 and any id but 0: 7. An empty slot's id word is 0.
pub absent_id : (w : ℕ) (u : Bool) (t : List ℕ) → table_checks w u t ≡ Pass → (id : ℕ) → id ≢ 0 → ((i : ℕ) → i < slots w t → ident w (slot_words w t i) ≢ id)
    → (plan : List ℕ) → result w u t (deleting id) plan ≡ declined 7 0 plan
unfolding delete_checks slot_of_id has_id
absent_id w u t table id named absent plan =
    let none : slot_of_id w t id ≡ slots w t = least_none (has_id w t id) (slots w t) (λ i h. rw (ne_eqb (ident w (slot_words w t i)) id (absent i h))) in
    let checks : Fail Unknown 0 ≡ delete_checks w u t id = passed refl table (id_accepted id named (id_absent w t id (slot_of_id w t id) refl (omega arith))) in
    let r = buffer_refused (delete_words w t id) plan checks refl in
    λ k. record { answer = sym r.0 k; buffer = sym r.1 k }
