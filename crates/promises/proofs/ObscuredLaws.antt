-- End theorems: document 02's request 2026-05, of the comparison, for any number of words, and of what tcam_plan_insert leaves in the cell for the covering slot.
use Rattle.std.specs.Prelude.{◌≡◌, refl, true, false, Bool, ◌↔◌, ◌⊎◌, List, ℕ, ◌≤◌, ◌<◌, length}
use Rattle.std.proofs.Common.{sym, ap, ◌∙◌, subst, true≢false, ⊎_elim, arith}
use Rattle.std.proofs.Math.Logic.◌⊎◌.{inl, inr}
use Rattle.std.proofs.Math.Decide.{dec_lt}
use Rattle.ternary.specs.Pattern.{Words}
use Rattle.ternary.proofs.PatternLaws.{matches_law}
use Rattle.ternary.specs.Comparison.{ComparedKeys}
use Rattle.ternary.proofs.ComparisonLaws.{comparison_law, comparison_keys, overlaps_compared, covers_matches}
use Rattle.ternary.specs.declared.Comparison.{Comparison}
use Rattle.ternary.specs.declared.Comparison.TheVariants.{Apart, Overlapping, FirstCovers, SecondCovers}
use Rattle.records.specs.Record.{word, slot_words, value, mask, ident, rank, occupied, record_of}
use Rattle.records.specs.Order.{slots, slot_comparison, Obscures, InOrder}
use Rattle.records.specs.Checks.{Told, check_twice, check_order, table_checks}
use Rattle.records.proofs.Laws.{or_else_pass, sound_law, slot_checks_law, table_checks_law, twice_law, order_law, same_id_law, slot_matches_law}
use Rattle.records.specs.Widths.{check_rule}
use Rattle.records.specs.Editions.{lent_rule, ranked, check_given}
use Rattle.records.proofs.EditionsLaws.{given_law, ranked_action}
use Rattle.records.specs.Entries.{entry_at, SameRecord}
use Rattle.records.proofs.EntriesLaws.{listed_same, occupied_cong, ident_cong, shaped_slots}
use Rattle.records.proofs.RulesLaws.{record_rank, record_ident, rule_action}
use Rattle.records.proofs.ObscuredLaws.{obscures_same, obscured_matches, obscured_after}
use Rattle.records.specs.declared.Rule.{Rule}
use Rattle.records.specs.Verdict.{Pass}
use Rattle.buffers.proofs.BuffersLaws.{buffer_passed}
use Rattle.neighbours.specs.Neighbours.{covering_slot, CoveredAt, Uncovered, rule_words, new_checks, rule_checks, insert_checks}
use Rattle.neighbours.proofs.NeighboursLaws.{insert_passes, covered_at, covered_none, covered_either}
use Rattle.insert_plans.specs.Inserts.{planned_words, insert_call, insert_call_reply}
use Rattle.insert_plans.proofs.InsertsLaws.{call_reply_dropped}
use Rattle.insert_plans.proofs.InsertableLaws.{rule_words_lem}
use Rattle.histories.specs.RuleSet.{Member}
use Rattle.histories.proofs.HoldingLaws.{record_matches}
use Rattle.lookups.specs.Lookup.{lookup_call, FirstAt}
use Rattle.marshalling.specs.Cells.{data_cell}
use Rattle.marshalling.proofs.CellsLaws.{cover_cell}
use Rattle.refusals.specs.Rows.{Accepts}
use Rattle.refusals.specs.Calls.{table_rows}
use Rattle.refusals.proofs.TableLaws.{table_rows_lem}
use Rattle.tcam.specs.Cells.{LookupLeft, InsertLeft, CoverLeft}
use Rattle.tcam.proofs.CellsLaws.{lookup_cells}
use Rattle.promises.proofs.FirstDemandLaws.{cell_kept, counted_answer}
use Rattle.promises.specs.SecondDemand.{KeyMatches, KeyReplied}
use Rattle.promises.specs.ThirdDemand.{Stands}
use Rattle.promises.specs.Replacements.{sent_rule, sent_words}
use Rattle.promises.specs.Obscured.{KeyOf, AllCompared, Obscured}

-- the comparison
pub comparing : (w : ℕ) → AllCompared w
comparing w a b va ma vb mb = record {
  apart = (λ e key fits x y. (keys Apart).0 e (key, fits, x, y), λ none. (keys Apart).1 (λ k. none k.0 k.1 k.2 k.3));
  first = keys FirstCovers;
  second = keys SecondCovers;
  neither = (
    λ e. let k = (keys Overlapping).0 e in ((λ none. k.0 (λ s. none s.0 s.1 s.2 s.3)), k.1, k.2),
    λ n. (keys Overlapping).1 ((λ none. n.0 (λ key fits x y. none (key, fits, x, y))), n.1, n.2),
  );
  bits = comparison_law w (value a) (mask w a) (value b) (mask w b) FirstCovers;
  equal = λ there back. (keys FirstCovers).1 back;
  before = overlaps_compared w (value a) (mask w a) (value b) (mask w b);
}
  where
    keys : (c : Comparison) → (slot_comparison w a b ≡ c) ↔ ComparedKeys w (value a) (mask w a) (value b) (mask w b) c
    keys = comparison_keys w (value a) (mask w a) (value b) (mask w b) va ma vb mb

-- the rank leaves the id
sent_id : (w e : ℕ) (rule : List ℕ) → (sent_rule w e rule).id ≡ (lent_rule w e rule).rule.id
unfolding ranked
sent_id w e rule = refl

-- in a counted table in order a rule that another one in it obscures is no key's first match
obscured_unmet : (w : ℕ) (v : List ℕ) → InOrder w false v → (x y : ℕ) → x < slots w v → occupied w (slot_words w v y) ≡ true
    → (ident w (slot_words w v x) ≡ ident w (slot_words w v y) → ⊥) → Obscures w (slot_words w v x) (slot_words w v y) → (key : Words) → FirstAt w v key y → ⊥
obscured_unmet w v order x y inside holds apart o key first =
    true≢false (sym (obscured_matches w key (slot_words w v x) (slot_words w v y) o first.1) ∙ first.2 x (obscured_after w v order x y inside first.0 holds apart o))

-- a rule's keys are those of its record
keys_of_record : (w : ℕ) (key : List ℕ) (r : Rule) → KeyMatches w key r ↔ KeyOf w (word key) (word (record_of w r))
keys_of_record w key r =
    let rule = matches_law w (word key) (word r.value) (word r.mask) in
    let words = matches_law w (word key) (value (word (record_of w r))) (mask w (word (record_of w r))) in
    let same = record_matches w (word key) r in
    (λ m. words.0 (same ∙ rule.1 m), λ m. rule.0 (sym same ∙ words.1 m))

-- what an insert that returned 0 tells of its table and its rule, and the number in its cell
module _ (w : ℕ) (u : Bool) (e : ℕ) (t rule plan after : List ℕ) (count count' spot spot' covered covered' : ℕ)
    (left : InsertLeft w u e t rule 0 plan after count count' spot spot') (cell : CoverLeft w u e t rule (length plan) covered covered') where
  checked : (table_checks w u t ≡ Pass) × (check_given w (lent_rule w e rule) ≡ Pass)
  unfolding rule_checks
  checked =
      let given = lent_rule w e rule in
      let told = counted_answer (check_rule w (length rule)) (insert_checks w u t given) _ _ _ after count count' spot spot' left.left in
      let passes = buffer_passed (insert_checks w u t given) (length (planned_words w u t (ranked w given))) (length plan) (ap (λ (x : Told). x.number) told) in
      let own = (insert_passes w u t given).0 passes in
      (own.0, ((or_else_pass (check_given w given) (new_checks w u t (rule_words w (ranked w given)))).0 own.1).0)

  -- the table's slots are few
  few : slots w t ≤ 1024
  few = (shaped_slots w t ((slot_checks_law w t).0 ((table_checks_law w u t).0 checked.0).0).0).1

  told : covered' ≡ covering_slot w t (sent_words w e rule)
  told =
      cell
      ∙ (cover_cell (insert_call w u e t rule (length plan)) (covering_slot w t (rule_words w (sent_rule w e rule))) covered (sym left.left.number)
      ∙ ap (covering_slot w t) (rule_words_lem w (sent_rule w e rule)))

  slot_told : ((covered' < slots w t) ⊎ (covered' ≡ 65535))
      × ((c : ℕ) → ((c < slots w t) × (covered' ≡ c)) ↔ CoveredAt w t (sent_words w e rule) c) × ((covered' ≡ 65535) ↔ Uncovered w t (sent_words w e rule))
  slot_told =
      let slots_few : slots w t ≤ 65535 = omega (arith, few) in (
        subst (λ (c : ℕ). (c < slots w t) ⊎ (c ≡ 65535)) (sym told) (covered_either w t (sent_words w e rule) slots_few),
        λ c. let law = covered_at w t (sent_words w e rule) slots_few c in
            (λ x. law.0 (x.0, sym told ∙ x.1), λ x. ((law.1 x).0, told ∙ (law.1 x).1)),
        let law = covered_none w t (sent_words w e rule) slots_few in (λ x. law.0 (sym told ∙ x), λ x. told ∙ law.1 x),
      )

  obscuring : covered' < slots w t → Obscures w (slot_words w t covered') (sent_words w e rule)
  obscuring inside = ((slot_told.1 covered').0 (inside, refl)).obscuring

  -- the id is not 0
  named : (sent_rule w e rule).id ≡ 0 → ⊥
  named none = ((sound_law w _ _ _ _).0 ((given_law w (lent_rule w e rule)).0 checked.1).0).0 (sym (sent_id w e rule) ∙ none)

  -- the record of the slot that was told, as a rule's, obscures the new one's
  module _ (inside : covered' < slots w t) (cover : Rule) (is : record_of w cover ≡ entry_at w t covered') where
    rule_pair : Obscures w (word (record_of w cover)) (sent_words w e rule)
    rule_pair =
        obscures_same w (λ j h. sym (ap (λ (l : List ℕ). word l j) is ∙ listed_same w (slot_words w t covered') j h)) (λ j h. refl) (obscuring inside)

    -- each key of the new rule matches it
    cover_matches : (key : List ℕ) → KeyOf w (word key) (sent_words w e rule) → KeyMatches w key cover
    cover_matches key m =
        let own = word (record_of w cover) in
        let new = sent_words w e rule in
        (keys_of_record w key cover).1 (covers_matches w (word key) (value own) (mask w own) (value new) (mask w new) rule_pair.covering m)

    -- and its rank is the higher one
    cover_higher : (sent_rule w e rule).priority < cover.priority
    cover_higher = omega (arith, record_rank w (sent_rule w e rule), record_rank w cover, rule_pair.higher)

    never_replied : (rules : List Rule) → Member cover rules
        → ((other : Rule) → Member other rules → other.id ≡ (sent_rule w e rule).id → record_of w other ≡ record_of w (sent_rule w e rule))
        → (key : List ℕ) (result id action : ℕ) → KeyReplied w rules key result id action → id ≡ (sent_rule w e rule).id → ⊥
    never_replied rules member only key result id action reply e' =
        ⊎_elim
        (λ found.
        let r = found.0 in
        let highest = found.1 in
        let one = only r highest.0 (sym found.2 ∙ e') in
        pick r (sym (record_rank w r) ∙ (ap (λ (l : List ℕ). rank w (word l)) one ∙ record_rank w (sent_rule w e rule)))
        (highest.2 cover member (cover_matches key (subst (λ (l : List ℕ). KeyOf w (word key) (word l)) one ((keys_of_record w key r).0 highest.1)))))
        (λ missed. named (sym e' ∙ missed.1))
        reply.1
      where
        pick : (r : Rule) → r.priority ≡ (sent_rule w e rule).priority → (record_of w cover ≡ record_of w r) ⊎ (cover.priority < r.priority) → ⊥
        pick r level (inl one) =
            let ranks = sym (record_rank w cover) ∙ (ap (λ (l : List ℕ). rank w (word l)) one ∙ record_rank w r) in
            omega (arith, ranks, level, cover_higher)
        pick r level (inr lower) = omega (arith, lower, level, cover_higher)

  -- in a sound counted table in which both stand
  module _ (inside : covered' < slots w t) (v : List ℕ) (sound : Accepts (table_rows w false v)) (cover : Stands w v (entry_at w t covered'))
      (new : Stands w v (record_of w (sent_rule w e rule))) where
    abbrev at : ℕ → Words
    at i = slot_words w v i

    abbrev x : ℕ
    x = cover.1.0

    abbrev y : ℕ
    y = new.1.0

    first : SameRecord w (slot_words w t covered') (at x)
    first j h = sym (listed_same w (slot_words w t covered') j h) ∙ (ap (λ (l : List ℕ). word l j) (sym cover.1.2) ∙ listed_same w (at x) j h)

    second : SameRecord w (sent_words w e rule) (at y)
    second j h = ap (λ (l : List ℕ). word l j) (sym new.1.2) ∙ listed_same w (at y) j h

    pair : Obscures w (at x) (at y)
    pair = obscures_same w first second (obscuring inside)

    checks : (check_twice w v ≡ Pass) × (check_order w false v ≡ Pass)
    checks = let c = (table_checks_law w false v).0 ((table_rows_lem w false v).passes.1 sound) in (c.1, c.2)

    one_slot : (i j : ℕ) → i < slots w v → j < slots w v → occupied w (at i) ≡ true → occupied w (at j) ≡ true → ident w (at i) ≡ ident w (at j) → i ≡ j
    one_slot i j h k a b alike = pick (dec_lt i j) (dec_lt j i)
      where
        pick : Dec (i < j) → Dec (j < i) → i ≡ j
        pick (yes l) d = absurd (true≢false (sym ((same_id_law w (at i) (at j)).1 (a, b, alike)) ∙ (twice_law w v).0 checks.0 i j l k))
        pick (no l) (yes g) = absurd (true≢false (sym ((same_id_law w (at j) (at i)).1 (b, a, sym alike)) ∙ (twice_law w v).0 checks.0 j i g h))
        pick (no l) (no g) = omega arith

    holds : occupied w (at y) ≡ true
    holds = sym (occupied_cong w second) ∙ new.0

    apart : ident w (at x) ≡ ident w (at y) → ⊥
    apart alike =
        let one = one_slot x y cover.1.1 new.1.1 pair.holds holds alike in
        omega (arith, pair.higher, ap (λ (i : ℕ). rank w (at i)) one)

    own_id : ident w (at y) ≡ (sent_rule w e rule).id
    own_id =
        sym (ident_cong w second)
        ∙ record_ident w (sent_rule w e rule) (omega (arith, rule_action w (word rule), ranked_action w (lent_rule w e rule)))

    never_looked_up : (key : List ℕ) (slot slot' id id' action action' place place' : ℕ)
        → LookupLeft w v key 0 slot slot' id id' action action' place place' → id' ≡ (sent_rule w e rule).id → ⊥
    never_looked_up key slot slot' id id' action action' place place' looked is =
        ⊎_elim
        (λ hit.
        let s = data_cell (lookup_call w v key) 0 slot in
        let at_s = hit.first in
        let alike : ident w (at s) ≡ ident w (at y) = sym hit.named ∙ (sym looked.named ∙ (is ∙ sym own_id)) in
        let one = one_slot s y at_s.0 new.1.1 ((slot_matches_law w (word key) (at s)).0 at_s.1).0 holds alike in
        obscured_unmet w v ((order_law w false v).0 checks.1) x y cover.1.1 holds apart pair (word key) (subst (FirstAt w v (word key)) one at_s))
        (λ miss. named (sym is ∙ (looked.named ∙ miss.id_zero)))
        (lookup_cells w v key slot id action (sym looked.number))

pub obscured : (w : ℕ) (u : Bool) → Obscured w u
obscured w u = record {
  told = slot_told w u;
  kept = λ e t rule result plan after count count' spot spot' covered covered' left cell refused.
      cell ∙ cell_kept (insert_call_reply w u e t rule (length plan)) 1 covered (λ z. refused (left.left.number ∙ z));
  unaffected = call_reply_dropped w u;
  unmet = obscured_unmet w;
  stands = λ e t rule plan after count count' spot spot' covered covered' left cell inside v sound cover new.
      never_looked_up w u e t rule plan after count count' spot spot' covered covered' left cell inside v sound cover new;
  never = λ e t rule plan after count count' spot spot' covered covered' left cell inside v rules replied cover member is only key size result slot slot' id id' action action' place place' looked named.
      never_replied w u e t rule plan after count count' spot spot' covered covered' left cell inside cover is rules member only key result id' action'
      (replied key size result slot slot' id id' action action' place place' looked) named;
}
