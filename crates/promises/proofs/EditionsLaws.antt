-- End theorems: document 02, 2026-07, of the ranks that editions give, and of what the exported calls return and leave.
use Rattle.std.specs.Prelude.{◌≡◌, refl, Bool, true, false, ◌⊎◌, List, ℕ, ◌<◌, length}
use Rattle.std.proofs.Common.{sym, ◌∙◌, subst, ⊎_elim, arith}
use Rattle.std.proofs.Math.Path.{ap}
use Rattle.std.proofs.Math.Bool.{true≢false}
use Rattle.std.proofs.Math.Logic.◌⊎◌.{inl, inr}
use Rattle.search.specs.SearchLaws.{decided}
use Rattle.ternary.specs.Pattern.{Words}
use Rattle.layout.specs.Held.{Held}
use Rattle.records.specs.Record.{word, record_words, slot_words, ident, rank, record_of}
use Rattle.records.specs.Sound.{SoundRule}
use Rattle.records.specs.Order.{slots, Replaceable}
use Rattle.records.proofs.Laws.{sound_record_law, sound_rule_law}
use Rattle.records.proofs.RulesLaws.{length_listed, record_ident, record_sound}
use Rattle.records.specs.Widths.{Width}
use Rattle.records.proofs.WidthsLaws.{lent_words}
use Rattle.records.specs.Editions.{ranked, lent_rule}
use Rattle.records.proofs.EditionsLaws.{ranked_action, rank_sound, exact_above, lent_sound, rank_not_given}
use Rattle.records.specs.Entries.{vacant, entries, entry_occupied, entry_at}
use Rattle.records.proofs.EntriesLaws.{listed_same, rank_cong}
use Rattle.records.specs.declared.Cause.TheVariants.{Rule as RuleCause}
use Rattle.records.specs.declared.Rule.{Rule}
use Rattle.neighbours.specs.Neighbours.{replaced_slot, replaces, replaced_id, rule_words}
use Rattle.neighbours.proofs.NeighboursLaws.{replaced_equal, replaced_lowest}
use Rattle.insert_plans.proofs.InsertableLaws.{rule_words_lem}
use Rattle.histories.specs.RuleSet.{Member}
use Rattle.histories.specs.Inserted.{rules_inserted}
use Rattle.histories.specs.Holding.{Holding}
use Rattle.histories.proofs.RuleSetLaws.{without_law}
use Rattle.histories.specs.TableRules.{table_rules}
use Rattle.histories.proofs.TableRulesLaws.{table_holding}
use Rattle.refusals.specs.Rows.{Accepts, Declines}
use Rattle.refusals.specs.Calls.{table_rows, insert_call_rows}
use Rattle.refusals.proofs.WidthsLaws.{no_other_rule}
use Rattle.refusals.proofs.TableLaws.{table_rows_lem}
use Rattle.tcam.specs.Cells.{InsertLeft, DeleteLeft}
use Rattle.promises.specs.Calls.{CarriedOut}
use Rattle.promises.proofs.CallsLaws.{carried_at}
use Rattle.promises.proofs.FirstDemandLaws.{first_demand}
use Rattle.promises.proofs.SecondDemandLaws.{inserting, deleting}
use Rattle.promises.specs.ThirdDemand.{Stands}
use Rattle.promises.proofs.ThirdDemandLaws.{stands_law}
use Rattle.promises.specs.Editions.{Editions}

module _ (w : ℕ) (u : Bool) (known : Width w) where
  -- the old rules but the one that is replaced are held after an insert as they were before
  rules_kept : (t : List ℕ) → Accepts (table_rows w u t) → (e : ℕ) (rule plan after : List ℕ) (count count' spot spot' : ℕ)
      → InsertLeft w u e t rule 0 plan after count count' spot spot' → (y : List ℕ) → CarriedOut w e t after rule count' y
      → (x : List ℕ) → Stands w t x
      → ((s : ℕ) → s < slots w t → Replaceable w u (slot_words w t s) (word (record_of w (ranked w (lent_rule w e rule))))
      → ((i : ℕ) → i < s → Replaceable w u (slot_words w t i) (word (record_of w (ranked w (lent_rule w e rule)))) → ⊥)
      → ident w (word x) ≡ ident w (slot_words w t s) → ⊥)
      → Stands w y x
  rules_kept t sound e rule plan after count count' spot spot' left y full x stands other =
      let planned = inserting w u known e t rule plan after count count' spot spot' left in
      let d = planned.1 in
      let there = carried_at w u e t after rule known planned.0 _ count' _ d y full in
      (stands_law w y x).0
      (subst (λ (v : List ℕ). Held (vacant w) (entry_occupied w) (entries w v) x) (sym there)
      (((d.holds (table_rules w t) before).held x).1 (old.0, member (decided (replaces w u t own)), old.2)))
    where
      before : Holding w u (table_rules w t) t
      before = table_holding w u t ((table_rows_lem w u t).passes.1 sound)

      old : (r : Rule) × Member r (table_rules w t) × (record_of w r ≡ x)
      old = (before.held x).0 ((stands_law w t x).1 stands)

      new : Rule
      new = ranked w (lent_rule w e rule)

      own : Words
      own = rule_words w new

      member : (replaces w u t own ≡ true) ⊎ (replaces w u t own ≡ false) → Member old.0 (rules_inserted w u t new (table_rules w t))
      member (inl e) =
          let found = replaced_equal w u t own e in
          let equal = subst (Replaceable w u (slot_words w t (replaced_slot w u t own))) (rule_words_lem w new) found.1 in
          let named = ap (λ (l : List ℕ). ident w (word l)) (sym old.2) ∙ record_ident w old.0 (before.actions old.0 old.1) in
          let lowest : (i : ℕ) → i < replaced_slot w u t own → Replaceable w u (slot_words w t i) (word (record_of w new)) → ⊥ =
          λ i less r. replaced_lowest w u t own i less (subst (Replaceable w u (slot_words w t i)) (sym (rule_words_lem w new)) r) in
          rw e (inr ((without_law (replaced_id w u t own) (table_rules w t) old.0).1 (old.1, λ f. other (replaced_slot w u t own) found.0 equal lowest (named ∙ f))))
      member (inr e) = rw e (inr old.1)

  -- and those of another id after a delete
  others_kept : (t : List ℕ) → Accepts (table_rows w u t) → (id : ℕ) (plan after : List ℕ) (count count' spot spot' : ℕ)
      → DeleteLeft w u t id 0 plan after count count' spot spot' → (e : ℕ) (rule : List ℕ) → length rule ≡ record_words w
      → (s : List ℕ) → CarriedOut w e t after rule count' s → (x : List ℕ) → Stands w t x → (ident w (word x) ≡ id → ⊥) → Stands w s x
  others_kept t sound id plan after count count' spot spot' left e rule size s full x stands other =
      let d = deleting w u known t id plan after count count' spot spot' left (lent_rule w e rule) in
      let before = table_holding w u t ((table_rows_lem w u t).passes.1 sound) in
      let old = (before.held x).0 ((stands_law w t x).1 stands) in
      let named = sym (record_ident w old.0 (before.actions old.0 old.1)) ∙ ap (λ (l : List ℕ). ident w (word l)) old.2 in
      let member = (without_law id (table_rules w t) old.0).1 (old.1, λ same. other (sym named ∙ same)) in
      let there = carried_at w u e t after rule known size _ count' _ d s full in
      (stands_law w s x).0
      (subst (λ (v : List ℕ). Held (vacant w) (entry_occupied w) (entries w v) x) (sym there) (((d.holds (table_rules w t) before).held x).1 (old.0, member, old.2)))

  module _ (t : List ℕ) (sound : Accepts (table_rows w u t)) (i : ℕ) (high : rank w (slot_words w t i) ≡ 65536) (e : ℕ) where
    lent : List ℕ
    lent = entry_at w t i

    -- no priority is so high
    unsound : SoundRule w (lent_rule w e lent).rule → ⊥
    unfolding lent
    unsound good =
        let rank_lent = ap (rank w) (lent_words w lent) ∙ (rank_cong w (listed_same w (slot_words w t i)) ∙ high) in
        true≢false (sym ((sound_rule_law w (lent_rule w e lent).rule).1 good) ∙ (lent_sound w lent ∙ rank_not_given w (slot_words w lent 0) rank_lent))

    -- the rows before 5 do not hold
    declined : (room : ℕ) → Declines (insert_call_rows w u e t (entry_at w t i) room) RuleCause 0
    unfolding lent
    declined room =
        let words = no_other_rule w (entry_at w t i) known (length_listed (record_words w) (slot_words w t i)) in
        inr (⊎_elim words sound.0, inr (sound.1.0, inr (sound.1.1.0, inr (sound.1.1.1.0, inl (refl, unsound, refl)))))

pub editions : (w : ℕ) (u : Bool) → Width w → Editions w u
editions w u known = record {
  sound = λ given small good.
      (sound_record_law w (word (record_of w (ranked w given)))).0
      (record_sound w (ranked w given) (omega (arith, small, ranked_action w given)) ∙ rank_sound w given ((sound_rule_law w given.rule).1 good));
  above = exact_above w;
  kept = rules_kept w u known;
  left = others_kept w u known;
  again = λ t sound i h high e result plan after count count' spot spot' left.
      let call = first_demand.insert w u e t (entry_at w t i) result plan after count count' spot spot' left in
      let told = (call.0.refused RuleCause 0).1 (declined w u known t sound i high e (length plan)) in
      let kept = call.1 (λ z. omega (arith, told.0, z)) in
      (told.0, told.1, kept.0, kept.1);
}
