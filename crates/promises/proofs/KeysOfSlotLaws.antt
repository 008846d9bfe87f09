-- End theorems: document 02, 2026-02, of what the comparison returns.
use Rattle.std.proofs.Common.{sym, ◌∙◌}
use Rattle.std.specs.Prelude.{◌⊎◌, List, ℕ}
use Rattle.std.proofs.Math.Logic.◌⊎◌.{inl, inr}
use Rattle.records.specs.Record.{slot_words}
use Rattle.records.specs.Checks.{EmptyOrSound}
use Rattle.records.proofs.Laws.{empty_law, sound_record_law, records_law, empty_matches_none, rule_matches_law, compared_match}
use Rattle.promises.specs.KeysOfSlot.{EmptyAt, RuleAt, Compares}

-- check 2's condition of a slot, in tests and in words
tested : (w : ℕ) (t : List ℕ) (i : ℕ) → EmptyAt w t i ⊎ RuleAt w t i → EmptyOrSound w (slot_words w t i)
tested w t i (inl e) = inl ((empty_law w (slot_words w t i)).1 e)
tested w t i (inr s) = inr ((sound_record_law w (slot_words w t i)).1 s)

worded : (w : ℕ) (t : List ℕ) (i : ℕ) → EmptyOrSound w (slot_words w t i) → EmptyAt w t i ⊎ RuleAt w t i
worded w t i (inl e) = inl ((empty_law w (slot_words w t i)).0 e)
worded w t i (inr s) = inr ((sound_record_law w (slot_words w t i)).0 s)

pub compares : Compares
compares w t i key found c = record {
  passed = λ e h. worded w t i ((records_law w t).0 e i h);
  exact = λ m.
      let told = c ∙ compared_match w t key i (tested w t i m) in
      let law = rule_matches_law w key (slot_words w t i) (tested w t i m) in (
        λ e. let s = law.0 (sym told ∙ e) in ((sound_record_law w (slot_words w t i)).0 s.0, s.1),
        λ s. told ∙ law.1 ((sound_record_law w (slot_words w t i)).1 s.0, s.1),
      );
  none = λ e.
      c ∙ (compared_match w t key i (tested w t i (inl e)) ∙ empty_matches_none w key (slot_words w t i) ((empty_law w (slot_words w t i)).1 e));
}
