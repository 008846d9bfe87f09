-- End theorems on a rule that is sent again: in a sound table, full or not, a sound one always gets the plan of one put-in at that slot.
use Rattle.std.specs.Prelude.{◌≡◌, refl, Bool, List, [], ◌∷◌, ◌++◌, ℕ, ◌≤◌, ◌<◌, length, drop}
use Rattle.std.proofs.Common.{sym, ap, ◌∙◌, ⊎_elim, arith}
use Rattle.records.specs.Order.{slots}
use Rattle.records.specs.Checks.{success, refusal}
use Rattle.records.specs.Editions.{Given, ranked}
use Rattle.records.specs.declared.Rule.{Rule}
use Rattle.records.specs.declared.Cause.TheVariants.{Short}
use Rattle.records.specs.Verdict.{Pass}
use Rattle.buffers.proofs.BuffersLaws.{buffer_short, buffer_written}
use Rattle.neighbours.specs.Neighbours.{insert_checks}
use Rattle.insert_plans.specs.Insertable.{InsertableGiven, ReplacingGiven}
use Rattle.insert_plans.proofs.InsertableLaws.{insertable_law, insertable_fresh, replacing_passes}
use Rattle.insert_plans.specs.Inserts.{replacement_words, planned_words, insert_answer, insert_plan}
use Rattle.insert_plans.proofs.InsertsLaws.{planned_fresh, planned_replaced}
use Rattle.insert_plans.proofs.Demand3Laws.{demand_3}
use Rattle.insert_plans.specs.Replacements.{ReplacementPlanned}

pub replacement_planned : (w : ℕ) (u : Bool) (t : List ℕ) (given : Given) (s : ℕ) → ReplacingGiven w u t given s → (plan : List ℕ)
    → ReplacementPlanned s (insert_answer w u t given (length plan)) plan (insert_plan w u t given plan)
replacement_planned w u t given s replacing plan = record {
  enough = λ h.
      let r = buffer_written (planned_words w u t rule) plan refl checks (omega (arith, h, ap length words)) in (
        sym r.0 ∙ ap (λ (l : List ℕ). success (length l ∷ [])) words,
        sym r.1 ∙ ap (λ (l : List ℕ). l ++ drop (length l) plan) words,
      );
  short = λ h.
      let r = buffer_short (planned_words w u t rule) plan refl checks (omega (arith, h, ap length words)) in
      (sym r.0 ∙ ap (λ (l : List ℕ). refusal Short (length l)) words, sym r.1);
}
  where
    rule : Rule
    rule = ranked w given

    checks : insert_checks w u t given ≡ Pass
    checks = replacing_passes w u t given s replacing

    words : planned_words w u t rule ≡ replacement_words s
    words = planned_replaced w u t rule s replacing.replacing

-- an accepted insert, a replacement or not, has at most as many words as the table has slots
pub planned_few : (w : ℕ) (u : Bool) (t : List ℕ) (given : Given) → given.rule.action < 4294967296 → insert_checks w u t given ≡ Pass
    → length (planned_words w u t (ranked w given)) ≤ slots w t
planned_few w u t given small e = ⊎_elim fresh (λ r. replaced r.0 r.1) ((insertable_law w u t given).0 e)
  where
    fresh : InsertableGiven w u t given → length (planned_words w u t (ranked w given)) ≤ slots w t
    fresh p =
        let is = planned_fresh w u t (ranked w given) (insertable_fresh w u t (ranked w given) p.insertable) in
        omega (arith, ap length is, (demand_3 w u t given small p []).few)

    replaced : (s : ℕ) → ReplacingGiven w u t given s → length (planned_words w u t (ranked w given)) ≤ slots w t
    replaced s r = omega (arith, ap length (planned_replaced w u t (ranked w given) s r.replacing), r.replacing.inside)
