-- End theorems on the rules of a table: every sound table holds those read off its slots, however it came about.
-- So what demand 2 says of a plan is said of every sound table.
use Rattle.std.specs.Prelude.{◌≡◌, refl, Bool, true, false, not, ◌↔◌, ◌⊎◌, List, ◌∷◌, ℕ, zero, suc, ◌<◌, get_or}
use Rattle.std.proofs.Common.{sym, ap, ◌∙◌, true≢false, ⊎_elim, arith}
use Rattle.std.proofs.Math.Logic.◌⊎◌.{inl, inr}
use Rattle.std.proofs.Math.Decide.{ℕ_discrete}
use Rattle.search.specs.SearchLaws.{decided}
use Rattle.layout.specs.Held.{Held}
use Rattle.records.specs.Record.{slot_words, rank, empty, record_of, rule_of}
use Rattle.records.specs.Order.{slots}
use Rattle.records.specs.Checks.{table_checks}
use Rattle.records.proofs.Laws.{slot_checks_law, table_checks_law, records_law, sound_rank}
use Rattle.records.specs.Entries.{vacant, entries, entry_occupied}
use Rattle.records.specs.declared.Rule.{Rule}
use Rattle.records.specs.Verdict.{Pass}
use Rattle.records.proofs.RulesLaws.{record_of_rule}
use Rattle.records.proofs.EntriesLaws.{entries_length, entry_at_lem, occupied_at_lem}
use Rattle.histories.specs.RuleSet.{Member}
use Rattle.histories.specs.Holding.{Holding}
use Rattle.histories.specs.TableRules.{table_rules, rules_below}

-- a rule of an occupied slot below n
abbrev RuleIn : ℕ → List ℕ → ℕ → Rule → Type 0
RuleIn w t n r = (i : ℕ) × (i < n) × (empty w (slot_words w t i) ≡ false) × (r ≡ rule_of w (slot_words w t i))

rules_below_lem : (w : ℕ) (t : List ℕ) (n : ℕ) (r : Rule) → Member r (rules_below w t n) ↔ RuleIn w t n r
unfolding rules_below
rules_below_lem w t zero r = (λ m. absurd m, λ m. omega (arith, m.1))
rules_below_lem w t (suc n) r = pick (decided (empty w (slot_words w t n))) (rules_below_lem w t n r)
  where
    up : RuleIn w t n r → RuleIn w t (suc n) r
    up (i, h, o, e) = (i, omega arith, o, e)

    pick : (empty w (slot_words w t n) ≡ true) ⊎ (empty w (slot_words w t n) ≡ false) → Member r (rules_below w t n) ↔ RuleIn w t n r
        → Member r (rules_below w t (suc n)) ↔ RuleIn w t (suc n) r
    pick (inl v) law = rw v (λ m. up (law.0 m), λ m. back m (ℕ_discrete m.0 n))
      where
        back : (m : RuleIn w t (suc n) r) → Dec (m.0 ≡ n) → Member r (rules_below w t n)
        back (i, h, o, e) (yes d) = absurd (true≢false (sym v ∙ (ap (λ (k : ℕ). empty w (slot_words w t k)) (sym d) ∙ o)))
        back (i, h, o, e) (no d) = law.1 (i, omega arith, o, e)
    pick (inr v) law = rw v (forth, λ m. back m (ℕ_discrete m.0 n))
      where
        forth : Member r (rule_of w (slot_words w t n) ∷ rules_below w t n) → RuleIn w t (suc n) r
        forth (inl e) = (n, omega arith, v, e)
        forth (inr m) = up (law.0 m)

        back : (m : RuleIn w t (suc n) r) → Dec (m.0 ≡ n) → Member r (rule_of w (slot_words w t n) ∷ rules_below w t n)
        back (i, h, o, e) (yes d) = inl (e ∙ ap (λ (k : ℕ). rule_of w (slot_words w t k)) d)
        back (i, h, o, e) (no d) = inr (law.1 (i, omega arith, o, e))

-- every sound table holds its rules
pub table_holding : (w : ℕ) (u : Bool) (t : List ℕ) → table_checks w u t ≡ Pass → Holding w u (table_rules w t) t
unfolding rule_of
table_holding w u t checks = record {
  checks = checks;
  held = λ x. (λ m. forth x m, back x);
  actions = λ r m. let s = (rules_below_lem w t (slots w t) r).0 m in
      let e : r.action ≡ (rule_of w (slot_words w t s.0)).action = ap (λ (q : Rule). q.action) s.3 in omega (arith, e);
}
  where
    read : (i : ℕ) → i < slots w t → empty w (slot_words w t i) ≡ false → record_of w (rule_of w (slot_words w t i)) ≡ get_or (entries w t) i (vacant w)
    read i h o =
        let records = ((slot_checks_law w t).0 ((table_checks_law w u t).0 checks).0).1 in
        let low : rank w (slot_words w t i) < 4294967296 =
        ⊎_elim (λ v. absurd (true≢false (sym v ∙ o))) (λ s. omega (arith, sound_rank w (slot_words w t i) s)) ((records_law w t).0 records i h) in
        record_of_rule w (slot_words w t i) low ∙ sym (entry_at_lem w t i h)

    forth : (x : List ℕ) → Held (vacant w) (entry_occupied w) (entries w t) x → (r : Rule) × Member r (table_rules w t) × (record_of w r ≡ x)
    forth x (o, (i, b, e)) = (rule_of w (slot_words w t i), (rules_below_lem w t (slots w t) (rule_of w (slot_words w t i))).1 (i, h, vacated (decided (empty w (slot_words w t i))), refl), read i h (vacated (decided (empty w (slot_words w t i)))) ∙ e)
      where
        h : i < slots w t
        h = omega (arith, entries_length w t)

        vacated : (empty w (slot_words w t i) ≡ true) ⊎ (empty w (slot_words w t i) ≡ false) → empty w (slot_words w t i) ≡ false
        vacated (inl v) = absurd (true≢false (sym o ∙ (ap (entry_occupied w) (sym e) ∙ (occupied_at_lem w t i h ∙ ap not v))))
        vacated (inr v) = v

    back : (x : List ℕ) → ((r : Rule) × Member r (table_rules w t) × (record_of w r ≡ x)) → Held (vacant w) (entry_occupied w) (entries w t) x
    back x (r, m, e) =
        let s = (rules_below_lem w t (slots w t) r).0 m in
        let same : get_or (entries w t) s.0 (vacant w) ≡ x = sym (read s.0 s.1 s.2) ∙ (ap (record_of w) (sym s.3) ∙ e) in
        (ap (entry_occupied w) (sym same) ∙ (occupied_at_lem w t s.0 s.1 ∙ ap not s.2), (s.0, omega (arith, s.1, entries_length w t), same))
