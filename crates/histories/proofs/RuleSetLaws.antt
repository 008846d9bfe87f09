-- End theorems on rules without slots: which are left by a delete, and which match is the highest.
use Rattle.std.specs.Prelude.{◌≡◌, refl, true, false, ◌↔◌, ◌⊎◌, ◌≢◌, List, [], ◌∷◌, ℕ, ◌<◌, ◌≤◌}
use Rattle.std.proofs.Common.{sym, ap, ◌∙◌, true≢false, arith, eq-eqb, ne_eqb, lt-ltb, le-ltb}
use Rattle.std.proofs.Math.Logic.◌⊎◌.{inl, inr}
use Rattle.std.proofs.Math.Option.{Option, none, some}
use Rattle.std.proofs.Math.Decide.{ℕ_discrete, dec_lt}
use Rattle.search.specs.SearchLaws.{decided}
use Rattle.ternary.specs.Pattern.{Words}
use Rattle.records.specs.declared.Rule.{Rule}
use Rattle.histories.specs.RuleSet.{highest_match, rule_matches, Member, higher, IsHighest, without}

-- one rule more
module _ (w : ℕ) (key : Words) (r : Rule) (rules : List Rule) where
  highest_other : rule_matches w key r ≡ false → (o : Option Rule) → IsHighest w key rules o → IsHighest w key (r ∷ rules) o
  highest_other f none h = missed
    where
      missed : (s : Rule) → Member s (r ∷ rules) → rule_matches w key s ≡ false
      missed s (inl e) = ap (rule_matches w key) e ∙ f
      missed s (inr m) = h s m
  highest_other f (some x) h = (inr h.0, h.1, lower)
    where
      lower : (s : Rule) → Member s (r ∷ rules) → rule_matches w key s ≡ true → s.priority ≤ x.priority
      lower s (inl e) t = absurd (true≢false (sym t ∙ (ap (rule_matches w key) e ∙ f)))
      lower s (inr m) t = h.2 s m t

  highest_this : rule_matches w key r ≡ true → (o : Option Rule) → IsHighest w key rules o → IsHighest w key (r ∷ rules) (higher r o)
  highest_this f none h = (inl refl, f, lower)
    where
      lower : (s : Rule) → Member s (r ∷ rules) → rule_matches w key s ≡ true → s.priority ≤ r.priority
      lower s (inl e) t = let p : s.priority ≡ r.priority = ap (λ (x : Rule). x.priority) e in omega arith
      lower s (inr m) t = absurd (true≢false (sym t ∙ h s m))
  highest_this f (some x) h = pick (dec_lt x.priority r.priority)
    where
      under : (n : ℕ) → r.priority ≤ n → x.priority ≤ n → (s : Rule) → Member s (r ∷ rules) → rule_matches w key s ≡ true → s.priority ≤ n
      under n a b s (inl e) t = let p : s.priority ≡ r.priority = ap (λ (y : Rule). y.priority) e in omega arith
      under n a b s (inr m) t = let p : s.priority ≤ x.priority = h.2 s m t in omega arith

      pick : Dec (x.priority < r.priority) → IsHighest w key (r ∷ rules) (higher r (some x))
      pick (yes l) = rw (lt-ltb x.priority r.priority l) (inl refl, f, under r.priority (omega arith) (omega arith))
      pick (no l) =
          let g : r.priority ≤ x.priority = omega arith in
          rw (le-ltb x.priority r.priority g) (inr h.0, h.1, under x.priority g (omega arith))

pub highest_law : (w : ℕ) (key : Words) (rules : List Rule) → IsHighest w key rules (highest_match w key rules)
unfolding highest_match
highest_law w key [] = λ r m. absurd m
highest_law w key (r ∷ rules) = pick (decided (rule_matches w key r)) (highest_law w key rules)
  where
    pick : (rule_matches w key r ≡ true) ⊎ (rule_matches w key r ≡ false) → IsHighest w key rules (highest_match w key rules)
        → IsHighest w key (r ∷ rules) (highest_match w key (r ∷ rules))
    pick (inl t) h = rw t (highest_this w key r rules t (highest_match w key rules) h)
    pick (inr f) h = rw f (highest_other w key r rules f (highest_match w key rules) h)

-- a delete takes away the rules of its id, and no other
pub without_law : (id : ℕ) (rules : List Rule) (r : Rule) → Member r (without id rules) ↔ (Member r rules × (r.id ≢ id))
without_law id [] r = (λ m. absurd m, λ m. m.0)
without_law id (s ∷ rules) r = pick (ℕ_discrete s.id id) (without_law id rules r)
  where
    pick : Dec (s.id ≡ id) → Member r (without id rules) ↔ (Member r rules × (r.id ≢ id))
        → Member r (without id (s ∷ rules)) ↔ (Member r (s ∷ rules) × (r.id ≢ id))
    pick (yes e) law = rw (eq-eqb s.id id e) (λ m. (inr (law.0 m).0, (law.0 m).1), back)
      where
        back : Member r (s ∷ rules) × (r.id ≢ id) → Member r (without id rules)
        back (inl f, d) = absurd (d (ap (λ (x : Rule). x.id) f ∙ e))
        back (inr m, d) = law.1 (m, d)
    pick (no e) law = rw (ne_eqb s.id id e) (forth, back)
      where
        forth : Member r (s ∷ without id rules) → Member r (s ∷ rules) × (r.id ≢ id)
        forth (inl f) = (inl f, λ g. e (sym (ap (λ (x : Rule). x.id) f) ∙ g))
        forth (inr m) = (inr (law.0 m).0, (law.0 m).1)

        back : Member r (s ∷ rules) × (r.id ≢ id) → Member r (s ∷ without id rules)
        back (inl f, d) = inl f
        back (inr m, d) = inr (law.1 (m, d))
