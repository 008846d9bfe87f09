-- End theorems on tables and the rules they hold: a lookup's reply is that of the highest-ranked match among them.
use Rattle.std.specs.Prelude.{◌≡◌, refl, Bool, true, false, cond, ◌↔◌, ◌⊎◌, List, [], ◌∷◌, ℕ, ◌<◌, ◌≤◌, ltb, length, get_or}
use Rattle.std.proofs.Common.{sym, ap, ◌∙◌, ap₂, true≢false, ⊎_elim, arith}
use Rattle.std.proofs.Math.Bool.{and-false}
use Rattle.std.proofs.Math.Logic.◌⊎◌.{inl, inr}
use Rattle.std.proofs.Math.Option.{Option, none, some}
use Rattle.std.proofs.Math.Decide.{dec_lt}
use Rattle.search.specs.SearchLaws.{decided}
use Rattle.ternary.specs.Pattern.{Words}
use Rattle.ternary.proofs.PatternLaws.{matches_cong, overlaps_law, matched_overlap}
use Rattle.layout.specs.Order.{precedes}
use Rattle.layout.specs.Held.{Held}
use Rattle.layout.specs.Replies.{Answers}
use Rattle.layout.proofs.HeldLaws.{unique_coherent}
use Rattle.layout.proofs.RepliesLaws.{answers_reply}
use Rattle.records.specs.Record.{word, slot_words, value, mask, ident, action, rank, occupied, record_of}
use Rattle.records.specs.Order.{slots, Overlapping, ActionsDiffer}
use Rattle.records.specs.Checks.{check_twice, check_order, slot_checks, first_match}
use Rattle.records.proofs.Laws.{table_checks_law, misordered_law, same_id_law}
use Rattle.records.specs.Entries.{vacant, entries, entry_occupied, entry_same, entry_misordered}
use Rattle.records.specs.declared.Rule.{Rule}
use Rattle.records.specs.Verdict.{Pass}
use Rattle.records.proofs.RulesLaws.{record_value, record_mask, record_rank, record_ident, record_action}
use Rattle.records.proofs.EntriesLaws.{entry_laws, entry_same_lem, ident_cong, occupied_at_lem, order_entries, unique_entries, refuted}
use Rattle.lookups.specs.Lookup.{lookup_answer, match_told, lookup_told, hit_at, reply}
use Rattle.std.specs.Prelude.{Some, None, Ok}
use Rattle.histories.specs.RuleSet.{rule_matches, highest_match, set_reply, Member, without, IsHighest, rule_reply}
use Rattle.histories.proofs.RepliesLaws.{entry_matches, entry_observed, asked_actions, entries_conflict, option_told, reply_observed}
use Rattle.histories.proofs.RuleSetLaws.{highest_law, without_law}
use Rattle.histories.specs.Holding.{observed, Holding, Replies}

-- a table that passes checks 1 and 2 is looked up
pub looked_up : (w : ℕ) (u : Bool) (t : List ℕ) (key : Words) (told : List ℕ) → slot_checks w t ≡ Pass → observed u (reply w t key) ≡ observed u told
    → Replies w u t key told
unfolding lookup_answer match_told
looked_up w u t key told e f = rw e (number (ltb m (slots w t)), f)
  where
    m : ℕ
    m = first_match w t key

    number : (b : Bool) → (cond b (lookup_told (Ok (Some (hit_at w t m)))) (lookup_told (Ok None))).number ≡ 0
    number true = refl
    number false = refl

-- a rule's record matches what the rule matches
pub record_matches : (w : ℕ) (key : Words) (r : Rule) → entry_matches w key (record_of w r) ≡ rule_matches w key r
record_matches w key r = matches_cong w (λ j h. refl) (record_value w r) (record_mask w r)

-- a rule does not precede one whose rank is as high
not_above : (w : ℕ) (u : Bool) (y x : List ℕ) → rank w (word y) ≤ rank w (word x) → precedes (entry_misordered w u) y x ≡ false
not_above w u y x l = pick (decided (entry_misordered w u x y))
  where
    pick : (entry_misordered w u x y ≡ true) ⊎ (entry_misordered w u x y ≡ false) → precedes (entry_misordered w u) y x ≡ false
    pick (inr e) = rw e
    pick (inl e) =
        let o = ((misordered_law w u (word x) (word y)).0 e).0 in
        let turned : Overlapping w u (word y) (word x) =
        (o.1, o.0, λ d. o.2 (sym d), λ j h i c. o.3 j h i (c.1, c.0, λ f. c.2 (sym f)), λ named d. o.4 named (sym d)) in
        rw ((misordered_law w u (word y) (word x)).1 (turned, l)) (and-false (entry_misordered w u x y))

module _ (w : ℕ) (u : Bool) (rules : List Rule) (t : List ℕ) (h : Holding w u rules t) (key : Words) where
  -- what is told of the rules' highest match, by its record
  abbrev record_told : Option Rule → Option (List ℕ)
  record_told none = none
  record_told (some s) = some (entry_observed w u (record_of w s))

  told : (o : Option Rule) → IsHighest w key rules o → option_told (record_told o) ≡ observed u (rule_reply o)
  told none f = missed u
    where
      missed : (v : Bool) → [] ≡ observed v []
      missed true = refl
      missed false = refl
  told (some s) f =
      let small = h.actions s f.0 in ap₂ (λ (a b : ℕ). observed u (a ∷ b ∷ [])) (record_ident w s small) (record_action w s small)

  answers : (o : Option Rule) → IsHighest w key rules o
      → Answers (entry_misordered w u) (entry_matches w key) (entry_observed w u) (Held (vacant w) (entry_occupied w) (entries w t)) (record_told o)
  answers none f = λ x m. missed x ((h.held x).0 m)
    where
      missed : (x : List ℕ) → ((r : Rule) × Member r rules × (record_of w r ≡ x)) → entry_matches w key x ≡ false
      missed x (r, i, e) = ap (entry_matches w key) (sym e) ∙ (record_matches w key r ∙ f r i)
  answers (some s) f = (record_of w s, record { member = member; matched = matched; unsurpassed = λ y m i. unsurpassed y m i ((h.held y).0 m) }, refl)
    where
      member : Held (vacant w) (entry_occupied w) (entries w t) (record_of w s)
      member = (h.held (record_of w s)).1 (s, f.0, refl)

      matched : entry_matches w key (record_of w s) ≡ true
      matched = record_matches w key s ∙ f.1

      unsurpassed : (y : List ℕ) → Held (vacant w) (entry_occupied w) (entries w t) y → entry_matches w key y ≡ true
          → ((r : Rule) × Member r rules × (record_of w r ≡ y)) → precedes (entry_misordered w u) y (record_of w s) ≡ false
      unsurpassed y m i (r, j, e) =
          let p : r.priority ≤ s.priority = f.2 r j (sym (record_matches w key r) ∙ (ap (entry_matches w key) e ∙ i)) in
          let a : rank w (word y) ≡ r.priority = ap (λ (x : List ℕ). rank w (word x)) (sym e) ∙ record_rank w r in
          let b : rank w (word (record_of w s)) ≡ s.priority = record_rank w s in
          not_above w u y (record_of w s) (omega (arith, p, a, b))

  -- the reply of a table is that of the rules it holds
  pub holding_reply : observed u (reply w t key) ≡ observed u (set_reply w rules key)
  holding_reply =
      let c = (table_checks_law w u t).0 h.checks in
      let law = highest_law w key rules in
      let unique = (unique_entries w t).1 c.1 in
      reply_observed w u t key
      ∙ (ap option_told (sym
      (answers_reply (entry_laws w u) (entry_matches w key) (entries w t) ((order_entries w u t).1 c.2) (entry_observed w u)
      (unique_coherent (entry_laws w u) (entries w t) unique) (entries_conflict w u key) (record_told (highest_match w key rules))
      (answers (highest_match w key rules) law)))
      ∙ told (highest_match w key rules) law)

  pub holding_lookup : Replies w u t key (set_reply w rules key)
  holding_lookup = looked_up w u t key (set_reply w rules key) ((table_checks_law w u t).0 h.checks).0 holding_reply

  -- one rule is the highest: two rules of one rank that match a key have one record, or, in an uncounted table, one action
  pub holding_untied : (r s : Rule) → Member r rules → Member s rules → rule_matches w key r ≡ true → rule_matches w key s ≡ true
      → r.priority ≡ s.priority → (record_of w r ≡ record_of w s) ⊎ ((u ≡ true) × (r.action ≡ s.action))
  holding_untied r s i k a b e =
      ⊎_elim
      (λ same. inr (same.0, sym (record_action w r (h.actions r i)) ∙ (same.1 ∙ record_action w s (h.actions s k))))
      (λ asked. inl (pick asked ((h.held (record_of w r)).1 (r, i, refl)) ((h.held (record_of w s)).1 (s, k, refl))))
      (asked_actions u (action w (word (record_of w r))) (action w (word (record_of w s))))
    where
      c : (slot_checks w t ≡ Pass) × (check_twice w t ≡ Pass) × (check_order w u t ≡ Pass)
      c = (table_checks_law w u t).0 h.checks

      ranks : rank w (word (record_of w r)) ≡ rank w (word (record_of w s))
      ranks = record_rank w r ∙ (e ∙ sym (record_rank w s))

      apart : (x y : List ℕ) (m n : ℕ) → n < length (entries w t) → m < n → get_or (entries w t) m (vacant w) ≡ x → get_or (entries w t) n (vacant w) ≡ y
          → entry_occupied w x ≡ true → entry_occupied w y ≡ true → entry_matches w key x ≡ true → entry_matches w key y ≡ true
          → rank w (word x) ≤ rank w (word y) → ActionsDiffer w u (word x) (word y) → ⊥
      apart x y m n l d f g ox oy mx my low asked =
          let differ : entry_same w x y ≡ false = rw (f, g) at ((unique_entries w t).1 c.1 m n (omega arith) l (λ o. omega arith)) in
          let fine : entry_misordered w u x y ≡ false = rw (f, g) at ((order_entries w u t).1 c.2 m n d l) in
          let ids : ident w (word x) ≡ ident w (word y) → ⊥ = λ e. true≢false (sym ((same_id_law w (word x) (word y)).1 (ox, oy, e)) ∙ differ) in
          let overlap = (overlaps_law w (value (word x)) (mask w (word x)) (value (word y)) (mask w (word y))).0
          (matched_overlap w key (value (word x)) (mask w (word x)) (value (word y)) (mask w (word y)) mx my) in
          true≢false (sym ((misordered_law w u (word x) (word y)).1 ((ox, oy, ids, overlap, asked), low)) ∙ fine)

      pick : ActionsDiffer w u (word (record_of w r)) (word (record_of w s))
          → Held (vacant w) (entry_occupied w) (entries w t) (record_of w r) → Held (vacant w) (entry_occupied w) (entries w t) (record_of w s)
          → record_of w r ≡ record_of w s
      pick asked (o, (m, l, f)) (q, (n, d, g)) = order (dec_lt m n) (dec_lt n m)
        where
          mr : entry_matches w key (record_of w r) ≡ true
          mr = record_matches w key r ∙ a

          ms : entry_matches w key (record_of w s) ≡ true
          ms = record_matches w key s ∙ b

          order : Dec (m < n) → Dec (n < m) → record_of w r ≡ record_of w s
          order (yes x) y = absurd (apart (record_of w r) (record_of w s) m n d x f g o q mr ms (omega (arith, ranks)) asked)
          order (no x) (yes y) =
              absurd (apart (record_of w s) (record_of w r) n m l y g f q o ms mr (omega (arith, ranks)) (λ named e. asked named (sym e)))
          order (no x) (no y) = let same : m ≡ n = omega arith in sym f ∙ (ap (λ (j : ℕ). get_or (entries w t) j (vacant w)) same ∙ g)

-- The rules held without the one in slot s: those that a delete of its id leaves.
module _ (w : ℕ) (u : Bool) (rules : List Rule) (t : List ℕ) (h : Holding w u rules t) (s id : ℕ) (inside : s < slots w t)
    (filled : occupied w (slot_words w t s) ≡ true) (named : ident w (slot_words w t s) ≡ id) where
  abbrev entry : List ℕ
  entry = get_or (entries w t) s (vacant w)

  entry_id : ident w (word entry) ≡ id
  entry_id = ident_cong w (entry_same_lem w t s inside) ∙ named

  entry_occupied_lem : entry_occupied w entry ≡ true
  entry_occupied_lem = occupied_at_lem w t s inside ∙ filled

  pub held_others : (x : List ℕ) → (Held (vacant w) (entry_occupied w) (entries w t) x × (entry_same w x entry ≡ false))
      ↔ ((r : Rule) × Member r (without id rules) × (record_of w r ≡ x))
  held_others x = (λ o. forth o.0 o.1 ((h.held x).0 o.0), back)
    where
      forth : Held (vacant w) (entry_occupied w) (entries w t) x → entry_same w x entry ≡ false
          → ((r : Rule) × Member r rules × (record_of w r ≡ x)) → (r : Rule) × Member r (without id rules) × (record_of w r ≡ x)
      forth m apart (r, i, e) = (r, (without_law id rules r).1 (i, other), e)
        where
          other : r.id ≡ id → ⊥
          other f =
              let same : ident w (word x) ≡ ident w (word entry) =
              ap (λ (y : List ℕ). ident w (word y)) (sym e) ∙ (record_ident w r (h.actions r i) ∙ (f ∙ sym entry_id)) in
              true≢false (sym ((same_id_law w (word x) (word entry)).1 (m.0, entry_occupied_lem, same)) ∙ apart)

      back : ((r : Rule) × Member r (without id rules) × (record_of w r ≡ x))
          → Held (vacant w) (entry_occupied w) (entries w t) x × (entry_same w x entry ≡ false)
      back (r, i, e) = ((h.held x).1 (r, m.0, e), refuted apart)
        where
          m : Member r rules × (r.id ≡ id → ⊥)
          m = (without_law id rules r).0 i

          apart : entry_same w x entry ≡ true → ⊥
          apart f =
              m.1
              (sym (record_ident w r (h.actions r m.0))
              ∙ (ap (λ (y : List ℕ). ident w (word y)) e ∙ (((same_id_law w (word x) (word entry)).0 f).2 ∙ entry_id)))
