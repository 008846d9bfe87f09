-- Laws on replies by a table's records: a table's reply is that of its layout, and every key keeps it until the last write of an insert's plan.
-- The layout's theorems are applied to the table's records.
use Rattle.std.specs.Prelude.{◌≡◌, refl, Bool, true, false, cond, ◌⊎◌, List, [], ◌∷◌, ℕ, ◌<◌, ◌≤◌, ltb, length, get_or, take, drop}
use Rattle.std.proofs.Common.{sym, ap, ap₂, ◌∙◌, true≢false, ⊎_elim, arith, lt-ltb, le-ltb}
use Rattle.std.proofs.Math.Bool.{and_comm}
use Rattle.std.proofs.Math.Logic.◌⊎◌.{inl, inr}
use Rattle.std.proofs.Math.Option.{Option, none, some}
use Rattle.std.proofs.Math.Decide.{ℕ_discrete, dec_le, dec_lt}
use Rattle.search.specs.Search.{least}
use Rattle.ternary.specs.Pattern.{Words, Overlap}
use Rattle.ternary.proofs.PatternLaws.{overlaps_law, matched_overlap}
use Rattle.layout.specs.Replies.{ConflictOrAlike, first_match as layout_match, reply as layout_reply}
use Rattle.layout.proofs.Changes.{between_reply}
use Rattle.layout.proofs.HeldLaws.{unique_coherent}
use Rattle.layout.proofs.InPlaceLaws.{first_match_by}
use Rattle.records.specs.Record.{word, slot_words, value, mask, ident, action, rank, pattern_matches, slot_matches}
use Rattle.records.specs.Order.{slots, misordered, ActionsDiffer}
use Rattle.records.specs.Checks.{first_match}
use Rattle.records.proofs.Laws.{table_checks_law, same_id_law, misordered_law}
use Rattle.records.specs.Entries.{vacant, entries, entry_occupied, entry_same, entry_misordered}
use Rattle.records.specs.Writes.{apply_words}
use Rattle.records.specs.Editions.{Given, ranked}
use Rattle.records.specs.declared.Rule.{Rule}
use Rattle.records.proofs.EntriesLaws.{entries_length, entry_same_lem, entry_laws, matches_at_lem, ident_cong, action_cong, order_entries, unique_entries}
use Rattle.lookups.specs.Lookup.{lookup_told, hit_at, match_told, reply}
use Rattle.std.specs.Prelude.{Some, None, Ok}
use Rattle.insert_plans.specs.Insertable.{InsertableGiven}
use Rattle.insert_plans.specs.Inserts.{insert_words}
use Rattle.insert_plans.proofs.Demand3Laws.{shortest_words}
use Rattle.histories.specs.Holding.{observed}

-- an entry matches a key; id and action are what a reply tells of it
abbrev pub entry_matches : ℕ → Words → List ℕ → Bool
entry_matches w key e = pattern_matches w key (word e)

abbrev pub entry_told : ℕ → List ℕ → List ℕ
entry_told w e = ident w (word e) ∷ action w (word e) ∷ []

-- and as much of it as is promised
abbrev pub entry_observed : ℕ → Bool → List ℕ → List ℕ
entry_observed w u e = observed u (entry_told w e)

-- where it is asked, two actions agree, or they differ
pub asked_actions : (u : Bool) (m n : ℕ) → ((u ≡ true) × (m ≡ n)) ⊎ (u ≡ true → m ≡ n → ⊥)
asked_actions false m n = inr (λ named. absurd (true≢false (sym named)))
asked_actions true m n = pick (ℕ_discrete m n)
  where
    pick : Dec (m ≡ n) → ((true ≡ true) × (m ≡ n)) ⊎ (true ≡ true → m ≡ n → ⊥)
    pick (yes e) = inl (refl, e)
    pick (no e) = inr (λ named. e)

-- of an uncounted table the action is all that is observed
pub observed_action : (w : ℕ) (u : Bool) (a b : List ℕ) → u ≡ true → action w (word a) ≡ action w (word b) → entry_observed w u a ≡ entry_observed w u b
observed_action w true a b named e = ap (λ (n : ℕ). n ∷ []) e
observed_action w false a b named e = absurd (true≢false (sym named))

-- two rules of different ids that match one key overlap, and one of their ranks is not higher than the other; in an uncounted table, if their actions differ
pub entries_conflict : (w : ℕ) (u : Bool) (key : Words)
    → ConflictOrAlike (entry_occupied w) (entry_same w) (entry_misordered w u) (entry_matches w key) (entry_observed w u)
entries_conflict w u key a b oa ob ma mb apart =
    ⊎_elim (λ same. inr (observed_action w u a b same.0 same.1)) (λ asked. inl (pick asked (dec_le (rank w (word a)) (rank w (word b)))))
    (asked_actions u (action w (word a)) (action w (word b)))
  where
    differ : ident w (word a) ≡ ident w (word b) → ⊥
    differ e = true≢false (sym ((same_id_law w (word a) (word b)).1 (oa, ob, e)) ∙ apart)

    overlap : (x y : Words) → pattern_matches w key x ≡ true → pattern_matches w key y ≡ true → Overlap w (value x) (mask w x) (value y) (mask w y)
    overlap x y p q = (overlaps_law w (value x) (mask w x) (value y) (mask w y)).0 (matched_overlap w key (value x) (mask w x) (value y) (mask w y) p q)

    pick : ActionsDiffer w u (word a) (word b) → Dec (rank w (word a) ≤ rank w (word b))
        → (misordered w u (word a) (word b) ≡ true) ⊎ (misordered w u (word b) (word a) ≡ true)
    pick asked (yes l) = inl ((misordered_law w u (word a) (word b)).1 ((oa, ob, differ, overlap (word a) (word b) ma mb, asked), l))
    pick asked (no l) =
        inr ((misordered_law w u (word b) (word a)).1
        ((ob, oa, λ e. differ (sym e), overlap (word b) (word a) mb ma, λ named e. asked named (sym e)), omega arith))

-- a reply of the layout as document 01 has it: id and action, or nothing for a miss
abbrev pub option_told : Option (List ℕ) → List ℕ
option_told none = []
option_told (some told) = told

-- both kinds of reply, by the slot of the first match
reply_shape : (w : ℕ) (t : List ℕ) (i : ℕ)
    → drop 1 (match_told w t i).values ≡ cond (ltb i (slots w t)) (ident w (slot_words w t i) ∷ action w (slot_words w t i) ∷ []) []
unfolding match_told hit_at
reply_shape w t i = pick (ltb i (slots w t))
  where
    pick : (b : Bool) → drop 1 (cond b (lookup_told (Ok (Some (hit_at w t i)))) (lookup_told (Ok None))).values
        ≡ cond b (ident w (slot_words w t i) ∷ action w (slot_words w t i) ∷ []) []
    pick true = refl
    pick false = refl

option_shape : (b : Bool) (told : List ℕ) → option_told (cond b (some told) none) ≡ cond b told []
option_shape true told = refl
option_shape false told = refl

-- the first match of a table is that of its layout
first_match_entries : (w : ℕ) (t : List ℕ) (key : Words) → first_match w t key ≡ layout_match (vacant w) (entry_occupied w) (entry_matches w key) (entries w t)
unfolding first_match slot_matches
first_match_entries w t key =
    ap (λ (n : ℕ). least (λ i. slot_matches w key (slot_words w t i)) n 0) (sym (entries_length w t))
    ∙ first_match_by (vacant w) (entry_occupied w) (entries w t) (entry_matches w key) (λ i. slot_matches w key (slot_words w t i))
    (λ i h. let e = get_or (entries w t) i (vacant w) in
    sym (matches_at_lem w t key i (let n = entries_length w t in omega arith)) ∙ and_comm (entry_matches w key e) (entry_occupied w e))

-- a table's reply is that of its layout
pub reply_entries : (w : ℕ) (t : List ℕ) (key : Words)
    → reply w t key ≡ option_told (layout_reply (vacant w) (entry_occupied w) (entry_matches w key) (entry_told w) (entries w t))
unfolding layout_reply
reply_entries w t key = reply_shape w t m ∙ (pick (dec_lt m (slots w t)) ∙ sym (option_shape (ltb m' (length (entries w t))) (entry_told w (get_or (entries w t) m' (vacant w)))))
  where
    m : ℕ
    m = first_match w t key

    m' : ℕ
    m' = layout_match (vacant w) (entry_occupied w) (entry_matches w key) (entries w t)

    pick : Dec (m < slots w t) → cond (ltb m (slots w t)) (ident w (slot_words w t m) ∷ action w (slot_words w t m) ∷ []) []
        ≡ cond (ltb m' (length (entries w t))) (entry_told w (get_or (entries w t) m' (vacant w))) []
    pick (yes h) =
        rw (← first_match_entries w t key, entries_length w t, lt-ltb m (slots w t) h)
        (let e = entry_same_lem w t m h in ap₂ (λ (a b : ℕ). a ∷ b ∷ []) (sym (ident_cong w e)) (sym (action_cong w e)))
    pick (no h) =
        let l : slots w t ≤ m = omega arith in rw (← first_match_entries w t key, entries_length w t, le-ltb m (slots w t) l)

-- and so is what is promised of it
pub reply_observed : (w : ℕ) (u : Bool) (t : List ℕ) (key : Words)
    → observed u (reply w t key) ≡ option_told (layout_reply (vacant w) (entry_occupied w) (entry_matches w key) (entry_observed w u) (entries w t))
unfolding layout_reply
reply_observed w u t key =
    let m = layout_match (vacant w) (entry_occupied w) (entry_matches w key) (entries w t) in
    ap (observed u) (reply_entries w t key) ∙ shape u (ltb m (length (entries w t))) (entry_told w (get_or (entries w t) m (vacant w)))
  where
    shape : (v b : Bool) (told : List ℕ) → observed v (option_told (cond b (some told) none)) ≡ option_told (cond b (some (observed v told)) none)
    shape v true told = refl
    shape true false told = refl
    shape false false told = refl

-- the plan of an insert, write by write
module _ (w : ℕ) (u : Bool) (t : List ℕ) (given : Given) (small : given.rule.action < 4294967296) (premises : InsertableGiven w u t given) (key : Words) where
  abbrev rule : Rule
  rule = ranked w given

  -- until the last write every key keeps its reply
  pub insert_keeps_reply : (k : ℕ) → k < length (insert_words w u t rule)
      → observed u (reply w (apply_words w t rule (take k (insert_words w u t rule))) key) ≡ observed u (reply w t key)
  insert_keeps_reply k h =
      let checks = (table_checks_law w u t).0 premises.insertable.table in
      let after = apply_words w t rule (take k (insert_words w u t rule)) in
      reply_observed w u after key
      ∙ (ap option_told
      (between_reply (entry_laws w u) (entry_matches w key) (entry_observed w u) (entries_conflict w u key) (entries w t) (entries w after) ((order_entries w u t).1 checks.2)
      (unique_coherent (entry_laws w u) (entries w t) ((unique_entries w t).1 checks.1)) ((shortest_words w u t given small premises).between k h))
      ∙ sym (reply_observed w u t key))
