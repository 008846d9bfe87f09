-- Laws on the rows of a planning call: checks 5 to 11 and 18, each with its condition in plain terms.
use Rattle.std.specs.Prelude.{◌≡◌, Bool, true, false, cond, ◌⊎◌, List, [], ◌∷◌, ℕ, suc, ◌-◌, ◌<◌, eqb, ltb}
use Rattle.std.proofs.Common.{sym, ◌∙◌, inl, inr, ⊎_elim}
use Rattle.std.proofs.Math.Path.{ap, subst}
use Rattle.std.proofs.Math.Bool.{not, true≢false}
use Prim.{tt}
use native.Mathlib.Omega.{arith}
use Rattle.std.proofs.Math.Decide.{ℕ_discrete, dec_lt}
use borrow.Author.Tests.{eqb-true, eq-eqb, lt-ltb, ltb-true, ltb-false}
use Rattle.search.specs.Search.{any, least}
use Rattle.search.specs.SearchLaws.{decided, any_yes, any_no, and_law, least_law}
use Rattle.ternary.specs.Pattern.{Words}
use Rattle.records.specs.Record.{word, slot_words, empty, occupied, ident, sound_rule, record_of}
use Rattle.records.specs.Order.{slots, same_id, Replaceable}
use Rattle.records.specs.Checks.{or_else, slot_checks, check_twice, check_order, table_checks}
use Rattle.records.proofs.Laws.{pass_law, or_else_pass, lowest_pass, table_checks_law, sound_rule_law, same_id_law, tied_law, precedes_law}
use Rattle.records.proofs.EqualLaws.{equal_untied, equal_after, equal_before}
use Rattle.records.specs.Editions.{Given, ranked, known_edition, check_sound, check_edition, check_given}
use Rattle.records.proofs.EditionsLaws.{edition_law}
use Rattle.records.specs.declared.Rule.{Rule}
use Rattle.records.specs.declared.Cause.{Cause}
use Rattle.records.specs.declared.Cause.TheVariants.{Rule as RuleCause, Known, Unknown, Tie, Full, Crossed, Short, Edition as EditionCause}
use Rattle.records.specs.Verdict.{Pass, Fail}
use Rattle.buffers.specs.Buffers.{check_room}
use Rattle.neighbours.specs.Neighbours.{check_known, check_tie, check_full, check_crossed, after_a, slot_b, replaced_slot, replaces, new_checks, place_checks}
use Rattle.neighbours.specs.Neighbours.{rule_words, rule_checks, insert_checks}
use Rattle.neighbours.proofs.NeighboursLaws.{replaced_equal, replaced_none}
use Rattle.delete_plans.specs.Deletes.{has_id, slot_of_id, check_id, check_unknown, delete_checks}
use Rattle.insert_plans.proofs.InsertableLaws.{rule_words_lem, crossed_pass, crossed_fail}
use Rattle.refusals.proofs.RowsLaws.{Agrees, one_row, rows_then, passing}
use Rattle.refusals.specs.Calls.{OneId, Ties, IsA, ReplacesNone, known_row, unknown_row, tie_row, full_row, crossed_row, table_rows, rule_row, id_row, OtherEdition, edition_row}
use Rattle.refusals.specs.Calls.{short_row, new_rule_rows, old_rule_rows}
use Rattle.refusals.proofs.TableLaws.{test_row, fault_row, only_cause, lowest_row, table_rows_lem}

rule_row_lem : (w : ℕ) (rule : Rule) → Agrees (check_sound w rule) (rule_row w rule ∷ [])
unfolding check_sound
rule_row_lem w rule =
    let law = sound_rule_law w rule in
    test_row RuleCause _ 0 (sound_rule w rule) (λ e bad. bad (law.0 e)) (λ e good. true≢false (sym (law.1 good) ∙ e))

-- an edition is one of the two, or another
pub edition_one : (e : ℕ) → known_edition e ≡ true → OtherEdition e → ⊥
unfolding check_edition
edition_one e k other = ⊎_elim other.0 other.1 ((edition_law e).0 ((pass_law EditionCause 0 (known_edition e)).1 k))

pub edition_other : (e : ℕ) → known_edition e ≡ false → OtherEdition e
unfolding known_edition
edition_other e f = (λ s. true≢false (sym (ap known_edition s) ∙ f), λ s. true≢false (sym (ap known_edition s) ∙ f))

edition_row_lem : (e : ℕ) → Agrees (check_edition e) (edition_row e ∷ [])
unfolding check_edition
edition_row_lem e = test_row EditionCause _ 0 (known_edition e) (edition_one e) (edition_other e)

pub short_row_lem : (needed room : ℕ) → Agrees (check_room needed room) (short_row needed room ∷ [])
unfolding check_room
short_row_lem needed room = fault_row Short _ needed (ltb room needed) (λ e. ltb-true room needed e, λ l. lt-ltb room needed l)

module _ (w : ℕ) (t : List ℕ) where
  pub known_row_lem : (new : Words) → Agrees (check_known w t new) (known_row w t new ∷ [])
  unfolding check_known
  known_row_lem new = lowest_row Known (slots w t) _ (λ i. OneId w (slot_words w t i) new) (λ i h. same_id_law w (slot_words w t i) new)

module _ (w : ℕ) (u : Bool) (t : List ℕ) where
  -- 8 and 9 where no rule is replaced
  tie_full_rows : (new : Words) → ReplacesNone w u t new → Agrees (or_else (check_tie w u t new) (check_full w t)) (tie_row w u t new ∷ full_row w u t new ∷ [])
  unfolding check_tie check_full
  tie_full_rows new none =
      rows_then _ _ (tie_row w u t new ∷ []) _
      (lowest_row Tie (slots w t) _ (λ i. Ties w u (slot_words w t i) new × (Replaceable w u (slot_words w t i) new → ⊥))
      (λ i h. let law = tied_law w u (slot_words w t i) new in (λ e. (law.0 e, none i h), λ p. law.1 p.0)))
      (λ f. test_row Full _ 0 (any (λ (i : ℕ). empty w (slot_words w t i)) (slots w t))
      (λ e full. let free = any_yes (λ (i : ℕ). empty w (slot_words w t i)) (slots w t) e in
      true≢false (sym (full.0 free.0 free.1) ∙ ap not free.2))
      (λ e. (λ i h. ap not (any_no (λ (i : ℕ). empty w (slot_words w t i)) (slots w t) e i h), none)))

  pub crossed_row_lem : (new : Words) → Agrees (check_crossed w u t new) (crossed_row w u t new ∷ [])
  unfolding check_crossed
  crossed_row_lem new =
      one_row (crossed_row w u t new) (check_crossed w u t new)
      (λ e found.
      let before = (crossed_pass w u t new).0 e found.1 found.0 found.3 (omega (arith, found.2, found.3))
      ((precedes_law w u (slot_words w t found.1) new).1 found.5) ((precedes_law w u new (slot_words w t found.0)).1 found.4) in
      omega (arith, before, found.2))
      (λ c a e.
      let same = only_cause Crossed c (after_a w u t new - 1) a (ltb (suc (slot_b w u t new)) (after_a w u t new)) e in
      let at = (crossed_fail w u t new a).0 (e ∙ ap (λ (x : Cause). Fail x a) (sym same)) in
      let first = (precedes_law w u (slot_words w t a) new).0 at.preceding in
      let b = at.dependant in (
        same,
        (b.0, a, b.1, at.within, (precedes_law w u new (slot_words w t b.0)).0 b.2, first),
        (at.within, first, λ i h k p. true≢false (sym ((precedes_law w u (slot_words w t i) new).1 p) ∙ at.last i h k)),
      ))
      once
    where
      once : (x y : ℕ) → IsA w u t new x → IsA w u t new y → x ≡ y
      once x y a b = pick (dec_lt x y) (dec_lt y x)
        where
          pick : Dec (x < y) → Dec (y < x) → x ≡ y
          pick (yes l) d = absurd (a.2 y l b.0 b.1)
          pick (no l) (yes m) = absurd (b.2 x m a.0 a.1)
          pick (no l) (no m) = omega arith

  -- what is left where a rule is replaced, in a table that passes 1 to 4: nothing of 8, 9 and 10
  module _ (new : Words) (sound : table_checks w u t ≡ Pass) (known : check_known w t new ≡ Pass) where
    fresh : (i : ℕ) → i < slots w t → same_id w (slot_words w t i) new ≡ false
    unfolding check_known
    fresh = (lowest_pass Known (λ (i : ℕ). same_id w (slot_words w t i) new) (slots w t)).0 known

    checks : (slot_checks w t ≡ Pass) × (check_twice w t ≡ Pass) × (check_order w u t ≡ Pass)
    checks = (table_checks_law w u t).0 sound

    replaced_tie : (s : ℕ) → s < slots w t → Replaceable w u (slot_words w t s) new → (tie_row w u t new).condition → ⊥
    replaced_tie s h equal (i, l, (ties, other)) = pick (ℕ_discrete i s)
      where
        pick : Dec (i ≡ s) → ⊥
        pick (yes e) = other (subst (λ (k : ℕ). Replaceable w u (slot_words w t k) new) (sym e) equal)
        pick (no e) = true≢false (sym ((tied_law w u (slot_words w t i) new).1 ties) ∙ equal_untied w u t checks.1 checks.2 new fresh s h equal i l e)

    replaced_crossed : (s : ℕ) → s < slots w t → Replaceable w u (slot_words w t s) new → (crossed_row w u t new).condition → ⊥
    replaced_crossed s h equal (b, a, less, inside, depends, before) =
        omega (
          arith,
          equal_before w u t checks.1 checks.2 new fresh s h equal b (omega (arith, less, inside)) ((precedes_law w u new (slot_words w t b)).1 depends),
          equal_after w u t checks.1 checks.2 new fresh s h equal a inside ((precedes_law w u (slot_words w t a) new).1 before),
          less,
        )

    room_rows : Agrees (cond (replaces w u t new) Pass (or_else (check_tie w u t new) (check_full w t))) (tie_row w u t new ∷ full_row w u t new ∷ [])
    room_rows = pick (decided (replaces w u t new))
      where
        pick : (replaces w u t new ≡ true) ⊎ (replaces w u t new ≡ false)
            → Agrees (cond (replaces w u t new) Pass (or_else (check_tie w u t new) (check_full w t))) (tie_row w u t new ∷ full_row w u t new ∷ [])
        pick (inl e) =
            let found = replaced_equal w u t new e in
            rw e (passing (tie_row w u t new ∷ full_row w u t new ∷ [])
            (replaced_tie (replaced_slot w u t new) found.0 found.1, (λ full. full.1 (replaced_slot w u t new) found.0 found.1, tt)))
        pick (inr e) = rw e (tie_full_rows new (replaced_none w u t new e))

    place_rows : Agrees (place_checks w u t new) (crossed_row w u t new ∷ [])
    unfolding place_checks
    place_rows = pick (decided (replaces w u t new))
      where
        pick : (replaces w u t new ≡ true) ⊎ (replaces w u t new ≡ false) → Agrees (cond (replaces w u t new) Pass (check_crossed w u t new)) (crossed_row w u t new ∷ [])
        pick (inl e) =
            let found = replaced_equal w u t new e in
            rw e (passing (crossed_row w u t new ∷ []) (replaced_crossed (replaced_slot w u t new) found.0 found.1, tt))
        pick (inr e) = rw e (crossed_row_lem new)

  -- checks 5 and 18
  given_rows : (given : Given) → Agrees (check_given w given) (rule_row w given.rule ∷ edition_row given.edition ∷ [])
  unfolding check_given
  given_rows given = rows_then _ _ (rule_row w given.rule ∷ []) _ (rule_row_lem w given.rule) (λ e. edition_row_lem given.edition)

  -- checks 1 to 10 of an insert
  pub insert_rows_lem : (given : Given) → Agrees (insert_checks w u t given) (new_rule_rows w u t given)
  unfolding insert_checks rule_checks new_checks
  insert_rows_lem given =
      rows_then _ _ (table_rows w u t) _ (table_rows_lem w u t)
      (λ e. rows_then _ _ (rule_row w given.rule ∷ edition_row given.edition ∷ known_row w t own ∷ tie_row w u t own ∷ full_row w u t own ∷ []) _
      (rows_then _ _ (rule_row w given.rule ∷ edition_row given.edition ∷ []) _ (given_rows given)
      (λ f. subst (λ (x : Words). Agrees (new_checks w u t new) (known_row w t x ∷ tie_row w u t x ∷ full_row w u t x ∷ [])) same
      (rows_then _ _ (known_row w t new ∷ []) _ (known_row_lem w t new) (room_rows new e))))
      (λ f. subst (λ (x : Words). Agrees (place_checks w u t new) (crossed_row w u t x ∷ [])) same
      (place_rows new e ((or_else_pass (check_known w t new) _).0 ((or_else_pass (check_given w given) (new_checks w u t new)).0 f).1).0)))
    where
      new : Words
      new = rule_words w (ranked w given)

      own : Words
      own = word (record_of w (ranked w given))

      same : new ≡ own
      same = rule_words_lem w (ranked w given)

  -- check 7
  holds_law : (id i : ℕ) → has_id w t id i ≡ true → (occupied w (slot_words w t i) ≡ true) × (ident w (slot_words w t i) ≡ id)
  unfolding has_id
  holds_law id i e =
      let p = (and_law (eqb (ident w (slot_words w t i)) id) (occupied w (slot_words w t i))).0 e in (p.1, eqb-true _ _ p.0)

  holds_back : (id i : ℕ) → occupied w (slot_words w t i) ≡ true → ident w (slot_words w t i) ≡ id → has_id w t id i ≡ true
  unfolding has_id
  holds_back id i o e = (and_law (eqb (ident w (slot_words w t i)) id) (occupied w (slot_words w t i))).1 (eq-eqb _ _ e, o)

  unknown_row_lem : (id : ℕ) → Agrees (check_unknown w t id) (unknown_row w t id ∷ [])
  unfolding check_unknown slot_of_id
  unknown_row_lem id =
      let l = least_law (has_id w t id) (slots w t) 0 in
      let first = least (has_id w t id) (slots w t) 0 in
      test_row Unknown _ 0 (ltb first (slots w t))
      (λ e absent. let h = ltb-true first (slots w t) e in
      let p = holds_law id first (l.hit (omega arith)) in
      absent first h p.0 p.1)
      (λ e i h o f. true≢false (sym (holds_back id i o f) ∙ l.before i (omega arith) (omega (arith, ltb-false first (slots w t) e))))

  -- checks 1 to 5 and 7 of a delete
  pub delete_rows_lem : (id : ℕ) → Agrees (delete_checks w u t id) (old_rule_rows w u t id)
  unfolding delete_checks check_id
  delete_rows_lem id =
      rows_then _ _ (table_rows w u t) _ (table_rows_lem w u t)
      (λ e. rows_then _ _ (id_row id ∷ []) _ (fault_row RuleCause _ 0 (eqb id 0) (λ z. eqb-true id 0 z, λ z. eq-eqb id 0 z)) (λ f. unknown_row_lem id))
