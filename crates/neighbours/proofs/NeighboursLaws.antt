-- Laws on a new rule's checks and neighbours, and on the rule that covers it: the searches of the code, and how each check ends.
use Rattle.std.specs.Prelude.{◌≡◌, refl, Bool, true, false, cond, ◌||◌, ◌↔◌, ◌⊎◌, List, ℕ, suc, ◌+◌, ◌-◌, ◌≤◌, ◌<◌}
use Rattle.std.proofs.Common.{sym, ap, ◌∙◌, true≢false, arith, lt-ltb, le-ltb, ltb-true, ltb-false}
use Rattle.search.specs.Search.{least}
use Rattle.search.specs.SearchLaws.{any_some, any_none, least_law, least_none, after_last_law, first_is, first_none, first_either}
use Rattle.ternary.specs.Pattern.{Words}
use Rattle.records.specs.Record.{slot_words, empty, ident}
use Rattle.records.specs.Order.{slots, same_id, tied, precedes, replaceable, Replaceable, obscures}
use Rattle.records.proofs.Laws.{or_else_pass, lowest_pass, same_id_law}
use Rattle.records.proofs.EntriesLaws.{refuted}
use Rattle.records.proofs.EqualLaws.{replaceable_law, equal_tied}
use Rattle.records.proofs.ObscuredLaws.{obscures_law}
use Rattle.records.specs.Checks.{or_else, table_checks}
use Rattle.records.specs.Editions.{Given, ranked}
use Rattle.records.specs.declared.Cause.TheVariants.{Known, Tie, Full, Crossed}
use Rattle.records.specs.Verdict.{Check}
use Rattle.records.specs.Verdict.{Pass, Fail}
use Rattle.neighbours.specs.Neighbours.{check_known, check_tie, check_full, after_a, slot_b, crossed_by, replaced_slot, replaces, covering_slot, CoveredAt, Uncovered, new_checks, place_checks, rule_words, rule_checks, insert_checks}

-- a loop over the slots ends in one of two ways
pub room_at : (w : ℕ) (t : List ℕ) (i : ℕ) → i < slots w t → empty w (slot_words w t i) ≡ true → Pass ≡ check_full w t
unfolding check_full
room_at w t i h e = rw (any_some (λ (k : ℕ). empty w (slot_words w t k)) (slots w t) i h e)

pub room_none : (w : ℕ) (t : List ℕ) → ((i : ℕ) → i < slots w t → empty w (slot_words w t i) ≡ false) → Fail Full 0 ≡ check_full w t
unfolding check_full
room_none w t f = rw (any_none (λ (k : ℕ). empty w (slot_words w t k)) (slots w t) f)

-- A and B lie within the table
pub after_a_high : (w : ℕ) (u : Bool) (t : List ℕ) (new : Words) → after_a w u t new ≤ slots w t
unfolding after_a
after_a_high w u t new = (after_last_law (λ (i : ℕ). precedes w u (slot_words w t i) new) (slots w t)).high

pub slot_b_high : (w : ℕ) (u : Bool) (t : List ℕ) (new : Words) → slot_b w u t new ≤ slots w t
unfolding slot_b
slot_b_high w u t new = let l = least_law (λ (i : ℕ). precedes w u new (slot_words w t i)) (slots w t) 0 in omega (arith, l.high)

-- the code's comparison of the two
pub crossed_yes : (a b : ℕ) → b + 1 < a → Fail Crossed (a - 1) ≡ crossed_by a b
crossed_yes a b h = rw (lt-ltb (suc b) a (omega arith))

pub crossed_no : (a b : ℕ) → a ≤ b + 1 → Pass ≡ crossed_by a b
crossed_no a b h = rw (le-ltb (suc b) a (omega arith))

-- a choice that is not taken for either of two reasons has neither
pub neither : (a b : Bool) → (a || b) ≡ false → (a ≡ false) × (b ≡ false)
neither true b e = absurd (true≢false e)
neither false b e = (refl, e)

-- the searches for the rule that is replaced, as the code makes them: of 8 and 9 nothing is left where there is one
pub new_passed : (w : ℕ) (u : Bool) (t : List ℕ) (new : Words) {x : Check} → x ≡ or_else (check_tie w u t new) (check_full w t) → x ≡ Pass
    → check_known w t new ≡ Pass → Pass ≡ new_checks w u t new
unfolding new_checks
new_passed w u t new e f g = rw g (pick (replaces w u t new))
  where
    pick : (b : Bool) → Pass ≡ cond b Pass (or_else (check_tie w u t new) (check_full w t))
    pick true = refl
    pick false = sym f ∙ e

-- the search for it finds one, or none
pub search_found : (w : ℕ) (u : Bool) (t : List ℕ) (new : Words) → replaced_slot w u t new < slots w t → replaces w u t new ≡ true
unfolding replaces
search_found w u t new h = lt-ltb (replaced_slot w u t new) (slots w t) h

pub search_none : (w : ℕ) (u : Bool) (t : List ℕ) (new : Words) → slots w t ≤ replaced_slot w u t new → replaces w u t new ≡ false
unfolding replaces
search_none w u t new h = le-ltb (replaced_slot w u t new) (slots w t) h

-- and what 8 and 9 came to counts where there is none
pub new_searched : (w : ℕ) (u : Bool) (t : List ℕ) (new : Words) {x : Check} → x ≡ or_else (check_tie w u t new) (check_full w t) → check_known w t new ≡ Pass
    → cond (replaces w u t new) Pass x ≡ new_checks w u t new
unfolding new_checks
new_searched w u t new e g = rw g (ap (cond (replaces w u t new) Pass) e)

-- what it means that a rule is replaced, and that none is
pub replaced_equal : (w : ℕ) (u : Bool) (t : List ℕ) (new : Words) → replaces w u t new ≡ true
    → (replaced_slot w u t new < slots w t) × Replaceable w u (slot_words w t (replaced_slot w u t new)) new
unfolding replaces replaced_slot
replaced_equal w u t new e =
    let p : ℕ → Bool = λ i. replaceable w u (slot_words w t i) new in
    let inside = ltb-true (least p (slots w t) 0) (slots w t) e in
    (inside, (replaceable_law w u (slot_words w t (least p (slots w t) 0)) new).0 ((least_law p (slots w t) 0).hit (omega (arith, inside))))

pub replaced_lowest : (w : ℕ) (u : Bool) (t : List ℕ) (new : Words) (i : ℕ) → i < replaced_slot w u t new → Replaceable w u (slot_words w t i) new → ⊥
unfolding replaced_slot
replaced_lowest w u t new i less equal =
    let p : ℕ → Bool = λ i. replaceable w u (slot_words w t i) new in
    true≢false (sym ((replaceable_law w u (slot_words w t i) new).1 equal) ∙ (least_law p (slots w t) 0).before i (omega arith) less)

pub replaced_none : (w : ℕ) (u : Bool) (t : List ℕ) (new : Words) → replaces w u t new ≡ false → (i : ℕ) → i < slots w t → Replaceable w u (slot_words w t i) new → ⊥
unfolding replaces replaced_slot
replaced_none w u t new e i h equal =
    let p : ℕ → Bool = λ i. replaceable w u (slot_words w t i) new in
    let none = (least_law p (slots w t) 0).before i (omega arith) (omega (arith, h, ltb-false (least p (slots w t) 0) (slots w t) e)) in
    true≢false (sym ((replaceable_law w u (slot_words w t i) new).1 equal) ∙ none)

-- no rule is replaced where none is equal, ..
pub none_replaced : (w : ℕ) (u : Bool) (t : List ℕ) (new : Words) → ((i : ℕ) → i < slots w t → Replaceable w u (slot_words w t i) new → ⊥) → replaces w u t new ≡ false
unfolding replaces replaced_slot
none_replaced w u t new none =
    let at = least_none (λ (i : ℕ). replaceable w u (slot_words w t i) new) (slots w t) (λ i h. refuted (λ e. none i h ((replaceable_law w u (slot_words w t i) new).0 e))) in
    rw (at, le-ltb (slots w t) (slots w t) (omega arith))

-- .. as, in a counted table, where the new rule's id is unknown and it ties with none: 6 and 8 pass
pub untied_none : (w : ℕ) (u : Bool) (t : List ℕ) (new : Words) → ((i : ℕ) → i < slots w t → same_id w (slot_words w t i) new ≡ false)
    → ((i : ℕ) → i < slots w t → tied w u (slot_words w t i) new ≡ false)
    → (u ≡ true → (i : ℕ) → i < slots w t → Replaceable w u (slot_words w t i) new → ⊥) → replaces w u t new ≡ false
untied_none w true t new unknown untied none = none_replaced w true t new (none refl)
untied_none w false t new unknown untied none =
    none_replaced w false t new (λ i h found.
    let equal = found.equal in
    let apart : ident w (slot_words w t i) ≡ ident w new → ⊥ =
    λ f. true≢false (sym ((same_id_law w (slot_words w t i) new).1 (equal.first, equal.second, f)) ∙ unknown i h) in
    true≢false (sym (equal_tied w (slot_words w t i) new equal apart) ∙ untied i h))

pub new_adds : (w : ℕ) (u : Bool) (t : List ℕ) (new : Words) {x : Check} → u ≡ false → x ≡ or_else (check_tie w u t new) (check_full w t) → x ≡ Pass
    → check_known w t new ≡ Pass → replaces w u t new ≡ false
unfolding check_known check_tie
new_adds w u t new counted e f g =
    untied_none w u t new ((lowest_pass Known (λ (i : ℕ). same_id w (slot_words w t i) new) (slots w t)).0 g)
    ((lowest_pass Tie (λ (i : ℕ). tied w u (slot_words w t i) new) (slots w t)).0 ((or_else_pass (check_tie w u t new) (check_full w t)).0 (sym e ∙ f)).0)
    (λ named. absurd (true≢false (sym named ∙ counted)))

-- the checks of an insert pass exactly when those of the table, of the rule and of its place do
pub insert_passes : (w : ℕ) (u : Bool) (t : List ℕ) (given : Given)
    → (insert_checks w u t given ≡ Pass)
    ↔ ((table_checks w u t ≡ Pass) × (rule_checks w u t given ≡ Pass) × (place_checks w u t (rule_words w (ranked w given)) ≡ Pass))
unfolding insert_checks
insert_passes w u t given =
    let place = place_checks w u t (rule_words w (ranked w given)) in
    let table = or_else_pass (table_checks w u t) (or_else (rule_checks w u t given) place) in
    let own = or_else_pass (rule_checks w u t given) place in
    (λ e. let p = table.0 e in let q = own.0 p.1 in (p.0, q.0, q.1), λ p. table.1 (p.0, own.1 (p.1, p.2)))

-- the slot that is told exactly where it is the lowest that covers the new rule, and 65,535 exactly where none does
pub covered_at : (w : ℕ) (t : List ℕ) (new : Words) → slots w t ≤ 65535 → (c : ℕ) → ((c < slots w t) × (covering_slot w t new ≡ c)) ↔ CoveredAt w t new c
unfolding covering_slot
covered_at w t new few c = (
  λ e. let z = (first_is p 0 (slots w t) (omega arith) few c e.0).0 e.1 in
      record { inside = e.0; obscuring = (obscures_law w (slot_words w t c) new).0 z.1; lowest = λ i h o. true≢false (sym ((obscures_law w (slot_words w t i) new).1 o) ∙ z.2 i (omega arith) h) },
  λ r. (
    r.inside,
    (first_is p 0 (slots w t) (omega arith) few c r.inside).1
        (omega arith, (obscures_law w (slot_words w t c) new).1 r.obscuring, λ i l h. refuted (λ e. r.lowest i h ((obscures_law w (slot_words w t i) new).0 e))),
  ),
)
  where
    p : ℕ → Bool
    p i = obscures w (slot_words w t i) new

pub covered_none : (w : ℕ) (t : List ℕ) (new : Words) → slots w t ≤ 65535 → (covering_slot w t new ≡ 65535) ↔ Uncovered w t new
unfolding covering_slot
covered_none w t new few =
    let law = first_none (λ (i : ℕ). obscures w (slot_words w t i) new) 0 (slots w t) (omega arith) few in (
      λ e i h o. true≢false (sym ((obscures_law w (slot_words w t i) new).1 o) ∙ law.0 e i (omega arith) h),
      λ none. law.1 (λ i l h. refuted (λ e. none i h ((obscures_law w (slot_words w t i) new).0 e))),
    )

-- a slot is told, or that there is none
pub covered_either : (w : ℕ) (t : List ℕ) (new : Words) → slots w t ≤ 65535 → (covering_slot w t new < slots w t) ⊎ (covering_slot w t new ≡ 65535)
unfolding covering_slot
covered_either w t new few = first_either (λ (i : ℕ). obscures w (slot_words w t i) new) 0 (slots w t) (omega arith) few
