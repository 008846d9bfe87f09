-- End theorems on the checks of an insert: they pass exactly when it is insertable or replaces a rule, and what 10 says when it fails.
use Rattle.std.specs.Prelude.{◌≡◌, Bool, true, false, ◌↔◌, ◌⊎◌, List, ℕ, suc, ◌+◌, ◌-◌, ◌≤◌, ◌<◌}
use Rattle.std.proofs.Math.Path.{refl, sym, ap, subst}
use Rattle.std.proofs.Common.{◌∙◌, true≢false, arith, lt-ltb, ltb-false}
use Rattle.std.proofs.Math.Bool.{cond}
use Rattle.std.proofs.Math.Logic.{⊎_elim}
use Rattle.std.proofs.Math.Logic.◌⊎◌.{inl, inr}
use Rattle.std.proofs.Math.Decide.{dec_lt}
use Rattle.search.specs.Search.{any, Least, AfterLast}
use Rattle.search.specs.SearchLaws.{decided, any_yes, least_law, least_at, after_last_law, after_last_unique}
use Rattle.ternary.specs.Pattern.{Words}
use Rattle.records.specs.Record.{word, slot_words, empty, record_of}
use Rattle.records.specs.Order.{slots, same_id, tied, precedes, replaceable, Replaceable}
use Rattle.records.specs.Checks.{or_else, table_checks}
use Rattle.records.proofs.Laws.{or_else_pass, lowest_pass, pass_law, cond_pass, precedes_law, table_checks_law}
use Rattle.records.specs.Inserts.{IdNew}
use Rattle.records.proofs.EntriesLaws.{refuted}
use Rattle.records.proofs.EqualLaws.{replaceable_law, equal_untied, equal_after, equal_before, equal_once}
use Rattle.records.proofs.WidthsLaws.{lent_words}
use Rattle.records.specs.Editions.{Given, ranked, check_given}
use Rattle.records.proofs.EditionsLaws.{given_law, rank_sound}
use Rattle.records.specs.declared.Rule.{Rule}
use Rattle.records.specs.declared.Cause.TheVariants.{Known, Tie, Full, Crossed}
use Rattle.records.specs.Verdict.{Check}
use Rattle.records.specs.Verdict.{Pass, Fail}
use Rattle.neighbours.specs.Neighbours.{check_known, check_tie, check_full, check_crossed, after_a, slot_b, replaced_slot, replaces, new_checks, place_checks}
use Rattle.neighbours.specs.Neighbours.{rule_words, rule_checks, insert_checks}
use Rattle.neighbours.proofs.NeighboursLaws.{room_at, crossed_yes, crossed_no, replaced_equal, replaced_lowest, replaced_none, none_replaced, untied_none, insert_passes}
use Rattle.insert_plans.specs.Insertable.{CrossedAt, Insertable, InsertableGiven, Replacing, ReplacingGiven, Uncrossed}

-- a rule has its record's words
pub rule_words_lem : (w : ℕ) (rule : Rule) → rule_words w rule ≡ word (record_of w rule)
rule_words_lem w rule = lent_words w (record_of w rule)

-- what A + 1 and B are
pub after_a_law : (w : ℕ) (u : Bool) (t : List ℕ) (new : Words) → AfterLast (λ (i : ℕ). precedes w u (slot_words w t i) new) (slots w t) (after_a w u t new)
unfolding after_a
after_a_law w u t new = after_last_law (λ (i : ℕ). precedes w u (slot_words w t i) new) (slots w t)

pub slot_b_law : (w : ℕ) (u : Bool) (t : List ℕ) (new : Words) → Least (λ (i : ℕ). precedes w u new (slot_words w t i)) 0 (0 + slots w t) (slot_b w u t new)
unfolding slot_b
slot_b_law w u t new = least_law (λ (i : ℕ). precedes w u new (slot_words w t i)) (slots w t) 0

-- a rule that precedes the new one stands at A or before it, and one that depends on it at B or after it
pub stands_by_a : (w : ℕ) (u : Bool) (t : List ℕ) (new : Words) (i : ℕ) → i < slots w t → precedes w u (slot_words w t i) new ≡ true → i < after_a w u t new
stands_by_a w u t new i h e = pick (dec_lt i (after_a w u t new))
  where
    pick : Dec (i < after_a w u t new) → i < after_a w u t new
    pick (yes l) = l
    pick (no l) = absurd (true≢false (sym e ∙ (after_a_law w u t new).after i (omega arith) h))

pub stands_by_b : (w : ℕ) (u : Bool) (t : List ℕ) (new : Words) (k : ℕ) → precedes w u new (slot_words w t k) ≡ true → slot_b w u t new ≤ k
stands_by_b w u t new k e = pick (dec_lt k (slot_b w u t new))
  where
    pick : Dec (k < slot_b w u t new) → slot_b w u t new ≤ k
    pick (yes l) = absurd (true≢false (sym e ∙ (slot_b_law w u t new).before k (omega arith) l))
    pick (no l) = omega arith

-- no rule both precedes the new one and depends on it
pub precedes_once : (w : ℕ) (u : Bool) (a b : Words) → precedes w u a b ≡ true → precedes w u b a ≡ true → ⊥
precedes_once w u a b e f = omega (arith, ((precedes_law w u a b).0 e).1, ((precedes_law w u b a).0 f).1)

-- check 10 passes exactly when the rule is not crossed
pub crossed_pass : (w : ℕ) (u : Bool) (t : List ℕ) (new : Words) → (check_crossed w u t new ≡ Pass) ↔ Uncrossed w u t new
unfolding check_crossed
crossed_pass w u t new = (
  λ e i k h l p d. before i k h l p d (ltb-false (suc (slot_b w u t new)) (after_a w u t new) (cond_pass _ _ _ e)) (dec_lt i k),
  λ f. sym (crossed_no (after_a w u t new) (slot_b w u t new) (apart f (dec_lt (suc (slot_b w u t new)) (after_a w u t new)))),
)
  where
    before : (i k : ℕ) → i < slots w t → k < slots w t → precedes w u (slot_words w t i) new ≡ true → precedes w u new (slot_words w t k) ≡ true
        → after_a w u t new ≤ suc (slot_b w u t new) → Dec (i < k) → i < k
    before i k h l p d low (yes less) = less
    before i k h l p d low (no more) =
        let same : i ≡ k = omega (arith, stands_by_a w u t new i h p, stands_by_b w u t new k d) in
        absurd (precedes_once w u (slot_words w t i) new p (ap (λ (x : ℕ). precedes w u new (slot_words w t x)) same ∙ d))

    apart : Uncrossed w u t new → Dec (suc (slot_b w u t new) < after_a w u t new) → after_a w u t new ≤ slot_b w u t new + 1
    apart f (no l) = omega arith
    apart f (yes l) =
        let a = after_a_law w u t new in
        let b = slot_b_law w u t new in
        let less = f (after_a w u t new - 1) (slot_b w u t new) (omega (arith, a.high)) (omega (arith, a.high))
        (a.hit (after_a w u t new - 1) (omega arith)) (b.hit (omega (arith, a.high))) in
        absurd (omega arith)

-- no rule is replaced where none is equal, as where the rule ties with none
pub replaces_none : (w : ℕ) (u : Bool) (t : List ℕ) (rule : Rule) → ((i : ℕ) → i < slots w t → Replaceable w u (slot_words w t i) (word (record_of w rule)) → ⊥)
    → replaces w u t (rule_words w rule) ≡ false
replaces_none w u t rule none = ap (replaces w u t) (rule_words_lem w rule) ∙ none_replaced w u t (word (record_of w rule)) none

pub insertable_fresh : (w : ℕ) (u : Bool) (t : List ℕ) (rule : Rule) → Insertable w u t rule → replaces w u t (rule_words w rule) ≡ false
insertable_fresh w u t rule p = ap (replaces w u t) (rule_words_lem w rule) ∙ untied_none w u t (word (record_of w rule)) p.new p.untied p.adds

-- the slot of a rule that is replaced is the lowest
pub replaced_first : (w : ℕ) (u : Bool) (t : List ℕ) (rule : Rule) (s : ℕ) → Replacing w u t rule s
    → (i : ℕ) → i < s → Replaceable w u (slot_words w t i) (word (record_of w rule)) → ⊥
replaced_first w true t rule s r i less other = r.lowest refl i less other
replaced_first w false t rule s r i less other =
    let checks = (table_checks_law w false t).0 r.table in
    let inside : i < slots w t = omega (arith, r.inside) in
    let one = equal_once w t checks.1 checks.2 (word (record_of w rule)) r.new s r.inside r.replaced i inside other in
    omega (arith, one)

-- of a rule that replaces the one in slot s that slot is found
pub replacing_slot : (w : ℕ) (u : Bool) (t : List ℕ) (rule : Rule) (s : ℕ) → Replacing w u t rule s
    → (replaced_slot w u t (rule_words w rule) ≡ s) × (replaces w u t (rule_words w rule) ≡ true)
unfolding replaces replaced_slot
replacing_slot w u t rule s r =
    let own = word (record_of w rule) in
    let same : (i : ℕ) → replaceable w u (slot_words w t i) (rule_words w rule) ≡ replaceable w u (slot_words w t i) own =
    λ i. ap (replaceable w u (slot_words w t i)) (rule_words_lem w rule) in
    let at = least_at (λ (i : ℕ). replaceable w u (slot_words w t i) (rule_words w rule)) (slots w t) s r.inside
    (λ j l. refuted (λ e. replaced_first w u t rule s r j l ((replaceable_law w u (slot_words w t j) own).0 (sym (same j) ∙ e))))
    (same s ∙ (replaceable_law w u (slot_words w t s) own).1 r.replaced) in
    (at, rw (at, lt-ltb s (slots w t) r.inside))

-- such a rule ties with no other and is not crossed
pub replacing_untied : (w : ℕ) (u : Bool) (t : List ℕ) (rule : Rule) (s : ℕ) → Replacing w u t rule s
    → (i : ℕ) → i < slots w t → (i ≡ s → ⊥) → tied w u (slot_words w t i) (word (record_of w rule)) ≡ false
replacing_untied w u t rule s r =
    let checks = (table_checks_law w u t).0 r.table in
    equal_untied w u t checks.1 checks.2 (word (record_of w rule)) r.new s r.inside r.replaced

pub replacing_uncrossed : (w : ℕ) (u : Bool) (t : List ℕ) (rule : Rule) (s : ℕ) → Replacing w u t rule s → Uncrossed w u t (word (record_of w rule))
replacing_uncrossed w u t rule s r i k h l p d =
    let checks = (table_checks_law w u t).0 r.table in
    let own = word (record_of w rule) in
    omega (
      arith,
      equal_after w u t checks.1 checks.2 own r.new s r.inside r.replaced i h p,
      equal_before w u t checks.1 checks.2 own r.new s r.inside r.replaced k l d,
    )

-- checks 1 to 10 of an insert, and 18, pass exactly when demand 3's premises hold or the rule replaces one
module _ (w : ℕ) (u : Bool) (t : List ℕ) (given : Given) where
  abbrev rule : Rule
  rule = ranked w given

  abbrev new : Words
  new = rule_words w rule

  same : new ≡ word (record_of w rule)
  same = rule_words_lem w rule

  abbrev rest : Check
  rest = or_else (check_tie w u t new) (check_full w t)

  -- 1 to 4, 5 and 18, 6, and the others
  rows : (insert_checks w u t given ≡ Pass)
      ↔ ((table_checks w u t ≡ Pass) × (check_given w given ≡ Pass) × (check_known w t new ≡ Pass)
      × (cond (replaces w u t new) Pass rest ≡ Pass) × (place_checks w u t new ≡ Pass))
  unfolding rule_checks new_checks
  rows =
      let a = insert_passes w u t given in
      let c = or_else_pass (check_given w given) (new_checks w u t new) in
      let d = or_else_pass (check_known w t new) (cond (replaces w u t new) Pass rest) in (
        λ e. let p = a.0 e in
            let r = c.0 p.1 in
            let s = d.0 r.1 in
            (p.0, r.0, s.0, s.1, p.2),
        λ p. a.1 (p.0, c.1 (p.1, d.1 (p.2, p.3)), p.4),
      )

  known : (check_known w t new ≡ Pass) ↔ IdNew w t rule
  unfolding check_known
  known =
      let law = lowest_pass Known (λ (i : ℕ). same_id w (slot_words w t i) new) (slots w t) in (
        λ e i l. ap (λ (x : Words). same_id w (slot_words w t i) x) (sym same) ∙ law.0 e i l,
        λ f. law.1 (λ i h. ap (λ (x : Words). same_id w (slot_words w t i) x) same ∙ f i h),
      )

  -- where no rule is replaced
  fresh : check_known w t new ≡ Pass → table_checks w u t ≡ Pass → check_given w given ≡ Pass → replaces w u t new ≡ false → rest ≡ Pass
      → check_crossed w u t new ≡ Pass → InsertableGiven w u t given
  unfolding check_tie check_full
  fresh e table good none f crossed =
      let g = (given_law w given).0 good in
      let r = (or_else_pass (check_tie w u t new) (check_full w t)).0 f in
      record {
        sound = g.0;
        edition = g.1;
        insertable = record {
          table = table;
          sound = rank_sound w given g.0;
          new = known.0 e;
          untied = λ i l. ap (λ (x : Words). tied w u (slot_words w t i) x) (sym same)
              ∙ (lowest_pass Tie (λ (i : ℕ). tied w u (slot_words w t i) new) (slots w t)).0 r.0 i l;
          room = any_yes (λ (i : ℕ). empty w (slot_words w t i)) (slots w t) ((pass_law Full 0 (any (λ (i : ℕ). empty w (slot_words w t i)) (slots w t))).0 r.1);
          uncrossed = subst (λ (x : Words). Uncrossed w u t x) same ((crossed_pass w u t new).0 crossed);
          adds = λ named i h other. replaced_none w u t new none i h (subst (Replaceable w u (slot_words w t i)) (sym same) other);
        };
      }

  -- where one is
  replaced : check_known w t new ≡ Pass → table_checks w u t ≡ Pass → check_given w given ≡ Pass → replaces w u t new ≡ true
      → (s : ℕ) × ReplacingGiven w u t given s
  replaced e table good f =
      let g = (given_law w given).0 good in
      let found = replaced_equal w u t new f in (
        replaced_slot w u t new,
        record {
          sound = g.0;
          edition = g.1;
          replacing = record {
            table = table;
            sound = rank_sound w given g.0;
            new = known.0 e;
            inside = found.0;
            replaced = subst (Replaceable w u (slot_words w t (replaced_slot w u t new))) same found.1;
            lowest = λ named i less other.
                replaced_lowest w u t new i less (subst (Replaceable w u (slot_words w t i)) (sym same) other);
          };
        },
      )

  pub insertable_passes : InsertableGiven w u t given → insert_checks w u t given ≡ Pass
  unfolding place_checks check_tie
  insertable_passes q =
      let p = q.insertable in
      let none = insertable_fresh w u t rule p in
      let tie = (lowest_pass Tie (λ (i : ℕ). tied w u (slot_words w t i) new) (slots w t)).1
      (λ i h. ap (λ (x : Words). tied w u (slot_words w t i) x) same ∙ p.untied i h) in
      let room = p.room in
      let full = sym (room_at w t room.0 room.1 room.2) in
      let crossed = (crossed_pass w u t new).1 (subst (λ (x : Words). Uncrossed w u t x) (sym same) p.uncrossed) in
      rows.1
      (p.table, (given_law w given).1 (q.sound, q.edition), known.1 p.new, rw none ((or_else_pass (check_tie w u t new) (check_full w t)).1 (tie, full)), rw none crossed)

  pub replacing_passes : (s : ℕ) → ReplacingGiven w u t given s → insert_checks w u t given ≡ Pass
  unfolding place_checks
  replacing_passes s q =
      let r = q.replacing in
      let found = (replacing_slot w u t rule s r).1 in
      rows.1 (r.table, (given_law w given).1 (q.sound, q.edition), known.1 r.new, rw found refl, rw found refl)

  pub insertable_law : (insert_checks w u t given ≡ Pass) ↔ (InsertableGiven w u t given ⊎ ((s : ℕ) × ReplacingGiven w u t given s))
  unfolding place_checks
  insertable_law = (
    λ e. let p = rows.0 e in cases p.0 p.1 p.2 p.3 p.4 (decided (replaces w u t new)),
    λ c. ⊎_elim insertable_passes (λ r. replacing_passes r.0 r.1) c,
  )
    where
      cases : table_checks w u t ≡ Pass → check_given w given ≡ Pass → check_known w t new ≡ Pass → cond (replaces w u t new) Pass rest ≡ Pass
          → cond (replaces w u t new) Pass (check_crossed w u t new) ≡ Pass → (replaces w u t new ≡ true) ⊎ (replaces w u t new ≡ false)
          → InsertableGiven w u t given ⊎ ((s : ℕ) × ReplacingGiven w u t given s)
      cases table good id more place (inl e) = inr (replaced id table good e)
      cases table good id more place (inr e) = inl (fresh id table good e (rw e at more) (rw e at place))

-- in numbers: A + 1 is at most B + 1
pub uncrossed_numbers : (w : ℕ) (u : Bool) (t : List ℕ) (rule : Rule) → Insertable w u t rule → after_a w u t (rule_words w rule) ≤ suc (slot_b w u t (rule_words w rule))
unfolding check_crossed
uncrossed_numbers w u t rule p =
    let new = rule_words w rule in
    ltb-false (suc (slot_b w u t new)) (after_a w u t new)
    (cond_pass Crossed (after_a w u t new - 1) _ ((crossed_pass w u t new).1 (subst (λ (x : Words). Uncrossed w u t x) (sym (rule_words_lem w rule)) p.uncrossed)))

-- document 01, check 10: A > B, spot A
pub crossed_fail : (w : ℕ) (u : Bool) (t : List ℕ) (new : Words) (a : ℕ) → (check_crossed w u t new ≡ Fail Crossed a) ↔ CrossedAt w u t new a
unfolding check_crossed
crossed_fail w u t new a = (λ e. to (dec_lt (suc (slot_b w u t new)) (after_a w u t new)) e, from)
  where
    first : AfterLast (λ (i : ℕ). precedes w u (slot_words w t i) new) (slots w t) (after_a w u t new)
    first = after_a_law w u t new

    second : Least (λ (i : ℕ). precedes w u new (slot_words w t i)) 0 (0 + slots w t) (slot_b w u t new)
    second = slot_b_law w u t new

    to : Dec (suc (slot_b w u t new) < after_a w u t new) → check_crossed w u t new ≡ Fail Crossed a → CrossedAt w u t new a
    to (yes l) e =
        let f : Fail Crossed (after_a w u t new - 1) ≡ Fail Crossed a =
        crossed_yes (after_a w u t new) (slot_b w u t new) (omega arith) ∙ e in
        let at : after_a w u t new - 1 ≡ a = cc in
        record {
          within = omega (arith, first.high);
          preceding = first.hit a (omega arith);
          last = λ i g h. first.after i (omega arith) h;
          dependant = (slot_b w u t new, omega arith, second.hit (omega (arith, first.high)));
        }
    to (no l) e =
        absurd (true≢false (cond_pass Crossed a true (sym (crossed_no (after_a w u t new) (slot_b w u t new) (omega arith) ∙ e))))

    from : CrossedAt w u t new a → check_crossed w u t new ≡ Fail Crossed a
    from p =
        let at : after_a w u t new ≡ suc a =
        after_last_unique first (record {
          high = p.within;
          after = λ i g h. p.last i g h;
          hit = λ i g. let same : i ≡ a = omega arith in ap (λ (x : ℕ). precedes w u (slot_words w t x) new) same ∙ p.preceding;
        }) in
        let low = stands_by_b w u t new p.dependant.0 p.dependant.2 in
        let back : after_a w u t new - 1 ≡ a = omega arith in
        sym (crossed_yes (after_a w u t new) (slot_b w u t new) (omega (arith, p.dependant.1))) ∙ ap (Fail Crossed) back
