-- End theorems on the windows of a table in order: going down they end at the nearest dependant, going up at the nearest preceding rule.
-- So a neighbour list tells them.
use Rattle.std.specs.Prelude.{◌≡◌, Bool, true, false, cond, List, ltb}
use Rattle.std.proofs.Common.{sym, ◌∙◌, arith, lt-ltb, le-ltb}
use Rattle.std.proofs.Math.Path.{ap}
use Prim.Native.Nat.{ℕ, suc, ◌+◌, ◌-◌, ◌≤◌, ◌<◌, min}
use Rattle.std.proofs.Math.Decide.{dec_lt}
use Rattle.search.specs.Search.{least, after_last, AfterLast, first_from}
use Rattle.search.specs.SearchLaws.{least_law, least_unique, least_cong, after_last_law}
use Rattle.records.specs.Record.{slot_words}
use Rattle.records.specs.Order.{slots, precedes, misordered}
use Rattle.records.specs.Checks.{check_order, table_checks}
use Rattle.records.proofs.Laws.{tied_law, order_law, slot_checks_law, table_checks_law}
use Rattle.records.specs.Verdict.{Pass}
use Rattle.records.proofs.EntriesLaws.{refuted, shaped_slots}
use Rattle.records.proofs.InsertsLaws.{precedes_untied}
use Rattle.neighbour_lists.specs.Lists.{Listed, precedes_slot, next_dependant, last_preceding, last_below}
use Rattle.windows.specs.Windows.{window_end_at, misplaced_at, end_after, end_before, listed_end}

-- document 01: in a table in order no two rules tie, so the rule in y may not stand before that in i exactly when it depends on it
pub dependant_after : (w : ℕ) (u : Bool) (t : List ℕ) → check_order w u t ≡ Pass → (i y : ℕ) → i < y → y < slots w t
    → misordered w u (slot_words w t y) (slot_words w t i) ≡ precedes w u (slot_words w t i) (slot_words w t y)
dependant_after w u t order i y l h =
    let a = slot_words w t i in
    let b = slot_words w t y in
    sym (precedes_untied w u a b (refuted (λ e.
    let s = (tied_law w u a b).0 e in
    let o = s.0 in
    let higher = (order_law w u t).0 order i y l h o.0 o.1 o.2 o.3 o.4 in
    omega (arith, s.1))))

-- the end of a window, told by the search for the nearest dependant, and by that for the nearest preceding rule
after_search : (m n : ℕ) → n ≤ 65535 → min (suc m) n ≡ end_after n (cond (ltb m n) m 65535)
unfolding end_after
after_search m n few = pick (dec_lt m n)
  where
    pick : Dec (m < n) → min (suc m) n ≡ cond (ltb (cond (ltb m n) m 65535) n) (cond (ltb m n) m 65535 + 1) n
    pick (yes l) = rw (lt-ltb m n l, lt-ltb m n l) (omega arith)
    pick (no l) = rw (le-ltb m n (omega arith), le-ltb 65535 n few) (omega arith)

before_search : (a n : ℕ) → n ≤ 65535 → a < n → min (suc (n - a)) n ≡ end_before n (cond (ltb 0 a) (a - 1) 65535)
unfolding end_before
before_search a n few h = pick (dec_lt 0 a)
  where
    pick : Dec (0 < a) → min (suc (n - a)) n ≡ cond (ltb (cond (ltb 0 a) (a - 1) 65535) n) (n - cond (ltb 0 a) (a - 1) 65535) n
    pick (yes l) = rw (lt-ltb 0 a l, lt-ltb (a - 1) n (omega arith)) (omega arith)
    pick (no l) = rw (le-ltb 0 a (omega arith), le-ltb 65535 n few) (omega arith)

-- in a table in order a window ends at the nearest dependant going down, and at the nearest preceding rule going up
module _ (w : ℕ) (u : Bool) (t : List ℕ) (order : check_order w u t ≡ Pass) (few : slots w t ≤ 65535) (p : ℕ) (h : p < slots w t) where
  pub window_down : window_end_at w u t false p ≡ end_after (slots w t) (next_dependant w u t p)
  unfolding window_end_at misplaced_at next_dependant first_from
  window_down =
      ap (λ (m : ℕ). min (suc m) (slots w t)) (least_cong (slots w t - suc p) (suc p) (λ q l r. dependant_after w u t order p q l (omega arith)))
      ∙ after_search (least (precedes_slot w u t p) (slots w t - suc p) (suc p)) (slots w t) few

  pub window_up : window_end_at w u t true p ≡ end_before (slots w t) (last_preceding w u t (slots w t - 1 - p))
  unfolding window_end_at misplaced_at last_preceding last_below
  window_up =
      ap (λ (m : ℕ). min (suc m) (slots w t)) found ∙ before_search a (slots w t) few (omega (arith, law.high))
    where
      s : ℕ
      s = slots w t - 1 - p

      a : ℕ
      a = after_last (λ (k : ℕ). precedes_slot w u t k s) s

      law : AfterLast (λ (k : ℕ). precedes_slot w u t k s) s a
      law = after_last_law (λ (k : ℕ). precedes_slot w u t k s) s

      at : (q : ℕ) → p < q → q < slots w t → misplaced_at w u t true p q ≡ precedes_slot w u t (slots w t - suc q) s
      at q l r =
          ap (λ (k : ℕ). misordered w u (slot_words w t k) (slot_words w t (slots w t - suc q))) {x = slots w t - suc p} {y = s} (omega arith)
          ∙ dependant_after w u t order (slots w t - suc q) s (omega arith) (omega arith)

      found : least (misplaced_at w u t true p) (slots w t - suc p) (suc p) ≡ slots w t - a
      found =
          least_unique (least_law (misplaced_at w u t true p) (slots w t - suc p) (suc p))
          (record {
            low = omega (arith, law.high);
            high = omega (arith, law.high);
            before = λ j l r. at j l (omega (arith, law.high)) ∙ law.after (slots w t - suc j) (omega (arith, law.high)) (omega (arith, law.high));
            hit = λ l. at (slots w t - a) (omega (arith, law.high)) (omega (arith, law.high)) ∙ law.hit (slots w t - suc (slots w t - a)) (omega (arith, law.high));
          })

-- so the list of a table that passes checks 1 to 4 tells its windows
pub listed_window : (w : ℕ) (u : Bool) (t near : List ℕ) → table_checks w u t ≡ Pass → Listed w u t near → (up : Bool) (p : ℕ) → p < slots w t
    → listed_end near (slots w t) up p ≡ window_end_at w u t up p
unfolding listed_end
listed_window w u t near checks list up p h = along up
  where
    order : check_order w u t ≡ Pass
    order = ((table_checks_law w u t).0 checks).2

    few : slots w t ≤ 65535
    few = omega (arith, (shaped_slots w t ((slot_checks_law w t).0 ((table_checks_law w u t).0 checks).0).0).1)

    along : (up : Bool) → listed_end near (slots w t) up p ≡ window_end_at w u t up p
    along true = ap (end_before (slots w t)) (list (slots w t - 1 - p) (omega arith)).1 ∙ sym (window_up w u t order few p h)
    along false = ap (end_after (slots w t)) (list p h).0 ∙ sym (window_down w u t order few p h)
