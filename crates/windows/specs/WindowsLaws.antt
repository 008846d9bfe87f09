-- Laws on windows: their ends as the code tells them, empty positions, and an array filled from the front.
use Rattle.std.specs.Prelude.{◌≡◌, Bool, true, false, cond, List, ◌++◌, ℕ, suc, ◌+◌, ◌-◌, ◌≤◌, ◌<◌, min, length, get_or, set, drop}
use Rattle.std.proofs.Common.{sym, arith, add-one, drop-cons, lt-ltb, le-ltb}
use Rattle.std.proofs.lemmas.List.{set_at}
use Rattle.std.proofs.Math.Seq.{append_snoc}
use Rattle.search.specs.Search.{least}
use Rattle.ternary.specs.Pattern.{Words}
use Rattle.positions.specs.Positions.{slot_at}
use Rattle.records.specs.Record.{slot_words, empty, listed}
use Rattle.records.specs.Order.{slots}
use Rattle.records.proofs.RulesLaws.{length_listed}
use Rattle.windows.specs.Windows.{end_at, window_end_at, misplaced_at, end_after, end_before}

-- the end told, by cases
pub end_after_slot : (n next : ℕ) → next < n → next + 1 ≡ end_after n next
unfolding end_after
end_after_slot n next l = rw (lt-ltb next n l)

pub end_after_none : (n next : ℕ) → n ≤ next → n ≡ end_after n next
unfolding end_after
end_after_none n next l = rw (le-ltb next n l)

pub end_before_slot : (n before : ℕ) → before < n → n - before ≡ end_before n before
unfolding end_before
end_before_slot n before l = rw (lt-ltb before n l)

pub end_before_none : (n before : ℕ) → n ≤ before → n ≡ end_before n before
unfolding end_before
end_before_none n before l = rw (le-ltb before n l)

pub window_high : (w : ℕ) (u : Bool) (t : List ℕ) (up : Bool) (p : ℕ) → window_end_at w u t up p ≤ slots w t
unfolding window_end_at
window_high w u t up p = omega arith

pub end_high : (w : ℕ) (u : Bool) (t : List ℕ) (up : Bool) (p : ℕ) → end_at w u t up p ≤ slots w t
unfolding end_at window_end_at
end_high w u t up p = pick (empty w (slot_words w t (slot_at (slots w t) up p)))
  where
    pick : (b : Bool) → cond b 0 (min (suc (least (misplaced_at w u t up p) (slots w t - suc p) (suc p))) (slots w t)) ≤ slots w t
    pick true = omega arith
    pick false = omega arith

-- a position that is empty, and one that is not
pub end_empty : (w : ℕ) (u : Bool) (t : List ℕ) (up : Bool) (p : ℕ) → empty w (slot_words w t (slot_at (slots w t) up p)) ≡ true → end_at w u t up p ≡ 0
unfolding end_at
end_empty w u t up p e = rw e

pub end_window : (w : ℕ) (u : Bool) (t : List ℕ) (up : Bool) (p : ℕ) → empty w (slot_words w t (slot_at (slots w t) up p)) ≡ false
    → end_at w u t up p ≡ window_end_at w u t up p
unfolding end_at
end_window w u t up p e = rw e

-- one store more of a list that is filled from the front
pub fill_next : (f : Words) (d : List ℕ) (i : ℕ) → i < length d → set (listed i f ++ drop i d) i (f i) ≡ listed (i + 1) f ++ drop (i + 1) d
unfolding listed
fill_next f d i h =
    rw (drop-cons d i 0 h, set_at (listed i f) (get_or d i 0) (drop (suc i) d) (f i) i (length_listed i f), add-one)
    (sym (append_snoc (listed i f) (f i) (drop (suc i) d)))
