-- Laws on the screen of a lookup: what it passes over does not match, and how the groups that are compared make the first match.
use Rattle.std.specs.Prelude.{◌≡◌, Bool, true, false, not, List, ℕ, ◌-◌, ◌*◌, ◌≤◌, ◌<◌, eqb}
use Rattle.std.proofs.Common.{sym, ◌∙◌, true≢false, ⊎_elim, arith}
use Rattle.std.proofs.Math.Decide.{dec_lt}
use Rattle.search.specs.Search.{least, NoneFrom}
use Rattle.search.specs.SearchLaws.{all_law, decided, and_left, and_right, and_both, least_law, least_at}
use Rattle.ternary.specs.Word.{agree}
use Rattle.ternary.specs.Pattern.{Words, matches}
use Rattle.records.specs.Record.{slot_words, value, mask, pattern_matches}
use Rattle.records.specs.Checks.{compared_at}
use Rattle.table_checks.specs.Screen.{may_match}

-- a slot that matches passes the screen
compared_may : (w : ℕ) (t : List ℕ) (key : Words) (i : ℕ) → 2 ≤ w → compared_at w t key i ≡ true → may_match w t (key 0) (key 1) i ≡ true
unfolding compared_at may_match matches
compared_may w t key i h e =
    let x = slot_words w t i in
    let meets : ℕ → Bool = λ j. agree (key j) (value x j) (mask w x j) in
    let each = (all_law meets w).0 (and_left (pattern_matches w key x) (not (eqb (x (2 * w)) 0)) e) in
    and_both _ _ (and_both (meets 0) (meets 1) (each 0 (omega arith)) (each 1 (omega arith))) (and_right (pattern_matches w key x) (not (eqb (x (2 * w)) 0)) e)

-- none up to a slot, and none from there on
none_joined : (p : ℕ → Bool) (from n i j : ℕ) → NoneFrom p from n i → NoneFrom p i n j → NoneFrom p from n j
none_joined p from n i j below above = (omega (arith, below.0, above.0), above.1, λ k l r. pick k l r (dec_lt k i))
  where
    pick : (k : ℕ) → from ≤ k → k < j → Dec (k < i) → p k ≡ false
    pick k l r (yes a) = below.2 k l a
    pick k l r (no a) = above.2 k (omega arith) r

-- slots that the screen passes over do not match: where none matches up to a slot, none does up to where the screen stops
pub screened : (w : ℕ) (t : List ℕ) (key : Words) (from n i j : ℕ) → 2 ≤ w
    → NoneFrom (compared_at w t key) from n i → NoneFrom (may_match w t (key 0) (key 1)) i n j → NoneFrom (compared_at w t key) from n j
screened w t key from n i j h below none =
    none_joined (compared_at w t key) from n i j below (
      none.0,
      none.1,
      λ k l r. ⊎_elim (λ e. absurd (true≢false (sym (compared_may w t key k h e) ∙ none.2 k l r))) (λ e. e) (decided (compared_at w t key k)),
    )

-- a group of slots in which the first match is looked for: none is below what is found, which is the first of all where it lies in the group
pub none_among : (p : ℕ → Bool) (n from to r : ℕ) → from ≤ to → to ≤ n → NoneFrom p 0 n from → r ≡ least p (to - from) from → NoneFrom p 0 n r
none_among p n from to r h t none e =
    let l = least_law p (to - from) from in
    rw e (none_joined p 0 n from (least p (to - from) from) none (l.low, omega (arith, l.high), l.before))

pub first_among : (p : ℕ → Bool) (n from to r : ℕ) → from ≤ to → to ≤ n → NoneFrom p 0 n from → r ≡ least p (to - from) from → r < to → r ≡ least p n 0
first_among p n from to r h t none e f =
    let hit : p r ≡ true = rw e ((least_law p (to - from) from).hit (omega (arith, e))) in
    sym (least_at p n r (omega arith) (λ j l. (none_among p n from to r h t none e).2 j (omega arith) l) hit)
