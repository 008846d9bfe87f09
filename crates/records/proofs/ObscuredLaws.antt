-- End theorems on rules that can never match: what it means that a rule is obscured, and that in a counted table in order it is no key's first match.
use Rattle.std.specs.Prelude.{◌≡◌, true, false, not, ◌↔◌, List, ℕ, ◌*◌, ◌+◌, ◌<◌, eqb, ltb}
use Rattle.std.proofs.Common.{sym, ap, ◌∙◌, arith, lt-ltb, ltb-true, ne_eqb}
use Rattle.std.proofs.lemmas.Bool.{false≢true}
use Rattle.std.proofs.Math.Decide.{dec_lt}
use Rattle.search.specs.SearchLaws.{and_law, all_not}
use Rattle.ternary.specs.Bit.{bit}
use Rattle.ternary.specs.Pattern.{Words}
use Rattle.ternary.proofs.PatternLaws.{matches_law, overlap_turned}
use Rattle.ternary.specs.Comparison.{covers}
use Rattle.ternary.proofs.ComparisonLaws.{covers_law, covers_overlap, covers_matches}
use Rattle.records.specs.Record.{record_words, slot_words, value, mask, ident, rank, empty, occupied, pattern_matches, slot_matches}
use Rattle.records.specs.Order.{slots, obscures, Obscures, InOrder}
use Rattle.records.specs.Entries.{SameRecord}
use Rattle.records.proofs.EntriesLaws.{occupied_cong}

-- a record whose rank is not 0 is no empty slot's
ranked_occupied : (w : ℕ) (x : Words) → 0 < rank w x → occupied w x ≡ true
unfolding empty
ranked_occupied w x h =
    ap not (all_not (λ (j : ℕ). eqb (x j) 0) (record_words w) (2 * w + 1) (omega arith) (ne_eqb (x (2 * w + 1)) 0 (λ e. omega arith)))

pub obscures_law : (w : ℕ) (a b : Words) → (obscures w a b ≡ true) ↔ Obscures w a b
unfolding obscures
obscures_law w a b =
    let whole = and_law (ltb (rank w b) (rank w a)) (covers w (value a) (mask w a) (value b) (mask w b)) in
    let law = covers_law w (value a) (mask w a) (value b) (mask w b) in (
      λ e. let p = whole.0 e in
          let higher = ltb-true (rank w b) (rank w a) p.0 in
          record { holds = ranked_occupied w a (omega (arith, higher)); higher = higher; covering = law.0 p.1 },
      λ o. whole.1 (lt-ltb (rank w b) (rank w a) o.higher, law.1 o.covering),
    )

-- the words of the two records decide
pub obscures_same : (w : ℕ) {a a' b b' : Words} → SameRecord w a a' → SameRecord w b b' → Obscures w a b → Obscures w a' b'
obscures_same w {a} {a'} {b} {b'} first second o = record {
  holds = sym (occupied_cong w first) ∙ o.holds;
  higher = omega (arith, first (2 * w + 1) (omega arith), second (2 * w + 1) (omega arith), o.higher);
  covering = λ j h i cared.
      let there = o.covering j h i (ap (λ (x : ℕ). bit x i) (first (w + j) (omega arith)) ∙ cared) in (
        ap (λ (x : ℕ). bit x i) (sym (second (w + j) (omega arith))) ∙ there.0,
        ap (λ (x : ℕ). bit x i) (sym (first j (omega arith))) ∙ (there.1 ∙ ap (λ (x : ℕ). bit x i) (second j (omega arith))),
      );
}

-- each key of an obscured rule matches the one that obscures it
pub obscured_matches : (w : ℕ) (key a b : Words) → Obscures w a b → slot_matches w key b ≡ true → slot_matches w key a ≡ true
unfolding slot_matches
obscured_matches w key a b o e =
    let m = (matches_law w key (value b) (mask w b)).0 ((and_law (pattern_matches w key b) (occupied w b)).0 e).0 in
    (and_law (pattern_matches w key a) (occupied w a)).1
    ((matches_law w key (value a) (mask w a)).1 (covers_matches w key (value a) (mask w a) (value b) (mask w b) o.covering m), o.holds)

-- in a counted table in order, also in the middle of a plan, it stands after that one
pub obscured_after : (w : ℕ) (t : List ℕ) → InOrder w false t → (x y : ℕ) → x < slots w t → y < slots w t → occupied w (slot_words w t y) ≡ true
    → (ident w (slot_words w t x) ≡ ident w (slot_words w t y) → ⊥) → Obscures w (slot_words w t x) (slot_words w t y) → x < y
obscured_after w t order x y inside within holds apart o = pick (dec_lt x y) (dec_lt y x)
  where
    pick : Dec (x < y) → Dec (y < x) → x < y
    pick (yes l) d = l
    pick (no l) (no g) = let same : x ≡ y = omega arith in absurd (apart (ap (λ (i : ℕ). ident w (slot_words w t i)) same))
    pick (no l) (yes g) =
        let a = slot_words w t x in
        let b = slot_words w t y in
        let overlap = overlap_turned w (value a) (mask w a) (value b) (mask w b) (covers_overlap w (value a) (mask w a) (value b) (mask w b) o.covering) in
        let higher = order y x g inside holds o.holds (λ e. apart (sym e)) overlap (λ u e. absurd (false≢true u)) in
        absurd (omega (arith, o.higher, higher))
