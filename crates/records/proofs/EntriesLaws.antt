-- Laws on tables as layouts: order, ids and soundness of a table are those of its entries, for any number of words of a value.
-- So what is proved of layouts holds of tables.
use Rattle.std.specs.Prelude.{◌≡◌, refl, Bool, true, false, ◌↔◌, List, [], ◌∷◌, map, ℕ, zero, suc, ◌+◌, ◌*◌, ◌/◌, ◌%◌, ◌≤◌, ◌<◌, length, get_or}
use Rattle.std.proofs.Common.{sym, ◌∙◌, true≢false, ⊎_elim, add-zero, arith, eqb-true, eq-eqb}
use Rattle.std.proofs.Math.Path.{ap, ap₂}
use Rattle.std.proofs.Math.Bool.{not, ◌&&◌, and_comm}
use Rattle.std.proofs.lemmas.Bool.{false≢true}
use Rattle.std.proofs.Math.Arith.{digits_div}
use Rattle.std.proofs.Math.Dec.{eqb, ltb, leb}
use Rattle.std.proofs.lemmas.List.{get_or-replicate, length-map}
use Rattle.search.specs.SearchLaws.{all_cong, decided}
use Rattle.ternary.specs.Pattern.{Words}
use Rattle.ternary.proofs.PatternLaws.{matches_cong, overlaps_cong, within_cong}
use Rattle.layout.specs.Order.{Laws, InOrder as LayoutInOrder}
use Rattle.layout.specs.Held.{Unique}
use Rattle.layout.proofs.HeldLaws.{unique_earlier}
use Rattle.records.specs.Record.{word, listed, record_words, slot_words, value, mask, ident, action, rank, empty, occupied, rank_fits, sound, sound_parts}
use Rattle.records.specs.Record.{slot_matches, record_of}
use Rattle.records.specs.Order.{slots, overlapping, same_id, distinct, compared, precedes, misordered, InOrder}
use Rattle.records.specs.Checks.{check_shape, check_twice, check_order}
use Rattle.records.proofs.Laws.{shape_law, empty_law, ident_occupied, twice_law, same_id_law, misordered_law, ordered_law, order_law}
use Rattle.records.specs.Verdict.{Pass}
use Rattle.records.specs.declared.Rule.{Rule}
use Rattle.records.proofs.RulesLaws.{length_listed, word_listed, record_ident, fits_cong}
use Rattle.records.specs.Entries.{entry_at, entry_same, entry_misordered, entry_occupied, SameRecord, vacant, entries}

-- a layout of entries is in order, and each id stands once
abbrev pub EntriesInOrder : ℕ → Bool → List (List ℕ) → Type 0
EntriesInOrder w u l = LayoutInOrder (vacant w) (entry_misordered w u) l

abbrev pub EntriesUnique : ℕ → List (List ℕ) → Type 0
EntriesUnique w l = Unique (vacant w) (entry_same w) l

-- every part of a record and every test of records reads the record's words alone
module _ (w : ℕ) {x y : Words} (same : SameRecord w x y) where
  pub value_cong : (j : ℕ) → j < w → value x j ≡ value y j
  value_cong j h = same j (omega arith)

  pub mask_cong : (j : ℕ) → j < w → mask w x j ≡ mask w y j
  mask_cong j h = same (w + j) (omega arith)

  pub ident_cong : ident w x ≡ ident w y
  ident_cong = ap (λ (n : ℕ). n / 4294967296) (same (2 * w) (omega arith))

  pub action_cong : action w x ≡ action w y
  action_cong = ap (λ (n : ℕ). n % 4294967296) (same (2 * w) (omega arith))

  pub rank_cong : rank w x ≡ rank w y
  rank_cong = same (2 * w + 1) (omega arith)

  pub empty_cong : empty w x ≡ empty w y
  unfolding empty
  empty_cong = all_cong (record_words w) (λ j h. ap (λ (n : ℕ). eqb n 0) (same j h))

  pub occupied_cong : occupied w x ≡ occupied w y
  occupied_cong = ap not empty_cong

  pub slot_matches_cong : (key : Words) → slot_matches w key x ≡ slot_matches w key y
  unfolding slot_matches
  slot_matches_cong key = ap₂ ◌&&◌ (matches_cong w (λ j h. refl) value_cong mask_cong) occupied_cong

module _ (w : ℕ) {x x' y y' : Words} (left : SameRecord w x x') (right : SameRecord w y y') where
  overlapping_cong : overlapping w x y ≡ overlapping w x' y'
  overlapping_cong = overlaps_cong w (value_cong w left) (mask_cong w left) (value_cong w right) (mask_cong w right)

  both_cong : occupied w x && occupied w y ≡ occupied w x' && occupied w y'
  both_cong = ap₂ ◌&&◌ (occupied_cong w left) (occupied_cong w right)

  ids_cong : eqb (ident w x) (ident w y) ≡ eqb (ident w x') (ident w y')
  ids_cong = ap₂ eqb (ident_cong w left) (ident_cong w right)

  pub same_id_cong : same_id w x y ≡ same_id w x' y'
  unfolding same_id
  same_id_cong = ap₂ ◌&&◌ ids_cong both_cong

  distinct_cong : distinct w x y ≡ distinct w x' y'
  unfolding distinct
  distinct_cong = ap₂ (λ (a b : Bool). not a && b) ids_cong both_cong

module _ (w : ℕ) (u : Bool) {x x' y y' : Words} (left : SameRecord w x x') (right : SameRecord w y y') where
  compared_cong : compared w u x y ≡ compared w u x' y'
  compared_cong = ap₂ ◌&&◌ (ap₂ (λ (m n : ℕ). not (u && eqb m n)) (action_cong w left) (action_cong w right)) (distinct_cong w left right)

  pub misordered_cong : misordered w u x y ≡ misordered w u x' y'
  unfolding misordered
  misordered_cong = ap₂ ◌&&◌ (ap₂ ◌&&◌ (overlapping_cong w left right) (ap₂ leb (rank_cong w left) (rank_cong w right))) compared_cong

  pub precedes_cong : precedes w u x y ≡ precedes w u x' y'
  unfolding precedes
  precedes_cong = ap₂ ◌&&◌ (ap₂ ◌&&◌ (overlapping_cong w left right) (ap₂ ltb (rank_cong w right) (rank_cong w left))) compared_cong

-- records of the same words are sound alike
pub sound_same : (w : ℕ) (x y : Words) → SameRecord w x y → sound w x ≡ sound w y
unfolding sound_parts
sound_same w x y s =
    ap₂ (λ (i : ℕ) (b : Bool). sound_parts w i b (value x) (mask w x)) (ident_cong w s) (fits_cong w (rank_cong w s) (mask_cong w s))
    ∙ ap (λ (b : Bool). not (eqb (ident w y) 0) && rank_fits w (rank w y) (mask w y) && b) (within_cong w (value_cong w s) (mask_cong w s))

-- a record as a list has the record's words
pub listed_same : (w : ℕ) (x : Words) → SameRecord w (word (listed (record_words w) x)) x
listed_same w x j h = word_listed (record_words w) x j h

-- the entries of a table, and their words
pub entries_length : (w : ℕ) (t : List ℕ) → length (entries w t) ≡ slots w t
unfolding entries
entries_length w t = length-map (listed (slots w t) (λ i. i)) (entry_at w t) ∙ length_listed (slots w t) (λ i. i)

-- what a map has at an index of its list
pub get_d_map_within : {A B : Type 0} (f : A → B) (l : List A) (i : ℕ) (a : A) (b : B) → i < length l → get_or (map f l) i b ≡ f (get_or l i a)
get_d_map_within f [] i a b h = absurd (omega arith)
get_d_map_within f (x ∷ l) zero a b h = refl
get_d_map_within f (x ∷ l) (suc i) a b h = get_d_map_within f l i a b (omega arith)

pub entry_at_lem : (w : ℕ) (t : List ℕ) (i : ℕ) → i < slots w t → get_or (entries w t) i (vacant w) ≡ entry_at w t i
unfolding entries
entry_at_lem w t i h =
    get_d_map_within (entry_at w t) (listed (slots w t) (λ i. i)) i 0 (vacant w) (let n = length_listed (slots w t) (λ i. i) in omega arith)
    ∙ ap (entry_at w t) (word_listed (slots w t) (λ i. i) i h)

pub entry_same_lem : (w : ℕ) (t : List ℕ) (i : ℕ) → i < slots w t → SameRecord w (word (get_or (entries w t) i (vacant w))) (slot_words w t i)
entry_same_lem w t i h j l = ap (λ (e : List ℕ). word e j) (entry_at_lem w t i h) ∙ listed_same w (slot_words w t i) j l

-- so a test of a table's entries is the test of its slots
module _ (w : ℕ) (t : List ℕ) where
  pub occupied_at_lem : (i : ℕ) → i < slots w t → entry_occupied w (get_or (entries w t) i (vacant w)) ≡ occupied w (slot_words w t i)
  occupied_at_lem i h = occupied_cong w (entry_same_lem w t i h)

  pub matches_at_lem : (key : Words) (i : ℕ) → i < slots w t
      → slot_matches w key (word (get_or (entries w t) i (vacant w))) ≡ slot_matches w key (slot_words w t i)
  matches_at_lem key i h = slot_matches_cong w (entry_same_lem w t i h) key

  pub same_at : (i k : ℕ) → i < slots w t → k < slots w t
      → entry_same w (get_or (entries w t) i (vacant w)) (get_or (entries w t) k (vacant w)) ≡ same_id w (slot_words w t i) (slot_words w t k)
  same_at i k h l = same_id_cong w (entry_same_lem w t i h) (entry_same_lem w t k l)

module _ (w : ℕ) (u : Bool) (t : List ℕ) where
  pub misordered_at : (i k : ℕ) → i < slots w t → k < slots w t
      → entry_misordered w u (get_or (entries w t) i (vacant w)) (get_or (entries w t) k (vacant w)) ≡ misordered w u (slot_words w t i) (slot_words w t k)
  misordered_at i k h l = misordered_cong w u (entry_same_lem w t i h) (entry_same_lem w t k l)

-- a test that cannot hold is false, and two tests that hold together are equal
pub refuted : {b : Bool} → (b ≡ true → ⊥) → b ≡ false
refuted {b} f = ⊎_elim (λ e. absurd (f e)) (λ e. e) (decided b)

pub same_truth : (a b : Bool) → (a ≡ true) ↔ (b ≡ true) → a ≡ b
same_truth true b e = sym (e.0 refl)
same_truth false b e = sym (refuted (λ t. false≢true (e.1 t)))

pub eqb_turned : (a b : ℕ) → eqb a b ≡ eqb b a
eqb_turned a b = same_truth (eqb a b) (eqb b a) (λ e. eq-eqb b a (sym (eqb-true a b e)), λ e. eq-eqb a b (sym (eqb-true b a e)))

-- one id in two slots, two rules of different ids, and two that are compared, in either order
pub same_id_turned : (w : ℕ) (a b : Words) → same_id w a b ≡ same_id w b a
unfolding same_id
same_id_turned w a b = ap₂ ◌&&◌ (eqb_turned (ident w a) (ident w b)) (and_comm (occupied w a) (occupied w b))

pub distinct_turned : (w : ℕ) (a b : Words) → distinct w a b ≡ distinct w b a
unfolding distinct
distinct_turned w a b = ap₂ (λ (e o : Bool). not e && o) (eqb_turned (ident w a) (ident w b)) (and_comm (occupied w a) (occupied w b))

pub compared_turned : (w : ℕ) (u : Bool) (a b : Words) → compared w u a b ≡ compared w u b a
compared_turned w u a b = ap₂ (λ (e d : Bool). not (u && e) && d) (eqb_turned (action w a) (action w b)) (distinct_turned w a b)

vacant_empty : (w : ℕ) → entry_occupied w (vacant w) ≡ false
vacant_empty w = ap not ((empty_law w (word (vacant w))).1 (λ j h. get_or-replicate (record_words w) j 0 0 h))

-- the laws that layouts ask of their entries
pub entry_laws : (w : ℕ) (u : Bool) → Laws (vacant w) (entry_occupied w) (entry_same w) (entry_misordered w u)
entry_laws w u = record {
  vacant = vacant_empty w;
  misordered_left = λ a b o. refuted (λ e. true≢false (sym ((misordered_law w u (word a) (word b)).0 e).0.0 ∙ o));
  misordered_right = λ a b o. refuted (λ e. true≢false (sym ((misordered_law w u (word a) (word b)).0 e).0.1 ∙ o));
  misordered_same = λ a b s. refuted (λ e. ((misordered_law w u (word a) (word b)).0 e).0.2 ((same_id_law w (word a) (word b)).0 s).2);
  same_occupied = λ a b s. ((same_id_law w (word a) (word b)).0 s).0;
  same_self = λ a o. (same_id_law w (word a) (word a)).1 (o, o, refl);
  same_symmetric = λ a b s. same_id_turned w (word b) (word a) ∙ s;
  same_transitive = λ a b c s r.
      let p = (same_id_law w (word a) (word b)).0 s in
      let q = (same_id_law w (word b) (word c)).0 r in
      (same_id_law w (word a) (word c)).1 (p.0, q.1, p.2 ∙ q.2);
}

-- the layout is in order exactly when the table is, that is, when check 4 passes; each id stands once exactly when check 3 passes
pub in_order_entries : (w : ℕ) (u : Bool) (t : List ℕ) → EntriesInOrder w u (entries w t) ↔ InOrder w u t
in_order_entries w u t =
    let n = entries_length w t in (
      λ o x y l h. (ordered_law w u (slot_words w t x) (slot_words w t y)).0 (sym (misordered_at w u t x y (omega arith) h) ∙ o x y l (omega arith)),
      λ o x y l h. misordered_at w u t x y (omega arith) (omega arith) ∙ (ordered_law w u (slot_words w t x) (slot_words w t y)).1 (o x y l (omega arith)),
    )

pub order_entries : (w : ℕ) (u : Bool) (t : List ℕ) → EntriesInOrder w u (entries w t) ↔ (check_order w u t ≡ Pass)
order_entries w u t = let a = in_order_entries w u t in let b = order_law w u t in (λ o. b.1 (a.0 o), λ e. a.1 (b.0 e))

pub unique_entries : (w : ℕ) (t : List ℕ) → EntriesUnique w (entries w t) ↔ (check_twice w t ≡ Pass)
unique_entries w t =
    let n = entries_length w t in (
      λ u. (twice_law w t).1 (λ x y l h. sym (same_at w t x y (omega arith) h) ∙ u x y (omega arith) (omega arith) (omega arith)),
      λ e. unique_earlier (entry_laws w false) (entries w t)
          (λ x y l h. same_at w t x y (omega arith) (omega arith) ∙ (twice_law w t).0 e x y l (omega arith)),
    )

-- a table that passes check 1 has 1 to 1,024 slots, and no word outside them
pub shaped_slots : (w : ℕ) (t : List ℕ) → check_shape w t ≡ Pass → (1 ≤ slots w t) × (slots w t ≤ 1024) × (length t ≡ slots w t * record_words w)
shaped_slots w t e =
    let s = (shape_law w t).0 e in
    let n : ℕ = s.0 in
    let whole : length t ≡ n * record_words w + 0 = s.3 ∙ sym (add-zero (n * record_words w)) in
    let pos : 0 < record_words w = omega arith in
    let count : slots w t ≡ n = ap (λ (x : ℕ). x / record_words w) whole ∙ digits_div n pos in
    (omega (arith, s.1), omega (arith, s.2), s.3 ∙ ap (λ (x : ℕ). x * record_words w) (sym count))

-- the record of a rule whose id is not 0 is occupied
pub rule_occupied : (w : ℕ) (r : Rule) → (r.id ≡ 0 → ⊥) → r.action < 4294967296 → entry_occupied w (record_of w r) ≡ true
rule_occupied w r f h = ident_occupied w (word (record_of w r)) (λ e. f (sym (record_ident w r h) ∙ e))
