-- End theorems on writes to a table's words: they are the layout's, fit exactly where those do, and keep the table's length.
use Rattle.std.specs.Prelude.{◌≡◌, refl, Bool, true, false, ◌||◌, ◌↔◌, ℕ, zero, suc, ◌/◌, ◌≤◌, ◌<◌, eqb, ltb, length, get_or, set, take}
use Rattle.std.proofs.Math.Path.{sym, ap, ap₂}
use Rattle.std.proofs.Common.{◌∙◌, arith, length-take, length-set, take-suc, get_or-take, ltb-true}
use Rattle.std.proofs.Math.Bool.{not, ◌&&◌, not-not}
use mathlib.Core.List.{List, [], ◌∷◌, map, foldl-append}
use Rattle.std.proofs.lemmas.List.{length-map, length-replicate}
use Rattle.search.specs.Search.{any}
use Rattle.layout.specs.Held.{free}
use Rattle.layout.specs.Write.{Write, copy, put, clear, applied, carried}
use Rattle.layout.proofs.WriteLaws.{fits, fits_law}
use Rattle.layout.proofs.InPlaceLaws.{free_by}
use Rattle.plan_words.specs.PlanWords.{emptying, write_word, write_of, SlotsBelow}
use Rattle.plan_words.specs.PlanWordsLaws.{slots_below_more, write_of_word, writes_of_words, WritesBelow}
use Rattle.records.specs.Record.{record_words, slot_words, empty, occupied, record_of}
use Rattle.records.specs.Order.{slots, same_id}
use Rattle.records.specs.Entries.{vacant, entry_at, entries, entry_occupied, entry_same}
use Rattle.records.specs.declared.Rule.{Rule}
use Rattle.records.proofs.RulesLaws.{length_listed, record_length}
use Rattle.records.proofs.EntriesLaws.{entries_length, get_d_map_within, entry_at_lem, occupied_at_lem, same_at}
use Rattle.records.proofs.PutSlotLaws.{put_length, entries_put}
use Rattle.records.specs.Writes.{apply_write, fits_write, apply_words, held_at, stands_elsewhere, fits_word, apply_word, free_at, EntryFits}

-- one word more
pub apply_words_next : (w : ℕ) (t : List ℕ) (r : Rule) (ns : List ℕ) (k : ℕ) → k < length ns
    → apply_words w t r (take (suc k) ns) ≡ apply_word w (apply_words w t r (take k ns)) r (get_or ns k 0)
apply_words_next w t r ns k h =
    ap (apply_words w t r) (take-suc ns k 0 h) ∙ foldl-append (λ u n. apply_word w u r n) t (take k ns) (get_or ns k 0 ∷ [])

module _ (w : ℕ) (t : List ℕ) (r : Rule) where
  -- a write whose slots exist keeps the number of words
  pub apply_length : (x : Write) → SlotsBelow (slots w t) x → length (apply_write w t r x) ≡ length t
  apply_length (copy from to) h = put_length w t to (entry_at w t from) h.1 (length_listed (record_words w) (slot_words w t from))
  apply_length (put to) h = put_length w t to (record_of w r) h (record_length w r)
  apply_length (clear to) h = put_length w t to (vacant w) h (length-replicate (record_words w) 0)

  pub apply_slots : (x : Write) → SlotsBelow (slots w t) x → slots w (apply_write w t r x) ≡ slots w t
  apply_slots x h = ap (λ (n : ℕ). n / record_words w) (apply_length x h)

  -- the layout after it is that after the layout's write
  pub apply_entries : (x : Write) → SlotsBelow (slots w t) x → entries w (apply_write w t r x) ≡ applied (vacant w) (record_of w r) (entries w t) x
  apply_entries (copy from to) h =
      entries_put w t to (entry_at w t from) h.1 (length_listed (record_words w) (slot_words w t from))
      ∙ ap (λ (e : List ℕ). set (entries w t) to e) (sym (entry_at_lem w t from h.0))
  apply_entries (put to) h = entries_put w t to (record_of w r) h (record_length w r)
  apply_entries (clear to) h = entries_put w t to (vacant w) h (length-replicate (record_words w) 0)

-- the same for a list of words whose slots exist
abbrev pub WordsBelow : ℕ → List ℕ → Type 0
WordsBelow n ns = (k : ℕ) → k < length ns → SlotsBelow n (write_of (get_or ns k 0))

pub apply_words_length : (w : ℕ) (t : List ℕ) (r : Rule) (ns : List ℕ) → WordsBelow (slots w t) ns → length (apply_words w t r ns) ≡ length t
apply_words_length w t r [] h = refl
apply_words_length w t r (n ∷ ns) h =
    let one = apply_slots w t r (write_of n) (h 0 (omega arith)) in
    apply_words_length w (apply_word w t r n) r ns (λ k l. rw one (h (suc k) (omega arith))) ∙ apply_length w t r (write_of n) (h 0 (omega arith))

pub apply_words_entries : (w : ℕ) (t : List ℕ) (r : Rule) (ns : List ℕ) → WordsBelow (slots w t) ns
    → entries w (apply_words w t r ns) ≡ carried (vacant w) (record_of w r) (entries w t) (map write_of ns)
apply_words_entries w t r [] h = refl
apply_words_entries w t r (n ∷ ns) h =
    let one = apply_slots w t r (write_of n) (h 0 (omega arith)) in
    apply_words_entries w (apply_word w t r n) r ns (λ k l. rw one (h (suc k) (omega arith)))
    ∙ ap (λ (l : List (List ℕ)). carried (vacant w) (record_of w r) l (map write_of ns)) (apply_entries w t r (write_of n) (h 0 (omega arith)))

-- the layout's tests of the table's entries
abbrev pub entry_free : ℕ → List (List ℕ) → ℕ → Bool
entry_free w l j = free (vacant w) (entry_occupied w) (entry_same w) l j

abbrev pub entry_fits : ℕ → List (List ℕ) → Write → Bool
entry_fits w l x = fits (vacant w) (entry_occupied w) (entry_same w) l x

-- the slots of a write that fits exist
pub entry_fits_below : (w : ℕ) (l : List (List ℕ)) (x : Write) → EntryFits w l x → SlotsBelow (length l) x
entry_fits_below w l (copy from to) f = (f.0, f.1)
entry_fits_below w l (put to) f = f.0
entry_fits_below w l (clear to) f = f.0

-- a second test matters only where the first holds
and_where : (a : Bool) {b c : Bool} → (a ≡ true → b ≡ c) → a && b ≡ a && c
and_where true h = h refl
and_where false h = refl

module _ (w : ℕ) (t : List ℕ) where
  pub free_entries : (j : ℕ) → j < slots w t → free_at w t j ≡ entry_free w (entries w t) j
  unfolding free_at stands_elsewhere held_at
  free_entries j h =
      let n = entries_length w t in
      ap₂ (λ (b : Bool) (m : ℕ). b || any (λ k. not (eqb k j) && same_id w (slot_words w t k) (slot_words w t j)) m)
      (sym (not-not (empty w (slot_words w t j)))) (sym n)
      ∙ free_by (vacant w) (entry_occupied w) (entries w t) (entry_same w) j (occupied w (slot_words w t j))
      (λ k. same_id w (slot_words w t k) (slot_words w t j)) (sym (occupied_at_lem w t j h)) (λ k l. sym (same_at w t k j (omega arith) h))

  -- a write fits by slots exactly when it fits by entries
  pub fits_entries : (x : Write) → fits_write w t x ≡ entry_fits w (entries w t) x
  unfolding fits
  fits_entries (copy from to) =
      rw (entries_length w t)
      (and_where (ltb from (slots w t)) (λ a. and_where (ltb to (slots w t)) (λ b. ap (λ (c : Bool). not (eqb from to) && c)
      (ap₂ ◌&&◌ (sym (occupied_at_lem w t from (ltb-true from (slots w t) a))) (free_entries to (ltb-true to (slots w t) b))))))
  fits_entries (put to) =
      rw (entries_length w t) (and_where (ltb to (slots w t)) (λ b. free_entries to (ltb-true to (slots w t) b)))
  fits_entries (clear to) =
      rw (entries_length w t) (and_where (ltb to (slots w t)) (λ b. sym (occupied_at_lem w t to (ltb-true to (slots w t) b))))

  pub fits_write_law : (x : Write) → (fits_write w t x ≡ true) ↔ EntryFits w (entries w t) x
  fits_write_law x =
      let l = fits_law (vacant w) (entry_occupied w) (entry_same w) (entries w t) x in
      (λ e. l.0 (sym (fits_entries x) ∙ e), λ f. fits_entries x ∙ l.1 f)

  pub fits_below : (x : Write) → fits_write w t x ≡ true → SlotsBelow (slots w t) x
  fits_below x e = rw (entries_length w t) at (entry_fits_below w (entries w t) x ((fits_write_law x).0 e))

-- words that fit in their turn have slots that exist
pub turn_below : (w : ℕ) (t : List ℕ) (r : Rule) (ns : List ℕ)
    → ((k : ℕ) → k < length ns → fits_word w (apply_words w t r (take k ns)) (get_or ns k 0) ≡ true) → WordsBelow (slots w t) ns
turn_below w t r [] f k h = absurd (omega arith)
turn_below w t r (n ∷ ns) f zero h = fits_below w t (write_of n) (f 0 h)
turn_below w t r (n ∷ ns) f (suc k) h =
    rw (apply_slots w t r (write_of n) (fits_below w t (write_of n) (f 0 (omega arith)))) at
    (turn_below w (apply_word w t r n) r ns (λ k l. f (suc k) (omega arith)) k (omega arith))

-- a layout keeps its number of slots
applied_length : {S : Type 0} (empty new : S) (l : List S) (x : Write) → length (applied empty new l x) ≡ length l
applied_length empty new l (copy from to) = length-set l to (get_or l from empty)
applied_length empty new l (put to) = length-set l to new
applied_length empty new l (clear to) = length-set l to empty

pub carried_length : {S : Type 0} (empty new : S) (l : List S) (xs : List Write) → length (carried empty new l xs) ≡ length l
carried_length empty new l [] = refl
carried_length empty new l (x ∷ xs) = carried_length empty new (applied empty new l x) xs ∙ applied_length empty new l x

take_map : {A B : Type 0} (f : A → B) (k : ℕ) (l : List A) → take k (map f l) ≡ map f (take k l)
take_map f zero l = refl
take_map f (suc k) [] = refl
take_map f (suc k) (x ∷ l) = ap (λ (r : List _). f x ∷ r) (take_map f k l)

-- the words of writes whose slots exist
module _ (n : ℕ) (small : n ≤ emptying) (xs : List Write) (below : WritesBelow n xs) where
  pub words_back : map write_of (map write_word xs) ≡ xs
  words_back = writes_of_words xs (λ k h. slots_below_more small (get_or xs k (clear 0)) (below k h))

  pub word_at : (k : ℕ) → k < length xs → write_of (get_or (map write_word xs) k 0) ≡ get_or xs k (clear 0)
  word_at k h =
      ap write_of (get_d_map_within write_word xs k (clear 0) 0 h)
      ∙ write_of_word (get_or xs k (clear 0)) (slots_below_more small (get_or xs k (clear 0)) (below k h))

  pub words_below : WordsBelow n (map write_word xs)
  words_below k h =
      let l : k < length xs = omega (arith, length-map xs write_word) in
      rw (word_at k l) (below k l)

-- carried out on the table by their words they do what the writes do to the layout
pub apply_plan : (w : ℕ) (t : List ℕ) (r : Rule) → slots w t ≤ emptying → (xs : List Write) → WritesBelow (slots w t) xs
    → entries w (apply_words w t r (map write_word xs)) ≡ carried (vacant w) (record_of w r) (entries w t) xs
apply_plan w t r small xs below =
    apply_words_entries w t r (map write_word xs) (words_below (slots w t) small xs below)
    ∙ ap (carried (vacant w) (record_of w r) (entries w t)) (words_back (slots w t) small xs below)

-- a plan's writes, each of which fits in its turn
module _
    (w : ℕ) (t : List ℕ) (r : Rule) (small : slots w t ≤ emptying) (xs : List Write)
    (turn : (k : ℕ) → k < length xs → EntryFits w (carried (vacant w) (record_of w r) (entries w t) (take k xs)) (get_or xs k (clear 0))) where
  pub plan_below : WritesBelow (slots w t) xs
  plan_below k h =
      rw (carried_length (vacant w) (record_of w r) (entries w t) (take k xs), entries_length w t) at
      (entry_fits_below w (carried (vacant w) (record_of w r) (entries w t) (take k xs)) (get_or xs k (clear 0)) (turn k h))

  -- after each number of its words the layout is that after as many writes
  pub plan_entries : (k : ℕ) → entries w (apply_words w t r (take k (map write_word xs))) ≡ carried (vacant w) (record_of w r) (entries w t) (take k xs)
  plan_entries k =
      rw (take_map write_word k xs)
      (apply_plan w t r small (take k xs)
      (λ j h. let l = length-take k xs in rw (get_or-take k xs j (clear 0) (omega arith)) (plan_below j (omega arith))))
