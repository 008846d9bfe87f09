-- Laws on the pass: where a row begins and ends, what noting a rule leaves, and from one slot to the next.
use Rattle.std.specs.Prelude.{◌≡◌, refl, Bool, true, false, cond, ◌⊎◌, List, ℕ, ◌+◌, ◌-◌, ◌*◌, ◌/◌, ◌%◌, ◌<◌, ◌≤◌, ltb, length, set, take}
use Rattle.std.proofs.Math.Path.{sym}
use Rattle.std.proofs.Common.{ap, ◌∙◌, ⊎_elim, add-zero, add-one, arith, length-set, get_or-set_same, ltb-true, ltb-false}
use Rattle.std.proofs.Math.Logic.◌⊎◌.{inl, inr}
use Rattle.std.proofs.Math.Decide.{ℕ_discrete}
use Rattle.std.proofs.Math.ListN.{get_or}
use Rattle.std.proofs.Math.Seq.{get_or-set_other}
use Rattle.std.proofs.lemmas.List.{get_or-take, length-take-le}
use Rattle.search.specs.Search.{any}
use Rattle.search.specs.SearchLaws.{decided, any_some, any_none}
use Rattle.ternary.specs.Bit.{bit}
use Rattle.ternary.proofs.BitLaws.{bit_zero}
use Rattle.records.specs.Record.{slot_words, empty}
use Rattle.records.specs.Order.{slots}
use Rattle.records.proofs.OrderLaws.{misordered_empty}
use Rattle.records.specs.Checks.{disorder_at}
use Rattle.bitmaps.specs.Flags.{marked}
use Rattle.bitmaps.specs.FlagsLaws.{Marked, marked_bit}
use Rattle.bitmaps.specs.FlagsLaws.Marked.{new, old}
use Rattle.bitmaps.specs.Rows.{Screen, Other, RowsOf, noted}
use Rattle.bitmaps.specs.RowsLaws.{screen_apart, screen_note, no_bit}
use Rattle.neighbour_lists.specs.Lists.{precedes_slot, misordered_slots, rank_at, occupied_at, last_below, next_dependant, last_preceding, Listed}
use Rattle.neighbour_lists.proofs.ListsLaws.{last_below_none, last_below_at, seen_start, seen_first}
use Rattle.neighbour_lists.specs.Row.{first_seen, stage, NoneYet, LastIs, OutOfOrder, InOrderBehind, InRow, Marks, Tells}
use Rattle.neighbour_lists.proofs.PairLaws.{precedes_empty, pattern_apart}
use Rattle.neighbour_lists.proofs.RowLaws.{stage_later, stage_here, stage_earlier, Place, place_of, seen_no}
use Rattle.neighbour_lists.proofs.RowLaws.Place.{later, here, earlier}
use Rattle.neighbour_lists.specs.Pass.{lowered, Taken, Room}

-- in the block after the last nothing is behind, at block 0 with no bit left everything is
none_behind : (j i : ℕ) → i < j → stage (j / 64 + 1) 0 i ≡ 0
none_behind j i h = stage_earlier (j / 64 + 1) 0 i (omega arith)

all_behind : (i : ℕ) → stage 0 0 i ≡ 1
all_behind i = by (place_of 0 i)
  where
    by : {i : ℕ} → Place 0 i → stage 0 0 i ≡ 1
    by {i} (later l) = stage_later 0 0 i l
    by (here s l) = stage_here 0 0 s l ∙ ap (λ (x : ℕ). 1 - x) (bit_zero s)
    by (earlier l) = absurd (omega arith)

module _ (prec mis : ℕ → ℕ → Bool) (near : List ℕ) (j : ℕ)
    (nexts : (i : ℕ) → i < j → get_or near (2 * i) 0 ≡ first_seen (prec i) (i + 1) (j - (i + 1)))
    (befores : (i : ℕ) → i < j → get_or near (2 * i + 1) 0 ≡ last_below (λ (k : ℕ). prec k i) i)
    (none : get_or near (2 * j + 1) 0 ≡ 65535) where
  -- a row begins
  row_start : InRow prec mis near j (j / 64 + 1) 0 false
  row_start = record {
    next = λ i h. nexts i h ∙ ap (λ (k : ℕ). first_seen (prec i) (i + 1) k) (let z = none_behind j i h in omega arith);
    last = inl (none, λ i h s. absurd (let z = none_behind j i h in omega arith));
    order = inr (refl, λ i h s. absurd (let z = none_behind j i h in omega arith));
    known = befores;
  }

  -- a slot that no other precedes and that is in order with each has its row done
  row_idle : ((i : ℕ) → (prec i j ≡ false) × (mis i j ≡ false)) → InRow prec mis near j 0 0 false
  row_idle idle = record {
    next = λ i h. rw (all_behind i)
        (nexts i h ∙ (ap (λ (k : ℕ). first_seen (prec i) (i + 1) k) (sym (add-zero (j - (i + 1)))) ∙ sym (seen_no (prec i) i j h (idle i).0)));
    last = inl (none, λ i h s. (idle i).0);
    order = inr (refl, λ i h s. (idle i).1);
    known = befores;
  }

-- a row ends
module _ (prec mis : ℕ → ℕ → Bool) (near : List ℕ) (j : ℕ) (bad : Bool) (row : InRow prec mis near j 0 0 bad) where
  row_next : (i : ℕ) → i < j → get_or near (2 * i) 0 ≡ first_seen (prec i) (i + 1) (j + 1 - (i + 1))
  row_next i h = row.next i h ∙ ap (λ (k : ℕ). first_seen (prec i) (i + 1) k) (let o = all_behind i in omega arith)

  row_last : get_or near (2 * j + 1) 0 ≡ last_below (λ (k : ℕ). prec k j) j
  row_last = ⊎_elim none some row.last
    where
      none : NoneYet prec near j 0 0 → get_or near (2 * j + 1) 0 ≡ last_below (λ (k : ℕ). prec k j) j
      none z = z.0 ∙ sym (last_below_none (λ (k : ℕ). prec k j) j (λ i h. z.1 i h (all_behind i)))

      some : LastIs prec near j → get_or near (2 * j + 1) 0 ≡ last_below (λ (k : ℕ). prec k j) j
      some z = sym (last_below_at (λ (k : ℕ). prec k j) j (get_or near (2 * j + 1) 0) z.0 z.1 z.2)

  row_order : bad ≡ any (λ (i : ℕ). mis i j) j
  row_order = ⊎_elim some none row.order
    where
      some : (bad ≡ true) × OutOfOrder mis j → bad ≡ any (λ (i : ℕ). mis i j) j
      some z = z.0 ∙ sym (any_some (λ (i : ℕ). mis i j) j z.1.0 z.1.1 z.1.2)

      none : (bad ≡ false) × InOrderBehind mis j 0 0 → bad ≡ any (λ (i : ℕ). mis i j) j
      none z = z.0 ∙ sym (any_none (λ (i : ℕ). mis i j) j (λ i h. z.1 i h (all_behind i)))

-- the lower rank of a block stays
lowered_law : (low : List ℕ) (j rank : ℕ) → j / 64 < length low → (b : ℕ)
    → (get_or (lowered low j rank) b 0 ≤ get_or low b 0) × (b ≡ j / 64 → get_or (lowered low j rank) b 0 ≤ rank)
unfolding lowered
lowered_law low j rank room b = by (decided (ltb rank (get_or low (j / 64) 0))) (ℕ_discrete b (j / 64))
  where
    by : (ltb rank (get_or low (j / 64) 0) ≡ true) ⊎ (ltb rank (get_or low (j / 64) 0) ≡ false) → Dec (b ≡ j / 64)
        → (get_or (cond (ltb rank (get_or low (j / 64) 0)) (set low (j / 64) rank) low) b 0 ≤ get_or low b 0)
        × (b ≡ j / 64 → get_or (cond (ltb rank (get_or low (j / 64) 0)) (set low (j / 64) rank) low) b 0 ≤ rank)
    by (inl t) (yes q) =
        let g = get_or-set_same low (j / 64) rank 0 room in
        let l = ltb-true rank (get_or low (j / 64) 0) t in
        rw (t, q, g) (omega arith, λ _. omega arith)
    by (inl t) (no n) = let g = get_or-set_other low (j / 64) b rank 0 n in rw (t, g) (omega arith, λ e. absurd (n e))
    by (inr f) (yes q) =
        let l = ltb-false rank (get_or low (j / 64) 0) f in
        rw (f, q) (omega arith, λ _. omega arith)
    by (inr f) (no n) = rw f (omega arith, λ e. absurd (n e))

-- numbers from slot j on are no marks
marks_stored : (rank : ℕ → ℕ) (held : ℕ → Bool) (near full free low : List ℕ) (j at number : ℕ) → 2 * j ≤ at
    → Marks rank held near full free low j → Marks rank held (set near at number) full free low j
marks_stored rank held near full free low j at number h marks = record {
  inside = marks.inside;
  vacant = marks.vacant;
  within = marks.within;
  listed = λ b s l f o e. marks.listed b s l f o
      (sym (get_or-set_other near at (2 * (64 * b + s)) number 0 (λ q. (let i = marks.inside b s f in omega arith))) ∙ e);
  lowest = marks.lowest;
}

-- an empty slot leaves the marks as they are
marks_vacant : (rank : ℕ → ℕ) (held : ℕ → Bool) (near full free low : List ℕ) (j : ℕ) → held j ≡ false
    → Marks rank held near full free low j → Marks rank held near full free low (j + 1)
marks_vacant rank held near full free low j e marks = record {
  inside = λ b s f. (let i = marks.inside b s f in omega arith);
  vacant = λ b s l f h. at b s l f h (ℕ_discrete (64 * b + s) j);
  within = λ b s f. (let i = marks.within b s f in omega arith);
  listed = marks.listed;
  lowest = marks.lowest;
}
  where
    at : (b s : ℕ) → s < 64 → bit (get_or full b 0) s ≡ 0 → 64 * b + s < j + 1 → Dec (64 * b + s ≡ j) → held (64 * b + s) ≡ false
    at b s l f h (yes q) = ap held q ∙ e
    at b s l f h (no n) = marks.vacant b s l f (omega arith)

-- a rule noted
module _ (rank : ℕ → ℕ) (held : ℕ → Bool) (near full free low : List ℕ) (j : ℕ)
    (room-full : j / 64 < length full) (room-free : j / 64 < length free) (room-low : j / 64 < length low)
    (marks : Marks rank held near full free low j) where
  marks_noted : Marks rank held (set near (2 * j) 65535) (marked full j) (marked free j) (lowered low j (rank j)) (j + 1)
  marks_noted = record {
    inside = λ b s e. inside full (marks.inside b s) (marked_bit full j room-full b s) e;
    vacant = λ b s l e h. vacant b s l e h (marked_bit full j room-full b s);
    within = λ b s e. inside free (marks.within b s) (marked_bit free j room-free b s) e;
    listed = λ b s l e f n. listed b s l e f n (marked_bit full j room-full b s) (marked_bit free j room-free b s);
    lowest = λ b s l e. lowest b s l e (lowered_law low j (rank j) room-low b) (marked_bit full j room-full b s);
  }
    where
      inside : (words : List ℕ) → {b s : ℕ} → (bit (get_or words b 0) s ≡ 1 → 64 * b + s < j)
          → Marked words j b s → bit (get_or (marked words j) b 0) s ≡ 1 → 64 * b + s < j + 1
      inside words f (new q r o) e = omega arith
      inside words f (old n o) e = let h = f (sym o ∙ e) in omega arith

      vacant : (b s : ℕ) → s < 64 → bit (get_or (marked full j) b 0) s ≡ 0 → 64 * b + s < j + 1 → Marked full j b s → held (64 * b + s) ≡ false
      vacant b s l e h (new q r o) = absurd (omega arith)
      vacant b s l e h (old n o) =
          let m : 64 * b + s ≡ j → ⊥ = λ q. n (omega arith) (omega arith) in
          marks.vacant b s l (sym o ∙ e) (omega arith)

      listed : (b s : ℕ) → s < 64 → bit (get_or (marked full j) b 0) s ≡ 1 → bit (get_or (marked free j) b 0) s ≡ 0
          → get_or (set near (2 * j) 65535) (2 * (64 * b + s)) 0 ≡ 65535 → Marked full j b s → Marked free j b s → ⊥
      listed b s l e f n x (new q r o) = omega arith
      listed b s l e f n (new q r o) (old m p) = m q r
      listed b s l e f n (old m p) (old k o) =
          let t : 64 * b + s ≡ j → ⊥ = λ q. m (omega arith) (omega arith) in
          marks.listed b s l (sym p ∙ e) (sym o ∙ f)
          (sym (get_or-set_other near (2 * j) (2 * (64 * b + s)) 65535 0 (λ q. t (omega arith))) ∙ n)

      lowest : (b s : ℕ) → s < 64 → bit (get_or (marked full j) b 0) s ≡ 1
          → (get_or (lowered low j (rank j)) b 0 ≤ get_or low b 0) × (b ≡ j / 64 → get_or (lowered low j (rank j)) b 0 ≤ rank j)
          → Marked full j b s → get_or (lowered low j (rank j)) b 0 ≤ rank (64 * b + s)
      lowest b s l e law (new q r o) = let i : 64 * b + s ≡ j = omega arith in rw i (law.1 q)
      lowest b s l e law (old n o) = let k = marks.lowest b s l (sym o ∙ e) in let m = law.0 in omega arith

-- what the rows of other values tell apart from slot j
pub tells_screen : (w : ℕ) (u : Bool) (t places maps rows : List ℕ) (count j used : ℕ) → Screen w t places maps j
    → ((m : ℕ) → m < count → get_or places m 0 < 64 * w) → ((m : ℕ) → m < used → Other w t places count j (get_or rows m 0))
    → Tells (precedes_slot w u t) (misordered_slots w u t) maps rows used j
tells_screen w u t places maps rows count j used screen within other b s l h e =
    let x = slot_words w t (64 * b + s) in
    let y = slot_words w t j in
    let pair = pattern_apart w u x y (screen_apart w t places maps rows count j j b used s screen l within other e) in
    (pair.1, pair.0)

-- the rows used so far, taken by themselves
pub rows_front : (w : ℕ) (t places others own : List ℕ) (count j used : ℕ) → RowsOf w t places count j others own used
    → RowsOf w t places count j (take used others) (take used own) used
rows_front w t places others own count j used filled m h =
    rw (get_or-take used others m 0 h, get_or-take used own m 0 h) (filled m h)

-- the front of a list keeps a bound
pub front_below : (xs : List ℕ) (n b : ℕ) → n ≤ length xs → ((m : ℕ) → m < n → get_or xs m 0 < b)
    → (m : ℕ) → m < length (take n xs) → get_or (take n xs) m 0 < b
front_below xs n b room below m h =
    let l : m < n = omega (arith, h, length-take-le n xs room) in
    rw (get_or-take n xs m 0 l) (below m l)

-- a row of the maps lies within them
pub row_fits : (row count size : ℕ) → row % 16 ≡ 0 → row / 32 < count → 32 * count ≤ size → row + 16 ≤ size
row_fits row count size a b c = omega arith

-- nothing is known before the first slot
pub taken_start : (w : ℕ) (u : Bool) (t places near full free low maps : List ℕ) → ((b : ℕ) → get_or full b 0 ≡ 0) → ((b : ℕ) → get_or free b 0 ≡ 0)
    → ((a : ℕ) → get_or maps a 0 ≡ 0) → Taken w u t places near full free low maps 0
taken_start w u t places near full free low maps zf zo zm = record {
  nexts = λ i h. absurd (omega arith);
  befores = λ i h. absurd (omega arith);
  marks = record {
    inside = λ b s e. absurd (no_bit full zf b s e);
    vacant = λ b s l e h. absurd (omega arith);
    within = λ b s e. absurd (no_bit free zo b s e);
    listed = λ b s l e f n. no_bit full zf b s e;
    lowest = λ b s l e. absurd (no_bit full zf b s e);
  };
  screen = λ a s e. absurd (no_bit maps zm a s e);
}

-- a row that is done tells whether its slot is out of order
pub row_told : (w : ℕ) (u : Bool) (t near : List ℕ) (j : ℕ) (bad : Bool) → InRow (precedes_slot w u t) (misordered_slots w u t) near j 0 0 bad → bad ≡ disorder_at w u t j
unfolding disorder_at
row_told w u t near j bad row = row_order (precedes_slot w u t) (misordered_slots w u t) near j bad row

-- slot j, its row done
module _ (w : ℕ) (u : Bool) (t places near full free low maps : List ℕ) (j : ℕ) (bad : Bool) (room : 2 * j < length near)
    (row : InRow (precedes_slot w u t) (misordered_slots w u t) near j 0 0 bad) where
  taken_more : Marks (rank_at w t) (occupied_at w t) (set near (2 * j) 65535) full free low (j + 1) → Screen w t places maps (j + 1)
      → Taken w u t places (set near (2 * j) 65535) full free low maps (j + 1)
  unfolding last_preceding
  taken_more marks screen = record {
    nexts = λ i h. next i h (ℕ_discrete i j);
    befores = λ i h. before i h (ℕ_discrete i j);
    marks = marks;
    screen = screen;
  }
    where
      next : (i : ℕ) → i < j + 1 → Dec (i ≡ j) → get_or (set near (2 * j) 65535) (2 * i) 0 ≡ first_seen (precedes_slot w u t i) (i + 1) (j + 1 - (i + 1))
      next i h (yes q) = rw q (get_or-set_same near (2 * j) 65535 0 room ∙ sym (seen_start (precedes_slot w u t j) j))
      next i h (no n) =
          get_or-set_other near (2 * j) (2 * i) 65535 0 (λ q. n (omega arith))
          ∙ row_next (precedes_slot w u t) (misordered_slots w u t) near j bad row i (omega arith)

      before : (i : ℕ) → i < j + 1 → Dec (i ≡ j) → get_or (set near (2 * j) 65535) (2 * i + 1) 0 ≡ last_below (λ (k : ℕ). precedes_slot w u t k i) i
      before i h (yes q) =
          rw q (get_or-set_other near (2 * j) (2 * j + 1) 65535 0 (λ e. omega arith)
          ∙ row_last (precedes_slot w u t) (misordered_slots w u t) near j bad row)
      before i h (no n) =
          get_or-set_other near (2 * j) (2 * i + 1) 65535 0 (λ e. omega arith) ∙ row.known i (omega arith)

-- a rule's slot, its row done, noted in the marks and in the maps
module _ (w : ℕ) (u : Bool) (t places near full free low maps others own : List ℕ) (count j used : ℕ) (bad : Bool)
    (room-near : 2 * j < length near) (room-full : j / 64 < length full) (room-free : j / 64 < length free) (room-low : j / 64 < length low)
    (room-maps : 32 * count ≤ length maps) (small : j < 1024)
    (row : InRow (precedes_slot w u t) (misordered_slots w u t) near j 0 0 bad) (marks : Marks (rank_at w t) (occupied_at w t) near full free low j)
    (screen : Screen w t places maps j) (filled : RowsOf w t places count j others own used) where
  pub taken_rule : (full' free' low' maps' : List ℕ) → full' ≡ marked full j → free' ≡ marked free j → low' ≡ lowered low j (rank_at w t j)
      → maps' ≡ noted maps own (j / 64) (j % 64) used → Taken w u t places (set near (2 * j) 65535) full' free' low' maps' (j + 1)
  taken_rule full' free' low' maps' e f g h =
      rw (e, f, g, h)
      (taken_more w u t places near (marked full j) (marked free j) (lowered low j (rank_at w t j)) (noted maps own (j / 64) (j % 64) used) j bad room-near row
      (marks_noted (rank_at w t) (occupied_at w t) near full free low j room-full room-free room-low marks)
      (rw (add-one j) (screen_note w t places maps own count j used small screen (λ m l. (filled m l).own) fits)))
    where
      fits : (m : ℕ) → m < used → get_or own m 0 + j / 64 < length maps
      fits m l =
          let o = (filled m l).own in
          let r = row_fits (get_or own m 0) count (length maps) o.start o.known room-maps in
          omega arith

-- slot j's row begins, and is done where the slot is empty
module _ (w : ℕ) (u : Bool) (t places near full free low maps : List ℕ) (j : ℕ) (room : 2 * j + 1 < length near)
    (taken : Taken w u t places near full free low maps j) where
  abbrev begun : List ℕ
  begun = set near (2 * j + 1) 65535

  next_kept_lem : (i : ℕ) → i < j → get_or begun (2 * i) 0 ≡ first_seen (precedes_slot w u t i) (i + 1) (j - (i + 1))
  next_kept_lem i h = get_or-set_other near (2 * j + 1) (2 * i) 65535 0 (λ e. omega arith) ∙ taken.nexts i h

  before_kept : (i : ℕ) → i < j → get_or begun (2 * i + 1) 0 ≡ last_below (λ (k : ℕ). precedes_slot w u t k i) i
  unfolding last_preceding
  before_kept i h = get_or-set_other near (2 * j + 1) (2 * i + 1) 65535 0 (λ e. omega arith) ∙ taken.befores i h

  none : get_or begun (2 * j + 1) 0 ≡ 65535
  none = get_or-set_same near (2 * j + 1) 65535 0 room

  pub row_begun : InRow (precedes_slot w u t) (misordered_slots w u t) (set near (2 * j + 1) 65535) j (j / 64 + 1) 0 false
  row_begun = row_start (precedes_slot w u t) (misordered_slots w u t) begun j next_kept_lem before_kept none

  pub marks_begun : Marks (rank_at w t) (occupied_at w t) (set near (2 * j + 1) 65535) full free low j
  marks_begun = marks_stored (rank_at w t) (occupied_at w t) near full free low j (2 * j + 1) 65535 (omega arith) taken.marks

  module _ (vacant : empty w (slot_words w t j) ≡ true) where
    pub row_empty : InRow (precedes_slot w u t) (misordered_slots w u t) (set near (2 * j + 1) 65535) j 0 0 false
    row_empty =
        row_idle (precedes_slot w u t) (misordered_slots w u t) begun j next_kept_lem before_kept none
        (λ i. ((precedes_empty w u (slot_words w t i) (slot_words w t j) vacant).0, (misordered_empty w u (slot_words w t i) (slot_words w t j) vacant).0))

    pub taken_empty : Taken w u t places (set (set near (2 * j + 1) 65535) (2 * j) 65535) full free low maps (j + 1)
    taken_empty =
        taken_more w u t places begun full free low maps j false (simp length-set (omega arith)) row_empty
        (marks_vacant (rank_at w t) (occupied_at w t) (set begun (2 * j) 65535) full free low j (rw vacant)
        (marks_stored (rank_at w t) (occupied_at w t) begun full free low j (2 * j) 65535 (omega arith) marks_begun))
        (λ a s e. let m = taken.screen a s e in record { earlier = (let h = m.earlier in omega arith); says = m.says })

-- the numbers at the end are the list
pub taken_listed : (w : ℕ) (u : Bool) (t places near full free low maps : List ℕ) → slots w t ≤ 65535
    → Taken w u t places near full free low maps (slots w t) → Listed w u t near
unfolding next_dependant
taken_listed w u t places near full free low maps small taken i h =
    (taken.nexts i h ∙ rw (sym (add-one i)) (seen_first (precedes_slot w u t i) (i + 1) (slots w t) (omega arith) small), taken.befores i h)

-- room is kept with the lengths of the working arrays
pub room_kept : (w n : ℕ) (near full free low maps places : List ℕ) (count : ℕ) (chosen starts others own near' full' free' low' maps' others' own' : List ℕ)
    → length near' ≡ length near → length full' ≡ length full → length free' ≡ length free → length low' ≡ length low → length maps' ≡ length maps
    → length others' ≡ length others → length own' ≡ length own
    → Room w n near full free low maps places count chosen starts others own
    → Room w n near' full' free' low' maps' places count chosen starts others' own'
room_kept w n near full free low maps places count chosen starts others own near' full' free' low' maps' others' own' a b c d e f g room = record {
  numbers = rw a room.numbers;
  blocks = rw b room.blocks;
  blocks_free = rw c room.blocks_free;
  blocks_low = rw d room.blocks_low;
  rows = rw e room.rows;
  few = room.few;
  words = room.words;
  by_place = room.by_place;
  row_others = rw f room.row_others;
  row_own = rw g room.row_own;
  inside = room.inside;
  bits = room.bits;
  spread = room.spread;
}
