-- Laws on the words for each block: what they say after a pair is asked, and why a slot that they leave out need not be asked.
use Rattle.std.specs.Prelude.{◌≡◌, refl, Bool, ◌||◌, ◌⊎◌, List, ℕ, ◌+◌, ◌-◌, ◌*◌, ◌/◌, ◌%◌, ◌^◌, ◌<◌, ◌≤◌, eqb, leb, length, get_or, set}
use Rattle.std.proofs.Common.{sym, ap, ◌∙◌, ⊎_elim, add-one, arith, length-set, get_or-set_same, get_or-set_other, eq-eqb, ne_eqb, leb-false}
use Rattle.std.proofs.Math.Bool.{true, false}
use Rattle.std.proofs.Math.Logic.◌⊎◌.{inl, inr}
use Rattle.std.proofs.Math.Decide.{ℕ_discrete}
use Rattle.std.specs.Int.Bits.{bit_and}
use Rattle.std.proofs.lemmas.Bool.{eqb-false}
use Rattle.search.specs.SearchLaws.{decided}
use Rattle.ternary.specs.Bit.{bit}
use Rattle.ternary.proofs.BitLaws.{bit_lt, bit_and_lem}
use Rattle.bitmaps.specs.Flags.{cleared, except, turned, Top}
use Rattle.bitmaps.specs.FlagsLaws.{bit_ones, except_left, except_was, cleared_other, cleared_was}
use Rattle.bitmaps.specs.Rows.{gathered}
use Rattle.neighbour_lists.specs.Row.{keep, both_kept, asked, closed, asked_free, needed_bits, InRow, Quiet, Marks, Pairing, Tells, Inside}
use Rattle.neighbour_lists.proofs.RowLaws.{keep_none, keep_some, kept_same, kept_other, drop_row, next_block, ask_row, length_asked, inside_turned}

-- the free slots are as many as before
pub length_closed : (near free : List ℕ) (i : ℕ) → length (closed near free i) ≡ length free
unfolding closed
length_closed near free i = ⊎_elim (λ e. rw e (simp length-set)) (λ e. rw e) (decided (eqb (get_or near (2 * i) 0) 65535))

length_asked_free : (d : Bool) (near free : List ℕ) (i : ℕ) → length (asked_free d near free i) ≡ length free
unfolding asked_free
length_asked_free true near free i = length_closed near free i
length_asked_free false near free i = refl

-- the free slots as the code keeps them: slot i leaves where it had no dependant
pub closed_stored : (near free : List ℕ) (i : ℕ) → get_or near (2 * i) 0 ≡ 65535
    → set free (i / 64) (cleared (get_or free (i / 64) 0) (i % 64)) ≡ closed near free i
unfolding closed
closed_stored near free i e = rw (eq-eqb (get_or near (2 * i) 0) 65535 e)

pub closed_left : (near free : List ℕ) (i : ℕ) → (get_or near (2 * i) 0 ≡ 65535 → ⊥) → free ≡ closed near free i
unfolding closed
closed_left near free i n = rw (ne_eqb (get_or near (2 * i) 0) 65535 n)

pub asked_free_yes : {d : Bool} (near free : List ℕ) (i : ℕ) → d ≡ true → closed near free i ≡ asked_free d near free i
unfolding asked_free
asked_free_yes near free i e = rw e

pub asked_free_no : {d : Bool} (near free : List ℕ) (i : ℕ) → d ≡ false → free ≡ asked_free d near free i
unfolding asked_free
asked_free_no near free i e = rw e

-- a free slot was free, and only slot i is closed
closed_was : (near free : List ℕ) (i b s : ℕ) → i / 64 < length free → bit (get_or (closed near free i) b 0) s ≡ 1 → bit (get_or free b 0) s ≡ 1
unfolding closed
closed_was near free i b s room h = ⊎_elim (λ e. at (rw e at h) (ℕ_discrete b (i / 64))) (λ e. rw e at h) (decided (eqb (get_or near (2 * i) 0) 65535))
  where
    at : bit (get_or (set free (i / 64) (cleared (get_or free (i / 64) 0) (i % 64))) b 0) s ≡ 1 → Dec (b ≡ i / 64) → bit (get_or free b 0) s ≡ 1
    at h (yes q) = rw q (cleared_was (get_or free (i / 64) 0) (i % 64) s (rw (q, get_or-set_same free (i / 64) (cleared (get_or free (i / 64) 0) (i % 64)) 0 room) at h))
    at h (no n) = rw (get_or-set_other free (i / 64) b (cleared (get_or free (i / 64) 0) (i % 64)) 0 n) at h

closed_other : (near free : List ℕ) (i b s : ℕ) → i / 64 < length free → s < 64 → (64 * b + s ≡ i → ⊥)
    → bit (get_or (closed near free i) b 0) s ≡ bit (get_or free b 0) s
unfolding closed
closed_other near free i b s room l n = ⊎_elim (λ e. rw e (at (ℕ_discrete b (i / 64)))) (λ e. rw e) (decided (eqb (get_or near (2 * i) 0) 65535))
  where
    at : Dec (b ≡ i / 64) → bit (get_or (set free (i / 64) (cleared (get_or free (i / 64) 0) (i % 64))) b 0) s ≡ bit (get_or free b 0) s
    at (yes q) =
        rw (q, get_or-set_same free (i / 64) (cleared (get_or free (i / 64) 0) (i % 64)) 0 room)
        (cleared_other (get_or free (i / 64) 0) (i % 64) s (omega arith) l (λ e. n (omega arith)))
    at (no m) = rw (get_or-set_other free (i / 64) b (cleared (get_or free (i / 64) 0) (i % 64)) 0 m)

-- the words after a pair is asked
module _ (rank : ℕ → ℕ) (held : ℕ → Bool) (near full free low : List ℕ) (i j : ℕ) (marks : Marks rank held near full free low j)
    (small : j < 65535) (room : 2 * j + 1 < length near) (h : i < j) (blocks : i / 64 < length free) where
  kept_marks : Marks rank held (both_kept near i j) full (closed near free i) low j
  kept_marks = record {
    inside = marks.inside;
    vacant = marks.vacant;
    within = λ b s e. marks.within b s (closed_was near free i b s blocks e);
    listed = λ b s l f e q. at b s l f e q (ℕ_discrete (64 * b + s) i);
    lowest = marks.lowest;
  }
    where
      there : keep (get_or near (2 * i) 0) j ≡ 65535 → ⊥
      there q = by (ℕ_discrete (get_or near (2 * i) 0) 65535)
        where
          by : Dec (get_or near (2 * i) 0 ≡ 65535) → ⊥
          by (yes e) = let f = keep_none (get_or near (2 * i) 0) j e in omega arith
          by (no n) = n (sym (keep_some (get_or near (2 * i) 0) j n) ∙ q)

      at : (b s : ℕ) → s < 64 → bit (get_or full b 0) s ≡ 1 → bit (get_or (closed near free i) b 0) s ≡ 0
          → get_or (both_kept near i j) (2 * (64 * b + s)) 0 ≡ 65535 → Dec (64 * b + s ≡ i) → ⊥
      at b s l f e q (yes p) = there (sym (kept_same near i j room h) ∙ (rw p at q))
      at b s l f e q (no n) =
          marks.listed b s l f (sym (closed_other near free i b s blocks l n) ∙ e) (sym (kept_other near i j room h (64 * b + s) n) ∙ q)

  asked_marks : (d : Bool) → Marks rank held (asked d near i j) full (asked_free d near free i) low j
  unfolding asked asked_free
  asked_marks true = kept_marks
  asked_marks false = marks

-- the slots of a block that are to be asked: all, or the free ones, once slot j has its preceding slot and where the ranks are higher
needed_cases : (near full free low : List ℕ) (b j rank : ℕ)
    → (needed_bits near full free low b j rank ≡ get_or full b 0)
    ⊎ ((needed_bits near full free low b j rank ≡ get_or free b 0) × (get_or near (2 * j + 1) 0 ≡ 65535 → ⊥) × (rank < get_or low b 0))
unfolding needed_bits
needed_cases near full free low b j rank = by (decided (eqb (get_or near (2 * j + 1) 0) 65535)) (decided (leb (get_or low b 0) rank))
  where
    by : (eqb (get_or near (2 * j + 1) 0) 65535 ≡ true) ⊎ (eqb (get_or near (2 * j + 1) 0) 65535 ≡ false)
        → (leb (get_or low b 0) rank ≡ true) ⊎ (leb (get_or low b 0) rank ≡ false)
        → (needed_bits near full free low b j rank ≡ get_or full b 0)
        ⊎ ((needed_bits near full free low b j rank ≡ get_or free b 0) × (get_or near (2 * j + 1) 0 ≡ 65535 → ⊥) × (rank < get_or low b 0))
    by (inl e) f = inl (rw e)
    by (inr e) (inl f) = inl (rw (e, f))
    by (inr e) (inr f) = inr (rw (e, f), eqb-false (get_or near (2 * j + 1) 0) 65535 e, leb-false (get_or low b 0) rank f)

-- they are before slot j, and the others are quiet
module _ (prec mis : ℕ → ℕ → Bool) (rank : ℕ → ℕ) (held : ℕ → Bool) (near full free low : List ℕ) (j b : ℕ)
    (pairing : Pairing prec mis rank held) (marks : Marks rank held near full free low j) where
  pub needed_inside : (x r : ℕ) → x ≡ needed_bits near full free low b j r → Inside j b x
  needed_inside x r e s h =
      let g = rw e at h in
      ⊎_elim (λ f. marks.inside b s (rw f at g)) (λ f. marks.within b s (rw f.0 at g)) (needed_cases near full free low b j r)

  vacant_quiet : (s : ℕ) → s < 64 → bit (get_or full b 0) s ≡ 0 → 64 * b + s < j → Quiet prec mis near j (64 * b + s)
  vacant_quiet s l z h = let e = pairing.empty (64 * b + s) j (marks.vacant b s l z h) in (e.1, inl e.0)

  -- a slot of a block of higher ranks that has its dependant, once slot j has its preceding slot
  higher_quiet : (s : ℕ) → s < 64 → bit (get_or full b 0) s ≡ 1 → (get_or near (2 * j + 1) 0 ≡ 65535 → ⊥) → rank j < get_or low b 0
      → bit (get_or free b 0) s ≡ 0 → Quiet prec mis near j (64 * b + s)
  higher_quiet s l o n r z =
      (pairing.falling (64 * b + s) j (let k = marks.lowest b s l o in omega arith), inr (marks.listed b s l o z, n))

  needed_quiet : (s : ℕ) → s < 64 → bit (needed_bits near full free low b j (rank j)) s ≡ 0 → 64 * b + s < j → Quiet prec mis near j (64 * b + s)
  needed_quiet s l z h = at (ℕ_discrete (bit (get_or full b 0) s) 1)
    where
      at : Dec (bit (get_or full b 0) s ≡ 1) → Quiet prec mis near j (64 * b + s)
      at (no q) = vacant_quiet s l (let k = bit_lt (get_or full b 0) s in omega arith) h
      at (yes q) =
          ⊎_elim (λ e. vacant_quiet s l (rw e at z) h) (λ e. higher_quiet s l q e.1 e.2 (rw e.0 at z))
          (needed_cases near full free low b j (rank j))

  -- bits that are not to be asked are dropped in the middle of a block
  narrow_row : (left : ℕ) (bad : Bool) → InRow prec mis near j b left bad
      → InRow prec mis near j b (bit_and left (needed_bits near full free low b j (rank j))) bad
  narrow_row left bad row =
      drop_row prec mis near j b left (bit_and left (needed_bits near full free low b j (rank j))) bad row
      (λ s l z. (let e = bit_and_lem left (needed_bits near full free low b j (rank j)) s in omega arith))
      (λ s l o z h. needed_quiet s l (let e = bit_and_lem left (needed_bits near full free low b j (rank j)) s in omega arith) h)

  -- a block begins with those that are to be asked
  pub begin_row : (bad : Bool) (x r : ℕ) → x ≡ needed_bits near full free low b j r → r ≡ rank j → InRow prec mis near j (b + 1) 0 bad → InRow prec mis near j b x bad
  begin_row bad x r e f row =
      rw (e, f)
      (drop_row prec mis near j b (2 ^ 64 - 1) (needed_bits near full free low b j (rank j)) bad (next_block prec mis near j b bad (rw (add-one b) at row))
      (λ s l z. absurd (let o = bit_ones 64 s l in omega arith))
      (λ s l o z h. needed_quiet s l z h))

inside_narrowed : (j b left more : ℕ) → Inside j b left → Inside j b (bit_and left more)
inside_narrowed j b left more h s e = h s (let k = bit_and_lem left more s in let l = bit_lt left s in omega arith)

-- one turn: the slot of the highest bit is asked, and the bits that need not be asked any more are dropped
module _ (prec mis : ℕ → ℕ → Bool) (rank : ℕ → ℕ) (held : ℕ → Bool) (near full free low : List ℕ) (j b left t : ℕ) (bad : Bool)
    (pairing : Pairing prec mis rank held) (row : InRow prec mis near j b left bad) (marks : Marks rank held near full free low j)
    (inside : Inside j b left) (small : j < 65535) (room : 2 * j + 1 < length near) (few : b < 16) (blocks : 16 ≤ length free) (top : Top left t) where
  pub turn_block : (near' free' : List ℕ) (bad' : Bool) (x y r : ℕ) → bad' ≡ mis (64 * b + t) j
      → near' ≡ asked (prec (64 * b + t) j) near (64 * b + t) j → free' ≡ asked_free (prec (64 * b + t) j) near free (64 * b + t)
      → x ≡ turned left t → y ≡ needed_bits near' full free' low b j r → r ≡ rank j
      → (length near' ≡ length near) × (length free' ≡ length free) × InRow prec mis near' j b (bit_and x y) (bad' || bad)
      × Marks rank held near' full free' low j × Inside j b (bit_and x y)
  turn_block near' free' bad' x y r eb en ef ex ey er =
      let h = inside t top.hit in
      let m : Marks rank held near' full free' low j
      = rw (en, ef) (asked_marks rank held near full free low (64 * b + t) j marks small room h (let l = top.below in omega arith) (prec (64 * b + t) j)) in
      let w : InRow prec mis near' j b x (bad' || bad) = rw (en, ex, eb) (ask_row prec mis near j b left t bad row small room top h) in
      let n : InRow prec mis near' j b (bit_and x y) (bad' || bad) = rw (ey, er) (narrow_row prec mis rank held near' full free' low j b pairing m x (bad' || bad) w) in (
        rw en (length_asked (prec (64 * b + t) j) near (64 * b + t) j),
        rw ef (length_asked_free (prec (64 * b + t) j) near free (64 * b + t)),
        n,
        m,
        rw ex (inside_narrowed j b (turned left t) y (inside_turned j b left t inside top.hit)),
      )

-- what the rows tell apart is dropped
module _ (prec mis : ℕ → ℕ → Bool) (near maps rows : List ℕ) (used j b left apart : ℕ) (bad : Bool) (few : b < 16)
    (tells : Tells prec mis maps rows used j) (e : apart ≡ gathered maps rows b used) (fits : apart < 2 ^ 64) where
  pub screen_row : InRow prec mis near j b left bad → InRow prec mis near j b (except left apart) bad
  screen_row row =
      drop_row prec mis near j b left (except left apart) bad row
      (λ s l z. none s z (ℕ_discrete (bit (except left apart) s) 1))
      (λ s l o z h. (let k = tells b s few l (ap (λ (x : ℕ). bit x s) (sym e) ∙ except_left left apart s fits l o z) in (k.1, inl k.0)))
    where
      none : (s : ℕ) → bit left s ≡ 0 → Dec (bit (except left apart) s ≡ 1) → bit (except left apart) s ≡ 0
      none s z (yes q) = absurd (let w = except_was left apart s q in omega arith)
      none s z (no n) = let k = bit_lt (except left apart) s in omega arith

  pub inside_screened : Inside j b left → Inside j b (except left apart)
  inside_screened h s q = h s (except_was left apart s q)
