-- Laws on the maps: what a loop over rows adds, that a set bit tells two rules apart, how many bits of words are set, the walk over
-- them, and chosen places spread over them.
use Rattle.std.specs.Prelude.{◌≡◌, refl, false, ◌⊎◌, List, ℕ, zero, suc, ◌+◌, ◌-◌, ◌*◌, ◌/◌, ◌%◌, ◌^◌, ◌<◌, ◌≤◌, length, get_or, set, take, drop}
use Rattle.std.proofs.Common.{sym, ap, ◌∙◌, ⊎_elim, lt_of_lt_of_le, add-one, arith, length-set, length-drop, get_or-set_same, get_or-set_other, get_or-drop, take_all, pow_mono}
use Rattle.std.proofs.Math.Logic.◌⊎◌.{inl, inr}
use Rattle.std.proofs.Math.Decide.{ℕ_discrete, dec_lt}
use Rattle.std.specs.Int.Bits.{bit_and, bit_or}
use Rattle.search.specs.SearchLaws.{decided}
use Rattle.ternary.specs.Bit.{bit}
use Rattle.ternary.proofs.BitLaws.{bit_lt, bit_and_lem, bit_or_lem, bit_zero}
use Rattle.ternary.specs.Pattern.{overlaps}
use Rattle.ternary.proofs.PatternLaws.{overlaps_law}
use Rattle.records.specs.Record.{slot_words, value, mask}
use Rattle.bitmaps.specs.Flags.{with_bit, turned, Top}
use Rattle.bitmaps.specs.FlagsLaws.{bit_high, with_was, with_other, turned_same, turned_other}
use Rattle.bitmaps.specs.Rows.{gathered, noted, Says, Mark, Screen, Own, Other, Both, RowsOf, Spread, sum_of, ones, total, Walk}

-- one row more joined, its word read from the part of the maps that starts at the block
pub gathered_more : (maps rows : List ℕ) (block k x : ℕ) → x ≡ gathered maps rows block k
    → bit_or x (get_or (take (length maps - block) (drop block maps)) (get_or rows k 0) 0) ≡ gathered maps rows block (k + 1)
unfolding gathered
gathered_more maps rows block k x e =
    let all = take_all (length maps - block) (drop block maps) (omega (arith, length-drop block maps)) in
    let at : block + get_or rows k 0 ≡ get_or rows k 0 + block = omega arith in
    rw (add-one k, e, all, get_or-drop block maps (get_or rows k 0) 0, at)

-- a bit set in the join is set in one of the rows
pub gathered_bit : (maps rows : List ℕ) (block k s : ℕ) → bit (gathered maps rows block k) s ≡ 1
    → (m : ℕ) × (m < k) × (bit (get_or maps (get_or rows m 0 + block) 0) s ≡ 1)
unfolding gathered
gathered_bit maps rows block zero s e = absurd (let z = bit_zero s in omega arith)
gathered_bit maps rows block (suc k) s e = pick (gathered_bit maps rows block k s) (ℕ_discrete (bit (gathered maps rows block k) s) 1)
  where
    here : ℕ
    here = get_or maps (get_or rows k 0 + block) 0

    pick : (bit (gathered maps rows block k) s ≡ 1 → (m : ℕ) × (m < k) × (bit (get_or maps (get_or rows m 0 + block) 0) s ≡ 1))
        → Dec (bit (gathered maps rows block k) s ≡ 1) → (m : ℕ) × (m < suc k) × (bit (get_or maps (get_or rows m 0 + block) 0) s ≡ 1)
    pick ih (yes q) = let r = ih q in (r.0, (let h = r.1 in omega arith), r.2)
    pick ih (no n) =
        let o = bit_or_lem (gathered maps rows block k) (get_or maps (get_or rows k 0 + block) 0) s in
        let l = bit_lt (gathered maps rows block k) s in
        (k, omega arith, omega arith)

pub length_noted : (maps rows : List ℕ) (block s k : ℕ) → length (noted maps rows block s k) ≡ length maps
unfolding noted
length_noted maps rows block s zero = refl
length_noted maps rows block s (suc k) = length-set (noted maps rows block s k) _ _ ∙ length_noted maps rows block s k

pub noted_more : (maps rows : List ℕ) (block s k : ℕ) (now : List ℕ) → now ≡ noted maps rows block s k
    → set now (get_or rows k 0 + block) (with_bit (get_or now (get_or rows k 0 + block) 0) s) ≡ noted maps rows block s (k + 1)
unfolding noted
noted_more maps rows block s k now e = rw (add-one k, e)

-- a bit of the noted maps was there, or is bit s of a noted word
pub noted_bit : (maps rows : List ℕ) (block s k : ℕ) → ((m : ℕ) → m < k → get_or rows m 0 + block < length maps) → (a i : ℕ)
    → bit (get_or (noted maps rows block s k) a 0) i ≡ 1
    → (bit (get_or maps a 0) i ≡ 1) ⊎ ((m : ℕ) × (m < k) × (a ≡ get_or rows m 0 + block) × (i ≡ s))
unfolding noted
noted_bit maps rows block s zero fit a i e = inl e
noted_bit maps rows block s (suc k) fit a i e =
    pick (λ f. widen (noted_bit maps rows block s k (λ m h. fit m (omega arith)) a i f)) (ℕ_discrete a at)
  where
    at : ℕ
    at = get_or rows k 0 + block

    old : List ℕ
    old = noted maps rows block s k

    widen : (bit (get_or maps a 0) i ≡ 1) ⊎ ((m : ℕ) × (m < k) × (a ≡ get_or rows m 0 + block) × (i ≡ s))
        → (bit (get_or maps a 0) i ≡ 1) ⊎ ((m : ℕ) × (m < suc k) × (a ≡ get_or rows m 0 + block) × (i ≡ s))
    widen (inl f) = inl f
    widen (inr r) = inr (r.0, (let h = r.1 in omega arith), r.2, r.3)

    pick : (bit (get_or old a 0) i ≡ 1 → (bit (get_or maps a 0) i ≡ 1) ⊎ ((m : ℕ) × (m < suc k) × (a ≡ get_or rows m 0 + block) × (i ≡ s)))
        → Dec (a ≡ at) → (bit (get_or maps a 0) i ≡ 1) ⊎ ((m : ℕ) × (m < suc k) × (a ≡ get_or rows m 0 + block) × (i ≡ s))
    pick ih (yes q) =
        let l = length_noted maps rows block s k in
        let h : at < length old = (let f = fit k (omega arith) in omega arith) in
        let g : get_or (set old at (with_bit (get_or old at 0) s)) a 0 ≡ with_bit (get_or old at 0) s
        = ap (λ (x : ℕ). get_or (set old at (with_bit (get_or old at 0) s)) x 0) q ∙ get_or-set_same old at _ 0 h in
        ⊎_elim (λ f. inr (k, omega arith, q, f)) (λ f. ih (ap (λ (x : ℕ). bit (get_or old x 0) i) q ∙ f))
        (with_was (get_or old at 0) s i (ap (λ (x : ℕ). bit x i) (sym g) ∙ e))
    pick ih (no n) = ih (ap (λ (x : ℕ). bit x i) (sym (get_or-set_other old at a _ 0 n)) ∙ e)

-- two slots that care at one place with different values do not overlap
pub says_apart : (w : ℕ) (t : List ℕ) (i j p v u : ℕ) → p < 64 * w → Says w t i p v → Says w t j p u → (v ≡ u → ⊥)
    → overlaps w (value (slot_words w t i)) (mask w (slot_words w t i)) (value (slot_words w t j)) (mask w (slot_words w t j)) ≡ false
says_apart w t i j p v u h a b n =
    ⊎_elim
    (λ o. absurd ((overlaps_law w (value (slot_words w t i)) (mask w (slot_words w t i)) (value (slot_words w t j)) (mask w (slot_words w t j))).0 o (p / 64) (omega arith) (p % 64)
    (a.cares, b.cares, λ e. n (sym a.valued ∙ (e ∙ b.valued)))))
    (λ f. f) (decided _)

-- a slot noted in the rows of its own values
pub screen_note : (w : ℕ) (t places maps rows : List ℕ) (count j k : ℕ) → j < 1024 → Screen w t places maps j
    → ((m : ℕ) → m < k → Own w t places count j (get_or rows m 0)) → ((m : ℕ) → m < k → get_or rows m 0 + j / 64 < length maps)
    → Screen w t places (noted maps rows (j / 64) (j % 64) k) (suc j)
screen_note w t places maps rows count j k small old own fit a s e =
    ⊎_elim (λ f. let r = old a s f in record { earlier = (let h = r.earlier in omega arith); says = r.says }) new
    (noted_bit maps rows (j / 64) (j % 64) k fit a s e)
  where
    new : (m : ℕ) × (m < k) × (a ≡ get_or rows m 0 + j / 64) × (s ≡ j % 64) → Mark w t places (suc j) a s
    new r =
        let o = own r.0 r.1 in
        let q = r.2 in
        let z = o.start in
        let i : 64 * (a % 16) + s ≡ j = (let f = r.3 in omega arith) in
        let p : a / 32 ≡ get_or rows r.0 0 / 32 = omega arith in
        let v : a / 16 ≡ get_or rows r.0 0 / 16 = omega arith in
        record { earlier = omega arith; says = rw (i, p, v) o.says }

-- the screen tells the truth: a slot of a block whose bit is in the join of the other rows does not overlap the slot
pub screen_apart : (w : ℕ) (t places maps rows : List ℕ) (count n j block k s : ℕ) → Screen w t places maps n → block < 16
    → ((m : ℕ) → m < count → get_or places m 0 < 64 * w) → ((m : ℕ) → m < k → Other w t places count j (get_or rows m 0))
    → bit (gathered maps rows block k) s ≡ 1
    → overlaps w (value (slot_words w t (64 * block + s))) (mask w (slot_words w t (64 * block + s))) (value (slot_words w t j)) (mask w (slot_words w t j)) ≡ false
screen_apart w t places maps rows count n j block k s screen small within other e =
    let g = gathered_bit maps rows block k s e in
    let row = get_or rows g.0 0 in
    let o = other g.0 g.1 in
    let z = o.start in
    let m = screen (row + block) s g.2 in
    let i : (row + block) % 16 ≡ block = omega arith in
    let p : (row + block) / 32 ≡ row / 32 = omega arith in
    let v : (row + block) / 16 ≡ row / 16 = omega arith in
    says_apart w t (64 * block + s) j (get_or places (row / 32) 0) (row / 16 % 2) (1 - row / 16 % 2) (within (row / 32) o.known)
    (rw (i, p, v) at m.says) o.says (λ q. omega arith)

-- the rows of place k, where the slot cares there
pub both_rows : (w : ℕ) (t places : List ℕ) (count j k v : ℕ) → k < count → v < 2 → Says w t j (get_or places k 0) v
    → Both w t places count j (32 * k + 16 * (1 - v)) (32 * k + 16 * v)
both_rows w t places count j k v h l s =
    let p : (32 * k + 16 * v) / 32 ≡ k = omega arith in
    let q : (32 * k + 16 * (1 - v)) / 32 ≡ k = omega arith in
    let a : (32 * k + 16 * v) / 16 ≡ 2 * k + v = omega arith in
    let b : (32 * k + 16 * (1 - v)) / 16 ≡ 2 * k + (1 - v) = omega arith in
    let a' : (2 * k + v) % 2 ≡ v = omega arith in
    let b' : 1 - (2 * k + (1 - v)) % 2 ≡ v = omega arith in
    record {
      other = record { start = omega arith; known = omega arith; says = rw (q, b, b') s };
      own = record { start = omega arith; known = omega arith; says = rw (p, a, a') s };
    }

-- one more place that the slot cares for
pub filled_more : (w : ℕ) (t places : List ℕ) (count j : ℕ) (others own : List ℕ) (k v used : ℕ)
    → used < length others → used < length own → k < count → v < 2 → Says w t j (get_or places k 0) v
    → RowsOf w t places count j others own used
    → RowsOf w t places count j (set others used (32 * k + 16 * (1 - v))) (set own used (32 * k + 16 * v)) (used + 1)
filled_more w t places count j others own k v used ho hw h l says old m lm = pick (ℕ_discrete m used)
  where
    pick : Dec (m ≡ used) → Both w t places count j (get_or (set others used (32 * k + 16 * (1 - v))) m 0) (get_or (set own used (32 * k + 16 * v)) m 0)
    pick (yes q) =
        rw (q, get_or-set_same others used (32 * k + 16 * (1 - v)) 0 ho, get_or-set_same own used (32 * k + 16 * v) 0 hw)
        (both_rows w t places count j k v h l says)
    pick (no n) =
        rw (get_or-set_other others used m (32 * k + 16 * (1 - v)) 0 n, get_or-set_other own used m (32 * k + 16 * v) 0 n) (old m (omega arith))

-- a bit of two words joined by and
pub shared_bit : (x y s : ℕ) → bit (bit_and x y) s ≡ 1 → (bit x s ≡ 1) × (bit y s ≡ 1)
shared_bit x y s e = let o = bit_and_lem x y s in let a = bit_lt x s in let b = bit_lt y s in (omega arith, omega arith)

-- one more bit of a word: a chosen place that the slot cares for
pub filled_bit : (w : ℕ) (t places : List ℕ) (count j : ℕ) (chosen rows others own : List ℕ) (word s v used : ℕ)
    → used < length others → used < length own → s < 64 → v < 2 → Spread places count chosen rows
    → bit (bit_and (mask w (slot_words w t j) word) (get_or chosen word 0)) s ≡ 1 → bit (value (slot_words w t j) word) s ≡ v
    → RowsOf w t places count j others own used
    → RowsOf w t places count j (set others used (get_or rows (64 * word + s) 0 + 16 * (1 - v))) (set own used (get_or rows (64 * word + s) 0 + 16 * v)) (used + 1)
filled_bit w t places count j chosen rows others own word s v used ho hw l h spread hit e old =
    let both = shared_bit (mask w (slot_words w t j) word) (get_or chosen word 0) s hit in
    let found = spread word s l both.1 in
    let p : (64 * word + s) / 64 ≡ word = omega arith in
    let q : (64 * word + s) % 64 ≡ s = omega arith in
    rw found.2
    (filled_more w t places count j others own found.0 v used ho hw found.1 h
    (rw found.3 (record { cares = rw (p, q) both.0; valued = rw (p, q) e })) old)

-- sums: of one number more, of more numbers, of larger ones, of zeros, and of numbers of which one is at most one larger
sum_next : (f : ℕ → ℕ) (k : ℕ) → sum_of f (suc k) ≡ sum_of f k + f k
unfolding sum_of
sum_next f k = refl

sum_more : (f : ℕ → ℕ) (i k : ℕ) → i ≤ k → sum_of f i ≤ sum_of f k
unfolding sum_of
sum_more f i zero h = let e : i ≡ 0 = omega arith in rw e (omega arith)
sum_more f i (suc k) h = pick (sum_more f i k) (ℕ_discrete i (suc k))
  where
    pick : (i ≤ k → sum_of f i ≤ sum_of f k) → Dec (i ≡ suc k) → sum_of f i ≤ sum_of f k + f k
    pick ih (yes e) = rw e (omega arith)
    pick ih (no n) = let l = ih (omega arith) in omega arith

sum_larger : (f g : ℕ → ℕ) (k : ℕ) → ((j : ℕ) → f j ≤ g j) → sum_of f k ≤ sum_of g k
unfolding sum_of
sum_larger f g zero h = omega arith
sum_larger f g (suc k) h = let l = sum_larger f g k h in let e = h k in omega arith

sum_none : (f : ℕ → ℕ) (k : ℕ) → ((j : ℕ) → f j ≡ 0) → sum_of f k ≡ 0
unfolding sum_of
sum_none f zero h = refl
sum_none f (suc k) h = let l = sum_none f k h in let e = h k in omega arith

sum_before : (f g : ℕ → ℕ) (s k : ℕ) → k ≤ s → ((j : ℕ) → (j ≡ s → ⊥) → g j ≡ f j) → sum_of g k ≡ sum_of f k
unfolding sum_of
sum_before f g s zero h same = refl
sum_before f g s (suc k) h same = let l = sum_before f g s k (omega arith) same in let e = same k (λ q. (omega arith)) in omega arith

sum_one_more : (f g : ℕ → ℕ) (s k : ℕ) → ((j : ℕ) → (j ≡ s → ⊥) → g j ≡ f j) → g s ≤ f s + 1 → sum_of g k ≤ sum_of f k + 1
unfolding sum_of
sum_one_more f g s zero same h = omega arith
sum_one_more f g s (suc k) same h = pick (sum_one_more f g s k same h) (ℕ_discrete k s)
  where
    pick : sum_of g k ≤ sum_of f k + 1 → Dec (k ≡ s) → sum_of g k + g k ≤ sum_of f k + f k + 1
    pick ih (yes q) =
        let l = sum_before f g s k (omega arith) same in
        let e = ap g q in
        let d = ap f q in
        omega arith
    pick ih (no n) = let e = same k n in omega arith

-- a word joined by and has no more bits than either
ones_and : (x y i : ℕ) → ones (bit_and x y) i ≤ ones y i
ones_and x y i = sum_larger (bit (bit_and x y)) (bit y) i (λ j. let e = bit_and_lem x y j in omega arith)

-- one bit set adds at most one
ones_with : (x s i : ℕ) → ones (with_bit x s) i ≤ ones x i + 1
ones_with x s i = sum_one_more (bit x) (bit (with_bit x s)) s i (with_other x s) (let b = bit_lt (with_bit x s) s in omega arith)

pub total_with : (words : List ℕ) (j s k : ℕ) → j < length words → total (set words j (with_bit (get_or words j 0) s)) k ≤ total words k + 1
total_with words j s k h =
    let word : ℕ = with_bit (get_or words j 0) s in
    let same = ap (λ (y : ℕ). ones y 64) (get_or-set_same words j word 0 h) in
    sum_one_more (λ (i : ℕ). ones (get_or words i 0) 64) (λ (i : ℕ). ones (get_or (set words j word) i 0) 64) j k
    (λ i n. ap (λ (y : ℕ). ones y 64) (get_or-set_other words j i word 0 n))
    (let m = ones_with (get_or words j 0) s 64 in omega arith)

pub total_more : (words : List ℕ) (i k : ℕ) → i ≤ k → total words i ≤ total words k
total_more words = sum_more (λ (word : ℕ). ones (get_or words word 0) 64)

-- words that are all zero have none
pub total_none : (words : List ℕ) → ((word : ℕ) → get_or words word 0 ≡ 0) → (k : ℕ) → total words k ≡ 0
total_none words z k =
    sum_none (λ (word : ℕ). ones (get_or words word 0) 64) k (λ word. ap (λ (y : ℕ). ones y 64) (z word) ∙ sum_none (bit 0) 64 bit_zero)

total_next : (words : List ℕ) (k : ℕ) → total words (k + 1) ≡ total words k + ones (get_or words k 0) 64
total_next words k = ap (total words) (add-one k) ∙ sum_next (λ (word : ℕ). ones (get_or words word 0) 64) k

-- a walk's start, its next turn, and room for the bit it is at
pub walk_start : (words : List ℕ) (x word used : ℕ) → bit_and x (get_or words word 0) < 2 ^ 64 → used ≤ total words word
    → Walk (bit_and x (get_or words word 0)) (bit_and x (get_or words word 0)) used (total words (word + 1))
walk_start words x word used h l = record {
  place = 64;
  fits = (let o = ones_and x (get_or words word 0) 64 in let n = total_next words word in omega arith);
  none = λ i m. bit_high (bit_and x (get_or words word 0)) i (lt_of_lt_of_le h (pow_mono m));
  was = λ i e. e;
}

module _ (word left used room s : ℕ) (walk : Walk word left used room) (top : Top left s) where
  lower : s < walk.place
  lower = pick (dec_lt s walk.place)
    where
      pick : Dec (s < walk.place) → s < walk.place
      pick (yes h) = h
      pick (no n) = absurd (let z = walk.none s (omega arith) in let o = top.hit in omega arith)

  -- the bit it is at is one of those below its place
  next : used + 1 + ones word s ≤ room
  next =
      let h = sum_more (bit word) (suc s) walk.place lower in
      let n = sum_next (bit word) s in
      let f = walk.fits in
      let o = walk.was s top.hit in
      omega arith

  pub walk_room : used < room
  walk_room = let h = next in omega arith

  pub walk_on : Walk word (turned left s) (used + 1) room
  walk_on = record {
    place = s;
    fits = next;
    none = λ i m. pick i m (ℕ_discrete i s);
    was = λ i e. kept i e (ℕ_discrete i s);
  }
    where
      pick : (i : ℕ) → s ≤ i → Dec (i ≡ s) → bit (turned left s) i ≡ 0
      pick i m (yes q) = rw q (turned_same left s top.hit)
      pick i m (no n) = turned_other left s i n ∙ top.above i (omega arith)

      kept : (i : ℕ) → bit (turned left s) i ≡ 1 → Dec (i ≡ s) → bit word i ≡ 1
      kept i e (yes q) = walk.was i (rw q top.hit)
      kept i e (no n) = walk.was i (sym (turned_other left s i n) ∙ e)

-- one more place spread
pub spread_more : (places chosen rows : List ℕ) (k place : ℕ) → place / 64 < length chosen → place < length rows → get_or places k 0 ≡ place
    → Spread places k chosen rows
    → Spread places (k + 1) (set chosen (place / 64) (with_bit (get_or chosen (place / 64) 0) (place % 64))) (set rows place (32 * k))
spread_more places chosen rows k place hc hr e old word t l hit = pick (ℕ_discrete (64 * word + t) place) (ℕ_discrete word (place / 64))
  where
    marked : List ℕ
    marked = set chosen (place / 64) (with_bit (get_or chosen (place / 64) 0) (place % 64))

    widen : bit (get_or chosen word 0) t ≡ 1 → (64 * word + t ≡ place → ⊥)
        → (m : ℕ) × (m < k + 1) × (get_or (set rows place (32 * k)) (64 * word + t) 0 ≡ 32 * m) × (get_or places m 0 ≡ 64 * word + t)
    widen f n =
        let r = old word t l f in
        (r.0, (let h = r.1 in omega arith), get_or-set_other rows place (64 * word + t) (32 * k) 0 n ∙ r.2, r.3)

    pick : Dec (64 * word + t ≡ place) → Dec (word ≡ place / 64)
        → (m : ℕ) × (m < k + 1) × (get_or (set rows place (32 * k)) (64 * word + t) 0 ≡ 32 * m) × (get_or places m 0 ≡ 64 * word + t)
    pick (yes q) d =
        (k, omega arith, ap (λ (x : ℕ). get_or (set rows place (32 * k)) x 0) q ∙ get_or-set_same rows place (32 * k) 0 hr, e ∙ sym q)
    pick (no n) (yes q) =
        let g : get_or marked word 0 ≡ with_bit (get_or chosen (place / 64) 0) (place % 64)
        = ap (λ (x : ℕ). get_or marked x 0) q ∙ get_or-set_same chosen (place / 64) _ 0 hc in
        let o : t ≡ place % 64 → ⊥ = λ f. n (omega arith) in
        widen (ap (λ (x : ℕ). bit (get_or chosen x 0) t) q ∙ (sym (with_other (get_or chosen (place / 64) 0) (place % 64) t o) ∙ (ap (λ (x : ℕ). bit x t) (sym g) ∙ hit))) n
    pick (no n) (no d) = widen (ap (λ (x : ℕ). bit x t) (sym (get_or-set_other chosen (place / 64) word _ 0 d)) ∙ hit) n

-- words that are all zero have no bit set, and no place is chosen in them
pub no_bit : (words : List ℕ) → ((word : ℕ) → get_or words word 0 ≡ 0) → (word t : ℕ) → bit (get_or words word 0) t ≡ 1 → ⊥
no_bit words z word t hit = let n = bit_zero t in let m = ap (λ (x : ℕ). bit x t) (z word) in omega arith

pub spread_none : (places : List ℕ) (count : ℕ) (chosen rows : List ℕ) → ((word : ℕ) → get_or chosen word 0 ≡ 0) → Spread places count chosen rows
spread_none places count chosen rows z word t l hit = absurd (no_bit chosen z word t hit)
