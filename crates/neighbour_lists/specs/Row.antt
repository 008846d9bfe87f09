-- One row of the pass: slot j against the slots before it, in blocks of 64 going down, the highest bit of a word first.
-- A slot is behind the walk once it has been asked, or dropped because it is empty, told apart, or settled.
use Rattle.std.specs.Prelude.{◌≡◌, Bool, true, false, not, cond, ◌⊎◌, List, ℕ, zero, suc, ◌+◌, ◌-◌, ◌*◌, ◌/◌, ◌%◌, ◌<◌, ◌≤◌, eqb, leb, get_or, set}
use Rattle.ternary.specs.Bit.{bit}
use Rattle.bitmaps.specs.Flags.{cleared}
use Rattle.bitmaps.specs.Rows.{gathered}
use Rattle.neighbour_lists.specs.Lists.{last_below}

-- a number kept, where there is none yet
unfoldable pub keep : ℕ → ℕ → ℕ
keep old new = cond (eqb old 65535) new old

-- the first of k indices from a start at which p holds, 65,535 for none, as a walk upward keeps it
unfoldable pub first_seen : (ℕ → Bool) → ℕ → ℕ → ℕ
first_seen p from zero = 65535
first_seen p from (suc k) = cond (p (from + k)) (keep (first_seen p from k) (from + k)) (first_seen p from k)

-- 1 where slot i is behind the walk: in a later block, or in block b with its bit not left; else 0
unfoldable pub stage : ℕ → ℕ → ℕ → ℕ
stage b left i = cond (leb (64 * (b + 1)) i) 1 (cond (leb (64 * b) i) (1 - bit left (i - 64 * b)) 0)

-- the list after a pair is asked: both numbers kept where slot i precedes slot j
unfoldable pub next_kept : List ℕ → ℕ → ℕ → List ℕ
next_kept near i j = set near (2 * i) (keep (get_or near (2 * i) 0) j)

unfoldable pub both_kept : List ℕ → ℕ → ℕ → List ℕ
both_kept near i j = set (next_kept near i j) (2 * j + 1) (keep (get_or (next_kept near i j) (2 * j + 1) 0) i)

unfoldable pub asked : Bool → List ℕ → ℕ → ℕ → List ℕ
asked precedes near i j = cond precedes (both_kept near i j) near

-- the free slots after a pair is asked: slot i has a dependant now
unfoldable pub closed : List ℕ → List ℕ → ℕ → List ℕ
closed near free i = cond (eqb (get_or near (2 * i) 0) 65535) (set free (i / 64) (cleared (get_or free (i / 64) 0) (i % 64))) free

unfoldable pub asked_free : Bool → List ℕ → List ℕ → ℕ → List ℕ
asked_free precedes near free i = cond precedes (closed near free i) free

-- the slots of a block that are to be asked
unfoldable pub needed_bits : List ℕ → List ℕ → List ℕ → List ℕ → ℕ → ℕ → ℕ → ℕ
needed_bits near full free low b j rank =
    cond (eqb (get_or near (2 * j + 1) 0) 65535) (get_or full b 0) (cond (leb (get_or low b 0) rank) (get_or full b 0) (get_or free b 0))

-- whether a pair has nothing left to tell: slot j has its preceding slot, slot i its dependant, and their ranks fall
unfoldable pub settled_pair : List ℕ → ℕ → ℕ → ℕ → ℕ → Bool
settled_pair near i j high rank =
    cond (eqb (get_or near (2 * j + 1) 0) 65535) false (cond (leb high rank) false (not (eqb (get_or near (2 * i) 0) 65535)))

-- no slot behind precedes slot j, or slot j has its last preceding slot
abbrev pub NoneYet : (ℕ → ℕ → Bool) → List ℕ → ℕ → ℕ → ℕ → Type 0
NoneYet prec near j b left = (get_or near (2 * j + 1) 0 ≡ 65535) × ((i : ℕ) → i < j → stage b left i ≡ 1 → prec i j ≡ false)

abbrev pub LastIs : (ℕ → ℕ → Bool) → List ℕ → ℕ → Type 0
LastIs prec near j =
    (get_or near (2 * j + 1) 0 < j) × (prec (get_or near (2 * j + 1) 0) j ≡ true)
    × ((i : ℕ) → get_or near (2 * j + 1) 0 < i → i < j → prec i j ≡ false)

-- a slot is out of order with slot j, or none behind is
abbrev pub OutOfOrder : (ℕ → ℕ → Bool) → ℕ → Type 0
OutOfOrder mis j = (i : ℕ) × (i < j) × (mis i j ≡ true)

abbrev pub InOrderBehind : (ℕ → ℕ → Bool) → ℕ → ℕ → ℕ → Type 0
InOrderBehind mis j b left = (i : ℕ) → i < j → stage b left i ≡ 1 → mis i j ≡ false

-- what is known within row j, at block b with the bits left
pub record InRow (prec mis : ℕ → ℕ → Bool) (near : List ℕ) (j b left : ℕ) (bad : Bool) : Type 0 where
  pub next : (i : ℕ) → i < j → get_or near (2 * i) 0 ≡ first_seen (prec i) (i + 1) (j - (i + 1) + stage b left i)
  pub last : NoneYet prec near j b left ⊎ LastIs prec near j
  pub order : ((bad ≡ true) × OutOfOrder mis j) ⊎ ((bad ≡ false) × InOrderBehind mis j b left)
  pub known : (i : ℕ) → i < j → get_or near (2 * i + 1) 0 ≡ last_below (λ (k : ℕ). prec k i) i

-- a slot that need not be asked: it is in order with slot j, and it does not precede it, or both numbers that it could give are there
abbrev pub Quiet : (ℕ → ℕ → Bool) → (ℕ → ℕ → Bool) → List ℕ → ℕ → ℕ → Type 0
Quiet prec mis near j i =
    (mis i j ≡ false) × ((prec i j ≡ false) ⊎ ((get_or near (2 * i) 0 ≡ 65535 → ⊥) × (get_or near (2 * j + 1) 0 ≡ 65535 → ⊥)))

-- of some slots of block b, quiet ones are dropped
pub record Skipped (prec mis : ℕ → ℕ → Bool) (near : List ℕ) (j b some left : ℕ) : Type 0 where
  pub fewer : left ≤ some
  pub among : (s : ℕ) → bit some s ≡ 0 → bit left s ≡ 0
  pub quiet : (s : ℕ) → bit some s ≡ 1 → bit left s ≡ 0 → Quiet prec mis near j (64 * b + s)

-- what the words for each block say of the slots before slot j: those that hold rules, those of them without a dependant yet, and
-- numbers that the ranks of a block's rules are not below
pub record Marks (rank : ℕ → ℕ) (held : ℕ → Bool) (near full free low : List ℕ) (j : ℕ) : Type 0 where
  pub inside : (b s : ℕ) → bit (get_or full b 0) s ≡ 1 → 64 * b + s < j
  pub vacant : (b s : ℕ) → s < 64 → bit (get_or full b 0) s ≡ 0 → 64 * b + s < j → held (64 * b + s) ≡ false
  pub within : (b s : ℕ) → bit (get_or free b 0) s ≡ 1 → 64 * b + s < j
  pub listed : (b s : ℕ) → s < 64 → bit (get_or full b 0) s ≡ 1 → bit (get_or free b 0) s ≡ 0 → get_or near (2 * (64 * b + s)) 0 ≡ 65535 → ⊥
  pub lowest : (b s : ℕ) → s < 64 → bit (get_or full b 0) s ≡ 1 → get_or low b 0 ≤ rank (64 * b + s)

-- how the tests of a pair hang together: a higher rank before a lower one is in order, and an empty slot is neither out of order nor precedes
pub record Pairing (prec mis : ℕ → ℕ → Bool) (rank : ℕ → ℕ) (held : ℕ → Bool) : Type 0 where
  pub falling : (i j : ℕ) → rank j < rank i → mis i j ≡ false
  pub empty : (i j : ℕ) → held i ≡ false → (prec i j ≡ false) × (mis i j ≡ false)

-- what the rows tell apart from slot j neither precedes it nor is out of order with it
abbrev pub Tells : (ℕ → ℕ → Bool) → (ℕ → ℕ → Bool) → List ℕ → List ℕ → ℕ → ℕ → Type 0
Tells prec mis maps rows used j =
    (b s : ℕ) → b < 16 → s < 64 → bit (gathered maps rows b used) s ≡ 1 → (prec (64 * b + s) j ≡ false) × (mis (64 * b + s) j ≡ false)

-- each bit that is left is a slot before slot j
abbrev pub Inside : ℕ → ℕ → ℕ → Type 0
Inside j b left = (s : ℕ) → bit left s ≡ 1 → 64 * b + s < j
