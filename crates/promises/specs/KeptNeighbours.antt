-- Document 02, 2026-10: neighbours kept, not searched. What the list of a table says, on any table, in order or not; and of tcam_plan_insert_listed and
-- tcam_carry_out_listed what they return and leave beside the calls without a list.
use Rattle.std.specs.Prelude.{◌≡◌, Bool, true, false, ◌↔◌, List, [], ◌∷◌, ◌++◌, map, ℕ, ◌+◌, ◌*◌, ◌≤◌, ◌<◌, length, get_or}
use Rattle.records.specs.Record.{slot_words, occupied}
use Rattle.records.specs.Order.{slots}
use Rattle.neighbour_lists.specs.Lists.{list_of}
use Rattle.insert_plans.specs.Tables.{Symbol, nought, one, star, line, held, vacancy}
use Rattle.refusals.specs.Calls.{OneId, Precedes, listed_insert_call_rows, listed_step_call_rows}
use Rattle.tcam.specs.declared.carry.Progress.{Progress}
use Rattle.tcam.specs.Carried.{CarryLeft}
use Rattle.tcam.specs.ListedCarried.{ListedCarryLeft}
use Rattle.tcam.specs.Cells.{InsertLeft, CoverLeft, ListedInsertLeft, ListDeclined}
use Rattle.promises.specs.Calls.{wrote_result}
use Rattle.promises.specs.FirstDemand.{DeclinesBy, CarriesBy, IsRefusal}

-- slot j is that of the nearest dependant of slot i's rule after it; or there is none
pub record DependantAt (w : ℕ) (u : Bool) (t : List ℕ) (i j : ℕ) : Type 0 where
  pub inside : j < slots w t
  pub after : i < j
  pub depends : Precedes w u (slot_words w t i) (slot_words w t j)
  pub nearest : (k : ℕ) → i < k → k < j → Precedes w u (slot_words w t i) (slot_words w t k) → ⊥

abbrev pub NoDependant : ℕ → Bool → List ℕ → ℕ → Type 0
NoDependant w u t i = (k : ℕ) → i < k → k < slots w t → Precedes w u (slot_words w t i) (slot_words w t k) → ⊥

-- slot j is that of the nearest rule before slot i's that precedes it; or there is none
pub record PrecedingAt (w : ℕ) (u : Bool) (t : List ℕ) (i j : ℕ) : Type 0 where
  pub before : j < i
  pub precedes : Precedes w u (slot_words w t j) (slot_words w t i)
  pub nearest : (k : ℕ) → j < k → k < i → Precedes w u (slot_words w t k) (slot_words w t i) → ⊥

abbrev pub NonePreceding : ℕ → Bool → List ℕ → ℕ → Type 0
NonePreceding w u t i = (k : ℕ) → k < i → Precedes w u (slot_words w t k) (slot_words w t i) → ⊥

-- A table's neighbour list: two numbers per slot, its nearest dependant's slot after it and its nearest preceding rule's before it, or 65,535.
pub record NeighbourList (w : ℕ) (u : Bool) (t list : List ℕ) : Type 0 where
  pub size : length list ≡ 2 * slots w t
  pub dependant : (i j : ℕ) → i < slots w t → ((j < slots w t) × (get_or list (2 * i) 0 ≡ j)) ↔ DependantAt w u t i j
  pub no_dependant : (i : ℕ) → i < slots w t → (get_or list (2 * i) 0 ≡ 65535) ↔ NoDependant w u t i
  pub preceding : (i j : ℕ) → i < slots w t → ((j < slots w t) × (get_or list (2 * i + 1) 0 ≡ j)) ↔ PrecedingAt w u t i j
  pub none_preceding : (i : ℕ) → i < slots w t → (get_or list (2 * i + 1) 0 ≡ 65535) ↔ NonePreceding w u t i

-- a reply says, by 1 and not 0, that the list was not the table's at the call's start
abbrev pub SaysFresh : ℕ → Bool → List ℕ → List ℕ → ℕ → Type 0
SaysFresh w u t list cell = ((cell ≡ 1) ↔ (list ≡ list_of w u t → ⊥)) × ((cell ≡ 0) ↔ (list ≡ list_of w u t))

-- Planning an insert with a list: what it returns and leaves, before and after.
pub record InsertListed (w : ℕ) (u : Bool) (e : ℕ) (t rule list list' : List ℕ) (result : ℕ) (plan after : List ℕ)
    (count count' covered covered' refreshed refreshed' spot spot' : ℕ) : Type 0 where
  -- "Plans from the list equal plans without it": with a list of the table's length, right or not, number, spot, plan, count and covering slot are those
  -- of the call without one, and with them demands 1 to 3
  pub same : length list ≡ 2 * slots w t
      → InsertLeft w u e t rule result plan after count count' spot spot' × CoverLeft w u e t rule (length plan) covered covered'
  -- "One of another length is SHAPE": 1, spot 0, and all else as it was
  pub other : (length list ≡ 2 * slots w t → ⊥) → ListDeclined list list' result plan after count count' covered covered' refreshed refreshed' spot'
  -- "A list that doesn't agree with the table at the call's start is worked out afresh and the reply says so": where a plan is given
  pub listed : result ≡ 0 → (list' ≡ list_of w u t) × SaysFresh w u t list refreshed'
  -- a declined call leaves the list alone, and whatever else it is lent
  pub kept : IsRefusal result → (list' ≡ list) × (refreshed' ≡ refreshed) × (after ≡ plan) × (count' ≡ count) × (covered' ≡ covered)
  -- it declines by its rows, those of the call without a list with the list's length in 1
  pub declines : DeclinesBy (listed_insert_call_rows w u e t rule (length list) (length plan)) result spot'

-- Carrying out with a list: the same, with the cell that says whether the list was worked out afresh.
pub record CarryListed (w : ℕ) (u : Bool) (e : ℕ) (t plan rule list : List ℕ) (progress : Progress) (cell result : ℕ) (after list' : List ℕ)
    (progress' : Progress) (cell' : ℕ) : Type 0 where
  -- with a list of the table's length, right or not, what the call without one returns and leaves: FirstDemand and SecondDemand speak of it
  pub same : length list ≡ 2 * slots w t → CarryLeft w e t plan rule progress result after progress'
  -- one of another length is SHAPE: 1 with spot 0, and all else as it was
  pub other : (length list ≡ 2 * slots w t → ⊥)
      → (result ≡ 1) × (after ≡ t) × (list' ≡ list) × (progress'.done ≡ progress.done) × (progress'.total ≡ progress.total) × (cell' ≡ cell)
  -- "After each write the list is brought up to date and equals one worked out from the whole table"; the reply speaks of the table before the write
  pub listed : result ≡ wrote_result → (list' ≡ list_of w u after) × SaysFresh w u t list cell'
  -- a declined call, or the answer "finished", leaves the list alone; the cell, the table and the record too
  pub kept : (result ≡ wrote_result → ⊥)
      → (list' ≡ list) × (cell' ≡ cell) × (after ≡ t) × (progress'.done ≡ progress.done) × (progress'.total ≡ progress.total)
  -- it declines by its rows, as the call without a list with the list's length in 1
  pub declines : CarriesBy (listed_step_call_rows w e t plan rule (length list) progress.done progress.total) progress result

-- a list as a call left it, and the table that it left it for: planning that gave a plan, or a write that was made
pub data LeftFor (w : ℕ) (u : Bool) : List ℕ → List ℕ → Type 0 where
  planned : (e : ℕ) (t rule list list' plan after : List ℕ) (count count' covered covered' refreshed refreshed' spot spot' : ℕ)
      → ListedInsertLeft w u e t rule list list' 0 plan after count count' covered covered' refreshed refreshed' spot spot' → LeftFor w u t list'
  wrote : (e : ℕ) (t plan rule list : List ℕ) (progress : Progress) (cell : ℕ) (after list' : List ℕ) (progress' : Progress) (cell' : ℕ)
      → ListedCarryLeft w u e t plan rule list progress cell wrote_result after list' progress' cell' → LeftFor w u after list'

-- w is the width that the calls name; u whether they name the table as uncounted, which decides which rules precede which
pub record KeptNeighbours (w : ℕ) (u : Bool) : Type 0 where
  -- a list is the table's exactly where it says this, on any table of at most 1,024 slots: out of order, with ties, with ids in two slots or more
  pub numbers : (t list : List ℕ) → slots w t ≤ 1024 → (list ≡ list_of w u t) ↔ NeighbourList w u t list
  -- an empty slot has 65,535 twice
  pub vacant : (t : List ℕ) → slots w t ≤ 1024 → (i : ℕ) → i < slots w t → occupied w (slot_words w t i) ≡ false
      → (get_or (list_of w u t) (2 * i) 0 ≡ 65535) × (get_or (list_of w u t) (2 * i + 1) 0 ≡ 65535)
  -- "Where a rule stands twice its own copies are skipped": neither number of a slot is a slot of its own id
  pub copies : (t : List ℕ) → slots w t ≤ 1024 → (i j : ℕ) → i < slots w t → j < slots w t → OneId w (slot_words w t i) (slot_words w t j)
      → (get_or (list_of w u t) (2 * i) 0 ≡ j → ⊥) × (get_or (list_of w u t) (2 * i + 1) 0 ≡ j → ⊥)
  -- the two calls, on any table and list
  pub insert : (e : ℕ) (t rule list list' : List ℕ) (result : ℕ) (plan after : List ℕ) (count count' covered covered' refreshed refreshed' spot spot' : ℕ)
      → ListedInsertLeft w u e t rule list list' result plan after count count' covered covered' refreshed refreshed' spot spot'
      → InsertListed w u e t rule list list' result plan after count count' covered covered' refreshed refreshed' spot spot'
  pub carry : (e : ℕ) (t plan rule list : List ℕ) (progress : Progress) (cell result : ℕ) (after list' : List ℕ) (progress' : Progress) (cell' : ℕ)
      → ListedCarryLeft w u e t plan rule list progress cell result after list' progress' cell'
      → CarryListed w u e t plan rule list progress cell result after list' progress' cell'
  -- a list that a call left is the table's, so that the next call on that table with it, planning or carrying out, says 0, where the table is named alike: 1
  -- tells that something else has changed, table, list or flag
  pub left_own : (t list : List ℕ) → LeftFor w u t list → list ≡ list_of w u t
  pub next_insert : (t list : List ℕ) → LeftFor w u t list
      → (e : ℕ) (rule list' plan after : List ℕ) (count count' covered covered' refreshed refreshed' spot spot' : ℕ)
      → ListedInsertLeft w u e t rule list list' 0 plan after count count' covered covered' refreshed refreshed' spot spot' → refreshed' ≡ 0
  pub next_carry : (t list : List ℕ) → LeftFor w u t list
      → (e : ℕ) (plan rule : List ℕ) (progress : Progress) (cell : ℕ) (after list' : List ℕ) (progress' : Progress) (cell' : ℕ)
      → ListedCarryLeft w u e t plan rule list progress cell wrote_result after list' progress' cell' → cell' ≡ 0

-- a table, named as uncounted or not, and the list that is to be its own
pub record TableAndList : Type 0 where
  pub uncounted : Bool
  pub table : List ℕ
  pub list : List ℕ

module _ (w : ℕ) where
  abbrev none : ℕ
  none = 65535

  abbrev pub slot : ℕ → ℕ → List Symbol → List ℕ
  slot id rank pattern = held w (line w id rank pattern 7)

  -- three rules that overlap, the first two of one action
  abbrev pub alike : List ℕ
  alike = slot 1 30 (one ∷ []) ++ slot 2 20 (one ∷ []) ++ held w (line w 3 10 (one ∷ []) 8)

  unfoldable pub listed_tables : List TableAndList
  listed_tables =
      let r1 = slot 1 40 (star ∷ nought ∷ []) in
      let r2 = slot 2 10 (nought ∷ one ∷ []) in
      let r3 = slot 3 30 (one ∷ []) in
      let r4 = slot 4 20 (one ∷ one ∷ []) in
      let r5 = slot 5 50 (nought ∷ nought ∷ []) in
      -- five slots; and after each write of a plan that puts in the fifth rule: 1→4, 0→1, new→0
      record { uncounted = false; table = r1 ++ r2 ++ r3 ++ r4 ++ vacancy w; list = 2 ∷ none ∷ none ∷ none ∷ 3 ∷ 0 ∷ none ∷ 2 ∷ none ∷ none ∷ [] }
      ∷ record { uncounted = false; table = r1 ++ r2 ++ r3 ++ r4 ++ r2; list = 2 ∷ none ∷ none ∷ none ∷ 3 ∷ 0 ∷ none ∷ 2 ∷ none ∷ none ∷ [] }
      ∷ record { uncounted = false; table = r1 ++ r1 ++ r3 ++ r4 ++ r2; list = 2 ∷ none ∷ 2 ∷ none ∷ 3 ∷ 1 ∷ none ∷ 2 ∷ none ∷ none ∷ [] }
      ∷ record { uncounted = false; table = r5 ++ r1 ++ r3 ++ r4 ++ r2; list = 1 ∷ none ∷ 2 ∷ 0 ∷ 3 ∷ 1 ∷ none ∷ 2 ∷ none ∷ none ∷ [] }
      -- a tie and a pair out of order
      ∷ record { uncounted = false; table = slot 1 20 (one ∷ []) ++ slot 2 20 (one ∷ []) ++ slot 3 30 (one ∷ []) ++ slot 4 10 (one ∷ []); list = 3 ∷ none ∷ 3 ∷ none ∷ 3 ∷ none ∷ none ∷ 2 ∷ [] }
      -- one id in two slots, with two ranks
      ∷ record { uncounted = false; table = slot 1 30 (one ∷ []) ++ slot 1 20 (one ∷ []) ++ slot 2 10 (one ∷ []) ++ vacancy w; list = 2 ∷ none ∷ 2 ∷ none ∷ none ∷ 1 ∷ none ∷ none ∷ [] }
      -- one table under either flag
      ∷ record { uncounted = false; table = alike; list = 1 ∷ none ∷ 2 ∷ 0 ∷ none ∷ 1 ∷ [] }
      ∷ record { uncounted = true; table = alike; list = 2 ∷ none ∷ 2 ∷ none ∷ none ∷ 1 ∷ [] }
      ∷ []

-- each table's list, worked out, and as it is to be
abbrev pub WorkedLists : ℕ → Type 0
WorkedLists w = map (λ (x : TableAndList). list_of w x.uncounted x.table) (listed_tables w) ≡ map (λ (x : TableAndList). x.list) (listed_tables w)
