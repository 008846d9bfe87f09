-- What the exported calls that look up and plan leave: their result, the plan buffer and the lent cells, before and after.
-- The answers and the plans are the table library's; a key crosses as lent words, a rule as a lent record.
use Rattle.std.specs.Prelude.{◌≡◌, Bool, ℕ, length, List}
use Rattle.records.specs.Record.{word, slot_words, ident, action}
use Rattle.records.specs.Checks.{Told}
use Rattle.records.specs.Editions.{lent_rule, ranked}
use Rattle.lookups.specs.Lookup.{lookup_call, FirstAt, NoMatch}
use Rattle.neighbour_lists.specs.Lists.{list_numbers}
use Rattle.delete_plans.specs.Deletes.{delete_call, delete_call_plan}
use Rattle.insert_plans.specs.Inserts.{insert_call, insert_call_plan, insert_call_reply}
use Rattle.insert_plans.specs.ListedInserts.{listed_insert_reply, listed_insert_plan, listed_insert_list}
use Rattle.insert_plans.specs.Insertable.{InsertableCall}
use Rattle.insert_plans.specs.Demand3.{Demand3}
use Rattle.marshalling.specs.Cells.{data_cell, spot_cell}

-- What a lookup leaves: its result, the cells for slot, id and action and the one for a refusal's spot, before and after.
pub record LookupLeft (w : ℕ) (t key : List ℕ) (result slot slot' id id' action action' spot spot' : ℕ) : Type 0 where
  pub number : result ≡ (lookup_call w t key).number
  pub slotted : slot' ≡ data_cell (lookup_call w t key) 0 slot
  pub named : id' ≡ data_cell (lookup_call w t key) 1 id
  pub acted : action' ≡ data_cell (lookup_call w t key) 2 action
  pub spotted : spot' ≡ spot_cell (lookup_call w t key) spot

-- What a lookup that returns 0 leaves in the cells for slot, id and action: those of the lowest slot that matches, whose id is not 0 ..
pub record HitCells (w : ℕ) (t key : List ℕ) (slot id did : ℕ) : Type 0 where
  pub first : FirstAt w t (word key) slot
  pub named : id ≡ ident w (slot_words w t slot)
  pub acted : did ≡ action w (slot_words w t slot)
  pub some : id ≡ 0 → ⊥

-- .. or 0 in all three, where no slot matches: so id 0 tells a miss
pub record MissCells (w : ℕ) (t key : List ℕ) (slot id did : ℕ) : Type 0 where
  pub none : NoMatch w t (word key)
  pub slot_zero : slot ≡ 0
  pub id_zero : id ≡ 0
  pub did_zero : did ≡ 0

-- What a planning call leaves: its result, the plan buffer and the two cells, before and after; told is its answer.
pub record PlanLeft (told : Told) (planned : List ℕ) (result : ℕ) (after : List ℕ) (count count' spot spot' : ℕ) : Type 0 where
  pub number : result ≡ told.number
  pub plan : after ≡ planned
  pub counted : count' ≡ data_cell told 0 count
  pub spotted : spot' ≡ spot_cell told spot

-- an insert, whose rule is given with the edition e; demand 3 of it too
pub record InsertLeft (w : ℕ) (u : Bool) (e : ℕ) (t rule : List ℕ) (result : ℕ) (plan after : List ℕ) (count count' spot spot' : ℕ) : Type 0 where
  pub left : PlanLeft (insert_call w u e t rule (length plan)) (insert_call_plan w u e t rule plan) result after count count' spot spot'
  pub shortest : InsertableCall w u e t rule → Demand3 w u t (ranked w (lent_rule w e rule)) (insert_call w u e t rule (length plan)) plan after

-- and in the cell for the slot of the rule that covers the new one (document 02, 2026-05), the second value of a success
abbrev pub CoverLeft : ℕ → Bool → ℕ → List ℕ → List ℕ → ℕ → ℕ → ℕ → Type 0
CoverLeft w u e t rule room covered covered' = covered' ≡ data_cell (insert_call_reply w u e t rule room) 1 covered

-- an insert with a neighbour list lent (document 02, 2026-10): the cell for whether the list was worked out afresh too, and the list; demand 3 with a list of the
-- table's length
pub record ListedInsertLeft (w : ℕ) (u : Bool) (e : ℕ) (t rule list list' : List ℕ) (result : ℕ) (plan after : List ℕ)
    (count count' covered covered' refreshed refreshed' spot spot' : ℕ) : Type 0 where
  pub left : PlanLeft (listed_insert_reply w u e t rule list (length plan)) (listed_insert_plan w u e t rule (length list) plan) result after count count' spot spot'
  pub covered_told : covered' ≡ data_cell (listed_insert_reply w u e t rule list (length plan)) 1 covered
  pub refreshed_told : refreshed' ≡ data_cell (listed_insert_reply w u e t rule list (length plan)) 2 refreshed
  pub listed : list' ≡ listed_insert_list w u e t rule list (length plan)
  pub shortest : length list ≡ list_numbers w t → InsertableCall w u e t rule
      → Demand3 w u t (ranked w (lent_rule w e rule)) (insert_call w u e t rule (length plan)) plan after

-- what it leaves where it declines the list: its result and the spot, and all else as it was
pub record ListDeclined (list list' : List ℕ) (result : ℕ) (plan after : List ℕ) (count count' covered covered' refreshed refreshed' spot' : ℕ) : Type 0 where
  pub number : result ≡ 1
  pub spotted : spot' ≡ 0
  pub planned : after ≡ plan
  pub kept : list' ≡ list
  pub counted : count' ≡ count
  pub covered_kept : covered' ≡ covered
  pub refreshed_kept : refreshed' ≡ refreshed

-- a delete
abbrev pub DeleteLeft : ℕ → Bool → List ℕ → ℕ → ℕ → List ℕ → List ℕ → ℕ → ℕ → ℕ → ℕ → Type 0
DeleteLeft w u t id result plan after = PlanLeft (delete_call w u t id (length plan)) (delete_call_plan w u t id plan) result after
