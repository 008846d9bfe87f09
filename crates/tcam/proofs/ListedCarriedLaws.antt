-- End theorems on carrying out with a neighbour list from C: with a list of the table's length the call leaves what the one without a list leaves; with another it
-- returns 1 and leaves everything as it was.
use Rattle.std.specs.Prelude.{◌≡◌, Bool, List, ℕ, length}
use Rattle.records.proofs.WidthsLaws.{words_law, words_refused}
use Rattle.neighbour_lists.specs.Lists.{list_numbers}
use Rattle.tcam.specs.declared.carry.Progress.{Progress}
use Rattle.tcam.specs.Carried.{CarryLeft}
use Rattle.tcam.specs.ListedCarried.{ListedCarryLeft}

module _ (w : ℕ) (u : Bool) (e : ℕ) (t plan rule list : List ℕ) (progress : Progress) (cell result : ℕ) (after list' : List ℕ) (progress' : Progress) (cell' : ℕ)
    (left : ListedCarryLeft w u e t plan rule list progress cell result after list' progress' cell') where
  -- a list of the table's length
  pub listed_carry : length list ≡ list_numbers w t → CarryLeft w e t plan rule progress result after progress'
  listed_carry size =
      let is = (words_law (length list) (list_numbers w t)).1 size in record {
        told = rw is at left.told;
        table = rw is at left.table;
        advanced = rw is at left.advanced;
        in_all = left.in_all;
      }

  -- a list of another length
  pub other_list : (length list ≡ list_numbers w t → ⊥)
      → (result ≡ 1) × (after ≡ t) × (list' ≡ list) × (progress'.done ≡ progress.done) × (progress'.total ≡ progress.total) × (cell' ≡ cell)
  other_list other =
      let is = words_refused (length list) (list_numbers w t) other in
      (rw is at left.told, rw is at left.table, rw is at left.listed, rw is at left.advanced, left.in_all, rw is at left.refreshed)
