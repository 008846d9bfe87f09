-- Document 01, demand 1: no refused call changes a table, plan, image or progress record; each refusal has one number and one condition.
-- That no call indexes outside its buffers, wraps a sum or runs on is what the checker proves of every function.
use Rattle.std.specs.Prelude.{◌≡◌, Bool, ◌↔◌, ◌⊎◌, List, [], ◌∷◌, map, ℕ, ◌+◌, ◌%◌, ◌/◌, length, get_or}
use Rattle.records.specs.Writes.{apply_word}
use Rattle.script_printing.specs.Printing.{Shown}
use Rattle.script_printing.specs.PrintedLines.{printed}
use Rattle.records.specs.Checks.{cause_number}
use Rattle.records.specs.Editions.{lent_rule, ranked}
use Rattle.records.specs.declared.Cause.{Cause}
use Rattle.records.specs.declared.Cause.TheVariants.{Shape, Record, Twice, Order, Rule as RuleCause, Known, Unknown, Tie, Full, Crossed, Short, Write, Line, Image}
use Rattle.records.specs.declared.Cause.TheVariants.{Uncrossed, Plan, Damage, Edition, Open, Session, Absent, Room}
use Rattle.refusals.specs.Rows.{Row, Declines, Accepts}
use Rattle.refusals.specs.Calls.{lookup_call_rows, insert_call_rows, delete_call_rows, save_call_rows, step_call_rows, load_call_rows}
use Rattle.refusals.specs.Lines.{line_rows}
use Rattle.script_commands.specs.Commands.{command_of}
use Rattle.script_operations.specs.declared.LineAnswer.TheVariants.{Refused}
use Rattle.script_operations.specs.Told.{line_told}
use Rattle.script.specs.declared.Ran.{Ran}
use Rattle.script.specs.Script.{table_in, line_outcome, Left}
use Rattle.script.specs.Told.{command_told}
use Rattle.tcam.specs.declared.carry.Progress.{Progress}
use Rattle.tcam.specs.Carried.{CarryLeft}
use Rattle.tcam.specs.Cells.{LookupLeft, InsertLeft, DeleteLeft}
use Rattle.tcam.specs.Images.{SaveLeft, LoadLeft}
use Rattle.promises.specs.Calls.{wrote_result, finished_result}

-- A call declines by its list of rows: it returns a cause's number and names a spot exactly when the rows before do not hold and the cause's own does,
-- with that spot; it returns 0 exactly when none holds; and it returns nothing else.
pub record DeclinesBy (rows : List Row) (number spot : ℕ) : Type 0 where
  pub either : (number ≡ 0) ⊎ ((cause : Cause) × (number ≡ cause_number cause))
  pub refused : (cause : Cause) (place : ℕ) → ((number ≡ cause_number cause) × (spot ≡ place)) ↔ Declines rows cause place
  pub accepted : (number ≡ 0) ↔ Accepts rows

-- The same of carrying out, whose result holds number and spot together.
pub record CarriesBy (rows : List Row) (progress : Progress) (result : ℕ) : Type 0 where
  pub refused : (cause : Cause) (place : ℕ)
      → ((result % 4294967296 ≡ cause_number cause) × (result / 4294967296 ≡ place)) ↔ Declines rows cause place
  pub accepted : ((result ≡ wrote_result) ⊎ (result ≡ finished_result)) ↔ Accepts rows
  pub finished : (result ≡ finished_result) ↔ (Accepts rows × (progress.done ≡ progress.total))

-- a call is refused: it returns another number than 0
abbrev pub IsRefusal : ℕ → Type 0
IsRefusal result = result ≡ 0 → ⊥

pub record FirstDemand : Type 0 where
  -- each refusal has one number: document 01's, 1 to 14, and document 02's, 15 to 22, and no two causes have the same
  pub numbers : map cause_number (Shape ∷ Record ∷ Twice ∷ Order ∷ RuleCause ∷ Known ∷ Unknown ∷ Tie ∷ Full ∷ Crossed ∷ Short ∷ Write ∷ Line ∷ Image ∷ [])
      ≡ 1 ∷ 2 ∷ 3 ∷ 4 ∷ 5 ∷ 6 ∷ 7 ∷ 8 ∷ 9 ∷ 10 ∷ 11 ∷ 12 ∷ 13 ∷ 14 ∷ []
  pub later_numbers : map cause_number (Uncrossed ∷ Plan ∷ Damage ∷ Edition ∷ Open ∷ Session ∷ Absent ∷ Room ∷ [])
      ≡ 15 ∷ 16 ∷ 17 ∷ 18 ∷ 19 ∷ 20 ∷ 21 ∷ 22 ∷ []
  pub once : (cause other : Cause) → cause_number cause ≡ cause_number other → cause ≡ other
  -- the calls that only read a table decline by their rows, and a refusal leaves what they are lent: at every width and with every
  -- edition that a call may name, known or not, and however it names the table, counted or uncounted; an insert's cell for the covering slot: Obscured; the
  -- calls that are lent a neighbour list: KeptNeighbours
  pub lookup : (w : ℕ) (t key : List ℕ) (result slot slot' id id' action action' spot spot' : ℕ)
      → LookupLeft w t key result slot slot' id id' action action' spot spot'
      → DeclinesBy (lookup_call_rows w t key) result spot' × (IsRefusal result → (slot' ≡ slot) × (id' ≡ id) × (action' ≡ action))
  pub insert : (w : ℕ) (u : Bool) (e : ℕ) (t rule : List ℕ) (result : ℕ) (plan after : List ℕ) (count count' spot spot' : ℕ)
      → InsertLeft w u e t rule result plan after count count' spot spot'
      → DeclinesBy (insert_call_rows w u e t rule (length plan)) result spot' × (IsRefusal result → (after ≡ plan) × (count' ≡ count))
  pub delete : (w : ℕ) (u : Bool) (t : List ℕ) (id result : ℕ) (plan after : List ℕ) (count count' spot spot' : ℕ)
      → DeleteLeft w u t id result plan after count count' spot spot'
      → DeclinesBy (delete_call_rows w u t id (length plan)) result spot' × (IsRefusal result → (after ≡ plan) × (count' ≡ count))
  pub save : (w : ℕ) (u : Bool) (t : List ℕ) (result : ℕ) (image after : List ℕ) (bytes bytes' spot spot' : ℕ)
      → SaveLeft w u t result image after bytes bytes' spot spot'
      → DeclinesBy (save_call_rows w u t (length image)) result spot' × (IsRefusal result → (after ≡ image) × (bytes' ≡ bytes))
  -- a load
  pub load : (w : ℕ) (u : Bool) (b : List ℕ) (result : ℕ) (t after : List ℕ) (spot spot' : ℕ) → LoadLeft w u b result t after spot spot'
      → DeclinesBy (load_call_rows w u b t) result spot' × (IsRefusal result → after ≡ t)
  -- carrying out: number and spot are the halves of its result. Where it does not write, a refusal or "finished", the table and the record are as they
  -- were; "finished" it returns exactly where nothing is refused and all writes are done. Where it writes, it makes the next write of the plan and no other,
  -- and one write more is done
  pub carry : (w e : ℕ) (t plan rule : List ℕ) (progress : Progress) (result : ℕ) (after : List ℕ) (progress' : Progress)
      → CarryLeft w e t plan rule progress result after progress' → CarriesBy (step_call_rows w e t plan rule progress.done progress.total) progress result
      × ((result ≡ wrote_result → ⊥) → (after ≡ t) × (progress'.done ≡ progress.done) × (progress'.total ≡ progress.total))
      × (result ≡ wrote_result
      → (after ≡ apply_word w t (ranked w (lent_rule w e rule)) (get_or plan progress.done 0)) × (progress'.done ≡ progress.done + 1) × (progress'.total ≡ progress.total))
  -- a script line, on the table that the memory holds: a refused one leaves the memory and its table, and prints `R number spot`
  pub line : (memory memory' : List ℕ) (slots number : ℕ) (line out out' : List ℕ) (ran : Ran)
      → Left (line_outcome (table_in memory slots) number line) ran memory memory' out out'
      → line_told ran.answer ≡ command_told (table_in memory slots) number (command_of line)
      → ((cause : Cause) (place : ℕ) → (ran.answer ≡ Refused cause place) ↔ Declines (line_rows (table_in memory slots) number line) cause place)
      × ((cause : Cause) (place : ℕ) → ran.answer ≡ Refused cause place
      → (memory' ≡ memory) × (table_in memory' ran.slots ≡ table_in memory slots)
      × Shown out (printed 82 (cause_number cause ∷ place ∷ [])) ran.length out')
