-- When an array has the costs of a table along a direction: they solve the equations of its window ends.
use Rattle.std.specs.Prelude.{Bool, List, ℕ}
use Rattle.records.specs.Record.{listed}
use Rattle.records.specs.Order.{slots}
use Rattle.costs.specs.Costs.{cost_of, SolvedFrom}
use Rattle.windows.specs.Windows.{end_at}

-- costs along one direction: they solve the equations of the table's window ends
abbrev pub Costed : ℕ → Bool → List ℕ → Bool → List ℕ → Type 0
Costed w u t up costs = SolvedFrom (listed (slots w t) (end_at w u t up)) (slots w t) 0 (cost_of costs)
