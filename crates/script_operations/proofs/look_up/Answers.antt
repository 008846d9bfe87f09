-- `script_operations::look_up` meets its contract.
-- The answer is the lookup's, and is printed.
use mathlib.Core.Path.{ap, ◌∙◌}
use borrow.Author.Rules.{rules}
use Rattle.records.proofs.WidthsLaws.{two}
use Rattle.lookups.proofs.WidthsLaws.{lookup_at}
use Rattle.script_operations.specs.Outcomes.{lookup_bytes}
use Rattle.script_operations.specs.Told.{looked_told}
use Rattle.script_operations.proofs.OutcomesLaws.{shown_is}
use Rattle.script_operations.proofs.look_up.Goals as goal

pub returns : goal.returns
returns c =
    let found = c.lookup-found.ensures ∙ lookup_at 2 _ _ two (search rules) in
    record { shown = shown_is (ap lookup_bytes found) c.print_lookup-length.ensures; answer_value = c.of_lookup.ensures ∙ ap looked_told found }
