-- `writes::written_slot` meets its contract.
use mathlib.Core.Path.{sym, ap, ◌∙◌}
use Rattle.plan_words.specs.PlanWords.{write_meant}
use Rattle.plan_words.specs.declared.PlanWrite.{PlanWrite}
use Rattle.carrying.specs.Carrying.{written_slot}
use Rattle.writes.proofs.written_slot.Goals as goal

pub returns-in-Copy : goal.returns-in-Copy
returns-in-Copy c = ap (λ (x : PlanWrite). written_slot (write_meant x)) (sym c.in-Copy.is) ∙ ap written_slot c.write_of.ensures

pub returns-in-PutIn : goal.returns-in-PutIn
returns-in-PutIn c = ap (λ (x : PlanWrite). written_slot (write_meant x)) (sym c.in-PutIn.is) ∙ ap written_slot c.write_of.ensures

pub returns-in-Clear : goal.returns-in-Clear
returns-in-Clear c = ap (λ (x : PlanWrite). written_slot (write_meant x)) (sym c.in-Clear.is) ∙ ap written_slot c.write_of.ensures
