-- `buffers::without_cover` meets its contract.
-- Number and first value stay.
use mathlib.Core.Path.{sym, ap, ◌∙◌}
use Rattle.std.specs.Prelude.{Result}
use Rattle.records.specs.declared.Refusal.{Refusal}
use Rattle.records.proofs.Laws.{is_refusal}
use Rattle.buffers.specs.declared.InsertInfo.{InsertInfo}
use Rattle.buffers.specs.Buffers.{plan_told, insert_answer_told, without_cover}
use Rattle.buffers.proofs.without_cover.Goals as goal

pub returns-in_err-info : goal.returns-in_err-info
returns-in_err-info c =
    ap plan_told (is_refusal _ c.from_residual.ensures.1) ∙ sym (ap (λ (x : Result InsertInfo Refusal). without_cover (insert_answer_told x)) c.in_err-info.was)

pub returns : goal.returns
returns c = sym (ap (λ (x : Result InsertInfo Refusal). without_cover (insert_answer_told x)) c.in_ok-info.was)
