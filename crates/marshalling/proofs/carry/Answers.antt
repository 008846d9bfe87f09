-- `marshalling::carry` meets its contract.
use Rattle.marshalling.proofs.CarriedLaws.{carry_ends}
use Rattle.marshalling.proofs.carry.Goals as goal

pub returns : goal.returns
returns c =
    let a = c.args in
    (carry_ends a.width a.edition a.table.now a.plan.now a.rule.now a.done a.total c.step.ensures.result_value c.carry_answer.ensures, c.step.ensures.table_after)
