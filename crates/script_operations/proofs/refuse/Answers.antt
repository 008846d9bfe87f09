-- `script_operations::refuse` meets its contract.
-- The number printed is the cause's.
use mathlib.Core.Path.{ap}
use Prim.Native.Nat.{ℕ}
use Rattle.script_answers.specs.Answers.{refusal_bytes}
use Rattle.script_operations.proofs.OutcomesLaws.{shown_is}
use Rattle.script_operations.proofs.refuse.Goals as goal

pub returns : goal.returns
returns c = shown_is (ap (λ (n : ℕ). refusal_bytes n c.args.spot) c.cause_number-number.ensures) c.print_refusal.ensures
