-- `script::malformed` meets its contract.
-- The cause is 13.
use mathlib.Core.Path.{refl, ap}
use Prim.Native.Nat.{ℕ}
use Rattle.script_answers.specs.Answers.{refusal_bytes}
use Rattle.script_operations.proofs.OutcomesLaws.{shown_is}
use Rattle.script.proofs.malformed.Goals as goal

pub returns : goal.returns
returns c = record { answer_value = refl; slots_value = (refl, shown_is (ap (λ (n : ℕ). refusal_bytes n c.args.number) c.cause_number.ensures) c.print_refusal-length.ensures) }
