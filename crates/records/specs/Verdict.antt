-- What a check says: it passes, or fails with its cause and spot; and what of that a function tells that makes it, which is `Ok` or the refusal.
use Rattle.std.specs.Prelude.{ℕ, Result, Ok, Err}
use Rattle.records.specs.declared.Cause.{Cause}
use Rattle.records.specs.declared.Refusal.{Refusal}

pub data Check : Type 0 where
  Pass : Check
  Fail : Cause → ℕ → Check

abbrev pub checked : Result (Unit {0}) Refusal → Check
checked (Ok done) = Pass
checked (Err refused) = Fail refused.cause refused.spot
