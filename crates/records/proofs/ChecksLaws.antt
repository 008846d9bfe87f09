-- Laws on the lowest slot that fails: a loop over the slots ends in one of two ways.
use Rattle.std.specs.Prelude.{◌≡◌, Bool, true, false, ℕ, ◌<◌}
use Rattle.std.proofs.Common.{arith, lt-ltb, le-ltb}
use Rattle.search.specs.SearchLaws.{least_at, least_none}
use Rattle.records.specs.declared.Cause.{Cause}
use Rattle.records.specs.Verdict.{Pass, Fail}
use Rattle.records.specs.Checks.{lowest}

-- a loop over the slots ends in one of two ways
pub lowest_at_lem : (cause : Cause) (p : ℕ → Bool) (n i : ℕ) → i < n → ((j : ℕ) → j < i → p j ≡ false) → p i ≡ true → Fail cause i ≡ lowest cause p n
unfolding lowest
lowest_at_lem cause p n i h f t = let e = least_at p n i h f t in rw (e, lt-ltb i n h)

pub lowest_none : (cause : Cause) (p : ℕ → Bool) (n : ℕ) → ((j : ℕ) → j < n → p j ≡ false) → Pass ≡ lowest cause p n
unfolding lowest
lowest_none cause p n f = let e = least_none p n f in rw (e, le-ltb n n (omega arith))
