-- A rule as the calls hold it: how many words its value and mask have, and the bits of its numbers.
use Rattle.std.specs.Prelude.{◌≡◌, ℕ, ◌<◌, length}
use Rattle.records.specs.declared.Rule.{Rule}

-- a rule as the calls hold it: w words of value and of mask, id, priority and action of 32 bits
pub record Fields (w : ℕ) (r : Rule) : Type 0 where
  pub values : length r.value ≡ w
  pub masks : length r.mask ≡ w
  pub id32 : r.id < 4294967296
  pub priority32 : r.priority < 4294967296
  pub action32 : r.action < 4294967296
