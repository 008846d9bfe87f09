-- The bits of a number.
use Rattle.std.specs.Prelude.{ℕ, ◌/◌, ◌%◌, ◌^◌}

-- the bit of x at position i, 0 or 1
unfoldable pub bit : ℕ → ℕ → ℕ
bit x i = x / 2 ^ i % 2
