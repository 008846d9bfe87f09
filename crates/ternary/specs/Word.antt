-- The tests of one word, by masks and exclusive-or against zero, which the code computes.
use Rattle.std.specs.Prelude.{Bool, ℕ, eqb}
use Rattle.std.specs.Int.Bits.{bit_and, bit_or, bit_xor}

-- a and b are equal at each bit of m
unfoldable pub agree : ℕ → ℕ → ℕ → Bool
agree a b m = eqb (bit_and (bit_xor a b) m) 0

-- v has no bit outside m
unfoldable pub inside : ℕ → ℕ → Bool
inside v m = eqb (bit_xor (bit_and v m) v) 0

-- the bits that both masks care for
unfoldable pub both : ℕ → ℕ → ℕ
both m n = bit_and m n

-- a key that agrees with v at each bit of m and with w at each bit of n, where v and w agree at the bits of both
unfoldable pub common : ℕ → ℕ → ℕ → ℕ → ℕ
common v m w n = bit_or (bit_and v m) (bit_and w n)

-- a word of 64 bits, all set
abbrev pub ones : ℕ
ones = 18446744073709551615
