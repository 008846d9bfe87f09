-- Bits of 64-bit words: one set, cleared or turned, the complement, and the highest. ternary/specs/Bit has `bit` itself.
use Rattle.std.specs.Prelude.{◌≡◌, Bool, List, ℕ, ◌-◌, ◌/◌, ◌%◌, ◌^◌, ◌<◌, eqb, get_or, set}
use Rattle.std.specs.Int.Bits.{bit_and, bit_or, bit_xor}
use Rattle.ternary.specs.Bit.{bit}

-- whether the bit of x at position s is set
unfoldable pub on : ℕ → ℕ → Bool
on x s = eqb (bit x s) 1

-- the complement of x in 64 bits; the bits of x that y lacks
unfoldable pub flipped : ℕ → ℕ
flipped x = (2 ^ 64 - 1) - x

unfoldable pub except : ℕ → ℕ → ℕ
except x y = bit_and x (flipped y)

-- x with bit s set, and with bit s turned
unfoldable pub with_bit : ℕ → ℕ → ℕ
with_bit x s = bit_or x (2 ^ s)

unfoldable pub turned : ℕ → ℕ → ℕ
turned x s = bit_xor x (2 ^ s)

-- x with bit s cleared
unfoldable pub cleared : ℕ → ℕ → ℕ
cleared x s = except x (2 ^ s)

-- a row of words as one long word: with the bit at a place set
unfoldable pub marked : List ℕ → ℕ → List ℕ
marked words place = set words (place / 64) (with_bit (get_or words (place / 64) 0) (place % 64))

-- t is the place of the highest set bit of x
pub record Top (x t : ℕ) : Type 0 where
  pub below : t < 64
  pub hit : bit x t ≡ 1
  pub above : (i : ℕ) → t < i → bit x i ≡ 0
