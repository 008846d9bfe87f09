-- The checksum by which bytes are tied to a read or a write: bytes as one number in base 256, after a 1, kept small by a modulus at each byte.
-- The modulus is 2^56 − 5, so that a step fits 64 bits.
use Rattle.std.specs.Prelude.{List, [], ◌∷◌, ℕ, ◌+◌, ◌*◌, ◌%◌, take, Option, None, Some}

abbrev pub modulus : ℕ
modulus = 72057594037927931

-- the checksum after more bytes
unfoldable pub checksum_on : ℕ → List ℕ → ℕ
checksum_on sum [] = sum
checksum_on sum (byte ∷ bytes) = checksum_on (sum % modulus * 256 + byte) bytes

-- of bytes from the start
abbrev pub checksum_of : List ℕ → ℕ
checksum_of bytes = checksum_on 1 bytes

-- the bytes of a read by what it answered: so many at the buffer's start, none where it failed
abbrev pub block_of : Option ℕ → List ℕ → List ℕ
block_of (Some k) buffer = take k buffer
block_of None buffer = []
