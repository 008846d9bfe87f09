-- Numbers as big-endian bytes, and parts of a list of bytes: written, read, stored over what stood there, and laid one behind another.
-- k is a number of bytes: fields of 2, 4 and 8 are instances.
use Rattle.std.specs.Prelude.{List, [], ◌∷◌, ◌++◌, ℕ, zero, suc, ◌+◌, ◌*◌, ◌/◌, ◌%◌, ◌<◌, length, get_or, take, drop}

-- the k lowest bytes of a number, the highest of them first
unfoldable pub bytes_of : ℕ → ℕ → List ℕ
bytes_of zero n = []
bytes_of (suc k) n = bytes_of k (n / 256) ++ (n % 256 ∷ [])

-- the number that the k bytes at an offset are
unfoldable pub number_at : List ℕ → ℕ → ℕ → ℕ
number_at b at zero = 0
number_at b at (suc k) = number_at b at k * 256 + get_or b (at + k) 0

-- the n bytes at an offset
abbrev pub part : List ℕ → ℕ → ℕ → List ℕ
part b at n = take n (drop at b)

-- the bytes with others stored at an offset
unfoldable pub store : List ℕ → ℕ → List ℕ → List ℕ
store b at bytes = take at b ++ bytes ++ drop (at + length bytes) b

-- the first n pieces, one behind another
unfoldable pub pieces : (ℕ → List ℕ) → ℕ → List ℕ
pieces f zero = []
pieces f (suc n) = pieces f n ++ f n

-- every byte is one
abbrev pub Bytes : List ℕ → Type 0
Bytes b = (i : ℕ) → get_or b i 0 < 256
