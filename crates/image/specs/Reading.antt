-- What the round trip asks of numbers: table words of 64 bits, and an image whose bytes can be numbered in fields of 4 bytes.
use Rattle.std.specs.Prelude.{List, ℕ, ◌≤◌, ◌<◌, get_or}
use Rattle.image.specs.Format.{image_bytes}

-- words of 64 bits, as a lent table has
abbrev pub Words64 : List ℕ → Type 0
Words64 t = (i : ℕ) → get_or t i 0 < 18446744073709551616

-- an image whose bytes can be numbered in its fields of 4 bytes
abbrev pub Numbered : ℕ → Type 0
Numbered w = image_bytes w 1024 ≤ 4294967296
