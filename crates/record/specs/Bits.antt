-- Bit lists, most significant first, and their bytes.
use Rattle.std.specs.Prelude.{ℕ, zero, suc, ◌+◌, ◌*◌, ◌/◌, ◌%◌, ◌^◌, ◌<◌}
use mathlib.Core.List.{List, [], ◌∷◌, ◌++◌, Memᴰ}

-- every number of the list is below m: bits below 2, bytes below 256
abbrev pub AllBelow : ℕ → List ℕ → Type 0
AllBelow m xs = (x : ℕ) → Memᴰ x xs → x < m

-- the low k bits of x
unfoldable pub bits : ℕ → ℕ → List ℕ
bits zero x = []
bits (suc k) x = x / 2 ^ k % 2 ∷ bits k x

-- how many places the byte in hand has left, and its value so far; then the bits to come
unfoldable pub packed : ℕ → ℕ → List ℕ → List ℕ
packed k value [] = value * 2 ^ k ∷ []
packed zero value (b ∷ bs) = value ∷ packed 7 b bs
packed (suc k) value (b ∷ bs) = packed k (value * 2 + b) bs

-- the bytes of a bit list, the last filled with zero bits
unfoldable pub bytes_of : List ℕ → List ℕ
bytes_of [] = []
bytes_of (b ∷ bs) = packed 7 b bs

unfoldable pub bits_of : List ℕ → List ℕ
bits_of [] = []
bits_of (b ∷ bs) = bits 8 b ++ bits_of bs
